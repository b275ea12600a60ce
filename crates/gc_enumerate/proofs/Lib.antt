pub mod Children
pub mod Kept
pub mod LiveChildren
pub mod MarkLaws
pub mod Marks
pub mod Scans

pub mod Segments
pub mod Cutting

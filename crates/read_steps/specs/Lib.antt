pub mod Counting
pub mod Opening
pub mod Passed
pub mod Readers
pub mod Trees
pub mod Unique
pub mod Visiting
pub mod Walking

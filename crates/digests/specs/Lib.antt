pub mod Ahead
pub mod Texts

pub mod Format
pub mod Packed
pub mod Places
pub mod Reading
pub mod Segments
pub mod Spelling

pub mod Collisions
pub mod Copying
pub mod Entries
pub mod Flushing
pub mod Headers
pub mod Planning

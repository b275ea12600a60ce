pub mod Kinds
pub mod Owning
pub mod Turning
pub mod Turns

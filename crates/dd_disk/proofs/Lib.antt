pub mod Ended
pub mod Gated
mod Blinds
mod Images
pub mod Later
mod Memories
pub mod Moves
pub mod Outside
mod Noting
pub mod Shows
mod Stops
pub mod Writes
pub mod Wrote

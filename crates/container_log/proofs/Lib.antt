mod Bodies
mod Differ
mod FirstBytes
mod FreedInTurn
mod Freeing
mod Gates
pub mod Headers
pub mod Inspected
mod Left
mod One
mod Sealing
pub mod Slots
mod Stores

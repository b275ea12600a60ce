pub mod Formatting
pub mod Inspecting
pub mod Making
pub mod Marking
pub mod Opening
pub mod Room
pub mod Slots

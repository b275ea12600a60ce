mod Blank
mod Formatted
mod Giving
pub mod Inspected
mod MarkedSlots
mod Opens
mod Prelude
mod Pushed
mod Reading
mod Rooms
pub mod Small
mod Spare
mod Steps
mod Storing
mod Used

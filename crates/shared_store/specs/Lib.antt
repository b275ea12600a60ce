pub mod Book
pub mod Calls
pub mod Events
pub mod Histories
pub mod Made
pub mod Passes
pub mod Telling

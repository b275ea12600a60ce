mod Closed
pub mod Changed
pub mod Compared
mod Entered
pub mod Few
pub mod Indexed
mod Newest
pub mod Parts
mod PutAll
pub mod PutBack
pub mod Serving
pub mod Taken

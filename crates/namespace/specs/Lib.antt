pub mod Names
pub mod Numbers
pub mod Keys
pub mod Listing
pub mod Puts

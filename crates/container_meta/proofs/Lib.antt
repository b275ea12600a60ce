pub mod Lists
mod Prelude
pub mod Spelled
pub mod Entries
pub mod Numbers
pub mod Parts
pub mod Found
pub mod Again
pub mod Packing
pub mod Compared
pub mod Cut
pub mod Encoded
pub mod Stored
pub mod KeyEntries
pub mod Digests

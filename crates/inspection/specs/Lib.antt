pub mod Found
pub mod Handing

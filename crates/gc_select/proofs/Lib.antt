pub mod Chosen
pub mod RisingOnce
pub mod Selected

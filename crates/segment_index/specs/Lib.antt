pub mod Changes
pub mod Faults
pub mod Laws
pub mod Places

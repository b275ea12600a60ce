pub mod Copies
pub mod Faults
pub mod Live
pub mod Marking
pub mod Scanning

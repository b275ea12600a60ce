pub mod Bytes
pub mod Checks
pub mod Fault
pub mod Frames
pub mod Known
pub mod Numbers

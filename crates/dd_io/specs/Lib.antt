pub mod Flow
pub mod Script
pub mod Scripted

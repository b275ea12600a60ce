pub mod Rising
pub mod Selecting

pub mod Apart
pub mod Nodes
pub mod Refilled
pub mod RightPins

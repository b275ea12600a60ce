pub mod Fields
pub mod Nodes
pub mod Placing
pub mod Closing
pub mod Groups
mod Prelude
pub mod Pushing
pub mod Finishing
pub mod Progress
pub mod Walking
pub mod TreeLaws
pub mod RightTrees
pub mod RootLaws
pub mod Added
pub mod InOrder
pub mod ChildrenFirst
pub mod Unfolding
pub mod InPlace

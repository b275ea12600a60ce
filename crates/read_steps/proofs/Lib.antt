pub mod Counts
pub mod HeldWalks
mod Named
pub mod Openings
pub mod Reading
pub mod SizedKeys
pub mod TreeWalks
pub mod Visited
pub mod Visits
pub mod Walked
pub mod Walks
pub mod Whole

pub mod Giving
pub mod Ingesting
pub mod Jobs
pub mod Leaving
pub mod Named
pub mod Owing
pub mod Working

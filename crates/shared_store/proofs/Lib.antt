pub mod Booking
pub mod Calling
pub mod Legality
pub mod Passing
pub mod Tellings

pub mod Askable
pub mod Yield
mod Search
mod Reaching
mod Round

pub mod Law
pub mod Counts
pub mod Hand

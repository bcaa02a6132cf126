pub mod Law
pub mod Integers

pub mod Searching
pub mod Deads
pub mod Truth
pub mod Writing
pub mod Copying
pub mod Emptying
pub mod Wiping
pub mod Recycling

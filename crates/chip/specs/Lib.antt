pub mod Meaning
pub mod Calls
pub mod Slot
pub mod Makes
pub mod Shaping
pub mod Gaps
pub mod Pairs
pub mod Fronts

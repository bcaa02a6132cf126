pub mod State
pub mod Tick
pub mod Effects
pub mod Calls
pub mod Walking
pub mod Seen

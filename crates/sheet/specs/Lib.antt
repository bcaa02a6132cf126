pub mod Sheet
pub mod Law

pub mod Plan
pub mod Yield
pub mod Figures

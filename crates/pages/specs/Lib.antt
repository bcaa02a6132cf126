pub mod Search
pub mod Tied
pub mod Write
pub mod Copy
pub mod Recycle

pub mod Text
pub mod Law
pub mod Numbers
pub mod Reader

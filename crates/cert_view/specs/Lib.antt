pub mod Number
pub mod Numbers
pub mod Form
pub mod Line
pub mod Held
pub mod Text
pub mod Laws
pub mod Reading

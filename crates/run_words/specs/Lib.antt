pub mod Words
pub mod Texts
pub mod Files
pub mod Ends
pub mod Opens
pub mod Grammar

pub mod Lists
pub mod Slabs
pub mod Placing
pub mod Closing

pub mod States
pub mod Goes
pub mod Readings
pub mod HeldLines
pub mod Taking
pub mod Ends
pub mod Checked

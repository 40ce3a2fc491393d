pub mod Owing
pub mod Ends
pub mod OptionSteps
pub mod Pieces
pub mod Once
pub mod Failing
pub mod Opening
pub mod Grammar

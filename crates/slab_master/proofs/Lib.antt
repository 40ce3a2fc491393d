pub mod Columns
pub mod Duality
pub mod PivotCounts
pub mod Products
pub mod Ratios

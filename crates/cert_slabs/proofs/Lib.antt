pub mod Listing
pub mod Rising
pub mod ColourCounts
pub mod Covering
pub mod PlanLines
pub mod TallyLines

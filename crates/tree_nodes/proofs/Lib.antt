pub mod StepLists

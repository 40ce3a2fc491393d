pub mod ThreeFiles

pub mod Parts
pub mod EndLaws

pub mod Recording
pub mod Standing

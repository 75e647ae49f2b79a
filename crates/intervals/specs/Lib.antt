pub mod Ranks
pub mod Intervals
pub mod Points
pub mod Laws
pub mod Ranking

-- The lemmas of this crate.
pub mod Eleven
pub mod Transposed
pub mod QuarticSums
pub mod QuarticDots
pub mod QuarticLanes
pub mod ProductLanes

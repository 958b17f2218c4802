-- The lemmas of this crate.
pub mod Columns
pub mod Entrywise
pub mod OneLane
pub mod PlaceSums
pub mod Prepared
pub mod ResidueSums
pub mod PackedSums
pub mod HalvedSums
pub mod Dots
pub mod Spread

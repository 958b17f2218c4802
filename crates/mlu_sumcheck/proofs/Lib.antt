pub mod Rounds
pub mod Folded
pub mod Chains
pub mod Caught

pub mod Lengths
pub mod Reading
pub mod Rounds
pub mod Scales

pub mod Views
pub mod Lending
pub mod Thresholds
pub mod Storage
pub mod Split
pub mod Compressions

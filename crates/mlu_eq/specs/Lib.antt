pub mod Combine
pub mod Half
pub mod Split

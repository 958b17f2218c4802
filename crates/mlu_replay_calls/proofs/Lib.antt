pub mod Colons
pub mod Images
pub mod Lists
pub mod Parsing
pub mod Powers

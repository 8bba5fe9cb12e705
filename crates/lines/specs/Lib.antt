pub mod Put
pub mod Words
pub mod Listing
pub mod Line
pub mod Pieces
pub mod Cutting
pub mod Loops
pub mod Midway

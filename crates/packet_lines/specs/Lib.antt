pub mod Words
pub mod Packets
pub mod Pieces
pub mod Calls
pub mod Blocks

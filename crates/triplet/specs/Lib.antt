pub mod Triplet
pub mod Packet
pub mod Writer

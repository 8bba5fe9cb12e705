pub mod Heard
pub mod Receiver
pub mod Reading
pub mod SaidIsHeard
pub mod KnownPairs

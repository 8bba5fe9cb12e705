pub mod Sending
pub mod Sender
pub mod Drain
pub mod ByParts
pub mod SendsLeft
pub mod Calls
pub mod Replies
pub mod Good

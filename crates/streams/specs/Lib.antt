pub mod AfterRead
pub mod Blocks

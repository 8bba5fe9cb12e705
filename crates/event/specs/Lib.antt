pub mod Mode
pub mod Id
pub mod Event
pub mod IntoCode
pub mod Services
pub mod KnownPairs

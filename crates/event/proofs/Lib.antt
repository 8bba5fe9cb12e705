pub mod OneAnswer
pub mod Back
pub mod IntoCodeLemmas
pub mod Services
pub mod KnownPairs

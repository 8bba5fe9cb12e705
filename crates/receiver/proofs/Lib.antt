pub mod Copies
pub mod OneAnswer
pub mod Step
pub mod SaidIsHeard
pub mod TextIsHeard
pub mod ReportedAgain
pub mod KnownPairs

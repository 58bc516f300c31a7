pub mod Lines
pub mod Words
pub mod Numbers
pub mod Decimals
pub mod Maps
pub mod AgentRows
pub mod Scenarios

pub mod Counts
pub mod Deaths
pub mod Estates
pub mod Examples
pub mod Nearness
pub mod Runs
pub mod Shares

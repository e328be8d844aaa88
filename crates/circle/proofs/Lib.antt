pub mod Bounds
pub mod Living
pub mod Numbers
pub mod Owners
pub mod Sums
pub mod Turns
pub mod Walks

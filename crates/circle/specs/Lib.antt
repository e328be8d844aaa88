pub mod Answers
pub mod Circle
pub mod Laws
pub mod Living
pub mod Sums

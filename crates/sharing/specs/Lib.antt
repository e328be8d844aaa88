pub mod Answers
pub mod Fair
pub mod Sharing
pub mod Small

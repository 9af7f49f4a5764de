-- What the proofs of `explain` share.
pub mod Signs
pub mod Posting
pub mod Search
pub mod Answers

-- Definitions that only contracts between our own crates cite: a reader of what is promised need not believe them. What they are tied to is
-- proved in proofs/.
pub mod Layouts
pub mod Kept
pub mod Posting

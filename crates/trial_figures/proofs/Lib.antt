-- The laws behind the proofs of `trial_figures`.
pub mod Shown

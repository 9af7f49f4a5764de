-- Lemmas for who reads by `streams`.
pub mod Known

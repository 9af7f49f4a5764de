-- The definitions of `whole`: what runs over the numbers below n, and signed numbers with their ranges.
pub mod Below
pub mod Signed

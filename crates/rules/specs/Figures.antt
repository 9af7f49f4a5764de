-- What is computed: the starred figures, and whole files with what settling, the statement, the writer and an explanation say of them.
pub mod Cases
pub mod Files
pub mod Starred
pub mod Numbered
pub mod Amounts
pub mod Printed
pub mod Limits
pub mod Refused
pub mod Written
pub mod Unwritten
pub mod EveryKind
pub mod FiveHeads
pub mod EveryInterval
pub mod HalfCents

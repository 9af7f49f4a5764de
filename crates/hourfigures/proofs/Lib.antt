-- Figures of amounts and hour files, computed. What they state stands in specs/Figures of `rules`; they take longer than all of `rules`, where
-- every must-fail edit would prove them again.
pub mod Numbered
pub mod Amounts
pub mod Limits
pub mod Printed
pub mod Refused
pub mod Written
pub mod EveryKind
pub mod FiveHeads
pub mod HalfCents

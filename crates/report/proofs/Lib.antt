-- Lines of members; what settling's promise says to the statement, and what the statement's own promise says; the same of a ten-minute file; an
-- explanation's text; what the words and the length of an input to write say of its output.
pub mod Lines
pub mod Settled
pub mod Promised
pub mod TenMinutes
pub mod Worded
pub mod Input

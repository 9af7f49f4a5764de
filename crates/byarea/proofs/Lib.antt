-- The laws behind the tally: room for each posting, an area's UFE, refusal 6.
pub mod Tallies

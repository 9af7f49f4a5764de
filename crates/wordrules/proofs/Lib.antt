-- The tables of the definitions as tests, for the functions that choose from them.
pub mod Tests

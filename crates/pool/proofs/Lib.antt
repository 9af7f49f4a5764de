-- What the walks of `pool` rest on, and what settling's promise says to callers with room for every hour.
pub mod Answers
pub mod Rooms

-- What the floors above know of an hour: where its words lie, a record's part of the file has its numbers, a word of 32 bits is its
-- number of 64, an area's UFE and price stand among eight, and what the head says.
pub mod Inside
pub mod Wide
pub mod Rows
pub mod Figures

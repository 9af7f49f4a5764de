-- What an answer's number and place say, and where a body stands; what the walk rests on.
pub mod HandedOut

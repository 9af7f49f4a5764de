-- The laws behind the members' lines: when deviations and shares are worked, and room for each record. Behind the finals and refusal 12:
-- room for a number a member, the steps to the finals, amounts where nobody demands anything.
pub mod Worked
pub mod Lines
mod Places
mod Finals
mod Amounts

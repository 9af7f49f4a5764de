-- Documents 01 and 02 as definitions, in the order in which a reader wants them; then what is promised of them, and figures. What is stated
-- here is proved in proofs/; but the figures of whole files are proved in `hourfigures` and `tenfigures`, which take longer than that.
pub mod Record
pub mod Deviation
pub mod Ufe
pub mod Share
pub mod Charge
pub mod Neutrality
pub mod Text
pub mod HourFile
pub mod HourWords
pub mod Ranges
pub mod Refusals
pub mod Settling
pub mod TenMinutes
pub mod Statement
pub mod Explanation
pub mod RawHour
pub mod Promised
pub mod Figures
pub mod Inner

-- Figures of ten-minute files, computed. A crate of its own, beside `hourfigures`: both are then proved at a time.
pub mod EveryInterval

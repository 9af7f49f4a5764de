-- The laws behind the shares: an area's loads, one area's shares, and the way from no area to all.
mod Loads
mod Areas
mod Hour

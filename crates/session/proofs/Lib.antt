mod Openings
mod Releases

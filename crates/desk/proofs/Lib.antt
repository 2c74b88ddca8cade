mod Closing
mod Ruled
mod Slips
mod Talking

mod Picking
mod Gathered
mod Chosen
mod Lacks
mod Needed

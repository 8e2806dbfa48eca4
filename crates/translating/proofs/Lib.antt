mod Pairs
mod Passes
mod Outcomes

mod Storage
mod Searching
mod Scoping
mod Upkeep
mod Steps

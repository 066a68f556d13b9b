mod Places
mod Reach
mod Searches
mod Steps

mod Links
mod Walks
mod Finds

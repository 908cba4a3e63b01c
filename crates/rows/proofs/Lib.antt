mod Following
mod Causes

mod Positions
mod Prefix

mod Prefixes
mod Viewing

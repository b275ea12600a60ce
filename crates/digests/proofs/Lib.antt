mod Adding
mod Taken

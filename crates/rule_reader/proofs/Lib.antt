mod Listed
mod Stated
mod Ruled

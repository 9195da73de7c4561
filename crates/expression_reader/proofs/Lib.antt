mod Levels
mod Operands

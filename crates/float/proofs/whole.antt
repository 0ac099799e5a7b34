mod Casts
mod Whole

mod Digit
mod Residual
mod Fields
mod Scaled
mod Value
mod Tests

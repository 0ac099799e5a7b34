pub mod Darts

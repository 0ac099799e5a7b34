pub mod Flat
pub mod Reading
pub mod Options
pub mod Obstacles
pub mod Letters
pub mod ByteOrder
pub mod Examples
pub mod Known

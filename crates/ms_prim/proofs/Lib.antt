pub mod SharedSorts
pub mod SharedSettled
pub mod SharedNames
pub mod SharedCuts
pub mod ValuesOf
pub mod Reading
pub mod Bounds
pub mod SharedPushed

pub mod Bits
pub mod Overlays
pub mod Stacks

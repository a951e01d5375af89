pub mod CapturingSample
pub mod Naming

mod CaptureLaws
mod FirstFault
mod Following
mod Marked
mod Members
mod Places
mod Settling
pub mod Trees

pub mod AloneLaws
mod Appending
mod Cuts
pub mod CuttingLaws
mod Endings
mod FirstPlaces
mod Following
pub mod GapLaws
mod Lasting
mod Numbering
mod Readings
mod Semicolons
mod Signing
mod Skipping
mod Taking
mod Widths
pub mod FrontLaws
pub mod FirstTokens
pub mod TokenCuts

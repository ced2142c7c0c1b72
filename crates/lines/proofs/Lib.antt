pub mod Refusals
pub mod Blending
pub mod Choruses
pub mod Cuts
pub mod Places
pub mod Sides

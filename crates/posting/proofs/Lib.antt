pub mod Gathered
pub mod Lines
pub mod Locality
pub mod Entered
pub mod Outside
pub mod Checked
pub mod StandingLimits
pub mod Moving

pub mod Trial
pub mod Cases
pub mod Reports
pub mod Versions

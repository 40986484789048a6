pub mod Findings
pub mod Totals
pub mod Laws

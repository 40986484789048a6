pub mod Next
pub mod Worked
pub mod Extremes

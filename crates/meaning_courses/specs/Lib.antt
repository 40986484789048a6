pub mod Courses
pub mod Laying
pub mod Evaluated

pub mod Answers
pub mod Laws
pub mod Ends
pub mod EndsLaws

pub mod Fronts
pub mod Courses
pub mod Requests
pub mod Carried
pub mod Learnt
pub mod Answers
pub mod Taken
pub mod Standings
pub mod Observed
pub mod Replies
pub mod Windows
pub mod Cut
pub mod Sights
pub mod Versions
pub mod Candidates
pub mod Unrepeated
pub mod Settings
pub mod Explaining
pub mod Judging
pub mod Stepwise
pub mod Setup
mod Examples
mod Again
mod Script

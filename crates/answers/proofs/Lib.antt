pub mod Refusals
pub mod Outcomes
pub mod AnswerLaws
pub mod Settled
pub mod Checked

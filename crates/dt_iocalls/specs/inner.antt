-- Words that only proofs and private contracts cite.
pub mod Answered
pub mod Gathered
pub mod Written

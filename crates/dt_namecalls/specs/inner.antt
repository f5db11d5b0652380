-- Words that only proofs and private contracts cite.
pub mod Names

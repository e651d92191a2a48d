pub mod Values
pub mod OneProof

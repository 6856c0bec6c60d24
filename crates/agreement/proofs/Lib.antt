-- The modules of the proofs.
pub mod Frames
pub mod Laws
pub mod Growth
pub mod EveryState
pub mod Sequences
pub mod Scenario
pub mod SharedWords

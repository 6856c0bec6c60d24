-- The modules of the definitions.
pub mod Frames
pub mod Laws
pub mod Agreement
pub mod Growth
pub mod EveryState
pub mod Pairs
pub mod Silence
pub mod Precedence
pub mod Scenario
pub mod SharedWords
pub mod inner

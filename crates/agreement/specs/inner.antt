-- Definitions that need not be believed: laws that speak of how a desk is kept.
pub mod RowLaws
pub mod OneDesk

-- The modules of the inner definitions. None need be believed.
pub mod IsDesk

pub mod ByteTexts
pub mod Measured
pub mod GroundLemmas
pub mod GroupParts
pub mod SameNames
pub mod RoomBack
pub mod LookParts

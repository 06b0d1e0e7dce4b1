pub mod Covering
pub mod Inner
pub mod ScriptEvents
pub mod SightLists
pub mod SeenSights
pub mod Told
pub mod Parts
pub mod Verdicts

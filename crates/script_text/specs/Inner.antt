-- What tells of the tables of a cover. Private contracts cite it; no public clause does.
pub mod Listed

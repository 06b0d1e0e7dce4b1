-- What mirrors functions of the code, or tells of private fields. Private contracts cite it; no public clause does.
pub mod Keys
pub mod Near

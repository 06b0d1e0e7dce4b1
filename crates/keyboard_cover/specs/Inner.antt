-- What mirrors functions of the code. Private contracts cite it; no public clause does.
pub mod Sights

-- Machines that mirror functions of the code. Private contracts cite them; no public clause does.
pub mod Placed
pub mod LastOf
pub mod Leading

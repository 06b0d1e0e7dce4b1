-- The names of definitions and of std that more than one file of these proofs uses, passed on from one place.
pub use Rattle.std.proofs.Common.{Bool, List, None, Ok, Option, Some, [], All, ap, arith, cond, count_by, drop, false}
pub use Rattle.std.proofs.Common.{get_or}
pub use Rattle.std.proofs.Common.{inl, inr, length, map, nat_lt, not, refl, subst, suc, sym, take, true, zero, ℕ, ◌++◌}
pub use Rattle.std.proofs.Common.{◌+◌}
pub use Rattle.std.proofs.Common.{◌-◌, ◌<◌, ◌==◌, ◌∙◌, ◌∷◌, ◌≡◌, ◌≤◌, ◌⊎◌, true≢false}

-- The names of definitions and of std that more than one file of these proofs uses, passed on from one place.
pub use Rattle.console_states.proofs.Shared.{place_last}
pub use Rattle.std.proofs.Common.{All, Bool, List, MatchOption, None, Option, Some, [], ap, arith, false, filter, inl, inr, length}
pub use Rattle.std.proofs.Common.{if◌then◌else◌, not, refl, rules, subst, sym, true, ℕ, ◌&&◌, ◌++◌, ◌+◌, ◌<◌, ◌==◌, ◌∙◌}
pub use Rattle.std.proofs.Common.{◌∷◌, ◌≡◌, ◌≤◌, ◌⊎◌}
pub use Rattle.std.specs.Prelude.{◌||◌}
pub use Rattle.std.proofs.lemmas.Bool.{cases_Bool, false≢true, true≢false}
pub use Rattle.std.proofs.lemmas.List.Elements.{All-nil, All-push, Contains-push, Contains-push_cases}
pub use Rattle.std.proofs.lemmas.List.Quantifiers.{Any-push, all_pairs_push}
pub use Rattle.std.specs.List.{AllPairs, Any, Contains}

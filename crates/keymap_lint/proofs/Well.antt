-- Where no diagnostic is an error, no modifier sticks.
use Rattle.keymap_lint.proofs.Common.{◌≡◌, Bool, true, false, List, [], ◌∷◌, ap, subst, sym, ◌∙◌, Option, Some, None}
use Rattle.keymap_lint.proofs.Common.{refl, true≢false, MapValue, Faulty, rules}
use Rattle.std.specs.List.{list_any}
use Rattle.std.proofs.lemmas.Bool.{or_parts, or_from}
use Rattle.keymap_lint.specs.Types.{Sticking, Diagnostics, Spelled}
use Rattle.console_states.specs.declared.outcome.Sticking.TheVariants.{Sticks, Never, Undecided}
use Rattle.console_core.specs.History.{in_force}
use Rattle.console_core.specs.Headline.{IsSafe}
use Rattle.console_states.specs.Sticking.{NeverSticks}
use Rattle.console_core.proofs.Shared.{first_in_force, off_once_quiet, on_only_while_pressed}
use Rattle.keymap_lint.specs.Lists.{IsSearched}
use Rattle.keymap_lint.specs.Promises.{names_keys, WellTextsNeverStick}
use Rattle.keymap_lint.specs.Severities.{never_sticks, has_error}
use Rattle.std.proofs.Common.{inl}
use Rattle.keymap_lint.proofs.Named.{keys_are_named_exactly_if_refused, named_is_error}

-- under a safe keymap no modifier sticks
safe_never_sticks : (m : MapValue) → IsSafe m → NeverSticks m
safe_never_sticks m safe ms h (first, loads) keys none =
    let held : IsSafe (in_force ms h) = subst IsSafe (sym (first_in_force ms h (none.0 refl) ∙ first)) safe in
    (on_only_while_pressed ms h held keys, off_once_quiet ms h held keys)

none_by : {X : Type 0} (p q : X → Bool) → ((x : X) → q x ≡ true → p x ≡ true) → (xs : List X) → list_any p xs ≡ false
    → list_any q xs ≡ false
none_by p q h [] e = refl
none_by p q h (x ∷ xs) e =
    let parts = or_parts (p x) (list_any p xs) e in
    or_from (q x) (list_any q xs) (here (q x) refl (p x) refl parts.0) (none_by p q h xs parts.1)
  where
    here : (b : Bool) → q x ≡ b → (a : Bool) → p x ≡ a → p x ≡ false → q x ≡ false
    here false f a g n = f
    here true f a g n = absurd (true≢false (sym (h x f) ∙ n))

none_named : (l : Diagnostics) → never_sticks l.sticking ≡ false → has_error (Spelled l) ≡ false
    → names_keys (Spelled l) ≡ false
none_named l never well = search (rules, none_by, named_is_error)

pub well_texts_never_stick : WellTextsNeverStick
well_texts_never_stick text (Spelled l) (m, spells, (rows, by, (fs, are, is))) well =
    (m, spells, go l.sticking refl is.sticking)
  where
    quietly : never_sticks l.sticking ≡ false → NeverSticks m
    quietly never =
        let named = keys_are_named_exactly_if_refused text m (Spelled l) spells
        (m, spells, (rows, by, (fs, are, is))) in
        safe_never_sticks m (named.1 (inl never) (none_named l never well))

    go : (o : Option Sticking) → l.sticking ≡ o → IsSearched m fs o → NeverSticks m
    go None e s = quietly (ap never_sticks e)
    go (Some Never) e s = s.1.0
    go (Some (Sticks events on)) e s = quietly (ap never_sticks e)
    go (Some (Undecided p)) e s = quietly (ap never_sticks e)
well_texts_never_stick text (Faulty faults) is well = absurd (true≢false well)

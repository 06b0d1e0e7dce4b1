-- What a search decides of the maps that it goes over, said of all that it speaks of.
use Rattle.console_states.proofs.Common.{cases_Bool, inl, inr, ◌≡◌, Bool, true, false, All, List, refl, ap, subst, sym}
use Rattle.console_states.proofs.Common.{◌∙◌, if◌then◌else◌, true≢false, Modifier, Event, Press, Release, Reset, rules}
use Rattle.console_states.proofs.Common.{Load, Sticks, Never, Undecided, on, Maps, between, in_force, resolved}
use Rattle.console_states.proofs.Common.{is_on_after, IsNoLoad, HasNoLoads, HasKeys, IsOffOnceQuiet, Under, with_loads}
use Rattle.console_states.proofs.Common.{script_of_path, AreUnder, Admits, LoadsWhereAny, SticksUnder, IsSent}
use Rattle.console_states.proofs.Common.{NeverSticksUnder}
use Rattle.console_core.specs.Headline.{IsSafe}
use Rattle.std.proofs.lemmas.List.Elements.{All-weaker}
use Rattle.console_states.specs.Sticking.{SafeNeverForgets, SafeNeverSticksBetween, SafeNeverAnswersSticks, AreOnAfter}
use Rattle.console_states.specs.Sticking.{NeverSticksUnlessReached, SticksIfReached}
use Rattle.console_core.proofs.Shared.{first_in_force, off_once_quiet, on_only_while_pressed, without_loads}
use Rattle.console_states.proofs.Scripts.{script-sticks, never-unless_reached}
use Rattle.console_states.proofs.Sparing.{NeverIn}

-- a search speaks of the maps that it goes over
pub under-self : (u : Under) → AreUnder u u.maps
under-self u = (refl, (λ loads. refl))

-- with loads all lists are admitted
pub all-admitted : (ms : Maps) (h : List Event) → Admits (with_loads ms) h
all-admitted ms h = ((λ e. absurd (true≢false e)), (λ later before k e. refl))

-- what is sent has loads only where there are any
no_load : (has_loads : Bool) → has_loads ≡ false → (e : Event) → IsSent has_loads e → IsNoLoad e
no_load has_loads none (Press k) x = refl
no_load has_loads none (Release k) x = refl
no_load has_loads none Reset x = refl
no_load has_loads none Load x = absurd (true≢false (sym x ∙ none))

pub sent-loads : (u : Under) (h : List Event) → All (IsSent u.has_loads) h → LoadsWhereAny u h
sent-loads u h sent none = All-weaker (IsSent u.has_loads) IsNoLoad (no_load u.has_loads none) h sent

-- Of the maps that it speaks of these lists tell the same: without loads, what the first map tells.
pub same-under : (u : Under) (ms : Maps) (h : List Event) → AreUnder u ms → LoadsWhereAny u h
    → (resolved ms h ≡ resolved u.maps h) × (in_force ms h ≡ in_force u.maps h)
same-under u ms h (first, loads) admits = elim (cases_Bool u.has_loads) [
  | inl e ↦ (ap (λ n. resolved n h) (loads e), ap (λ n. in_force n h) (loads e))
  | inr e ↦
      let none : HasNoLoads h = admits e in (
        (without_loads ms h none).1 ∙ ap (λ n. resolved (between n n) h) first ∙ sym (without_loads u.maps h none).1,
        first_in_force ms h none ∙ first ∙ sym (first_in_force u.maps h none),
      )
]

pub on-under : (u : Under) (ms : Maps) (h : List Event) → AreUnder u ms → LoadsWhereAny u h → (i : Modifier)
    → is_on_after ms i h ≡ is_on_after u.maps i h
on-under u ms h under admits i = ap (λ r. on i r) (same-under u ms h under admits).0

-- the modifiers that are on are the same under all maps that a search speaks of
pub are-on-under : (u : Under) (h : List Event) (left : List Modifier) → LoadsWhereAny u h → AreOnAfter u.maps h left
    → (ms : Maps) → AreUnder u ms → AreOnAfter ms h left
are-on-under u h left admits are_on ms under = cc (are_on, (same-under u ms h under admits).0)

pub never-under : (u : Under) → NeverIn u → NeverSticksUnder u
never-under u never ms h under keys admits =
    let (same, in_same) = same-under u ms h under admits.0 in
    let (only, off) = never h keys admits in (
      rw (in_same, same) only,
      subst (λ r. IsOffOnceQuiet h (λ i. on i r)) (sym same) off,
    )

-- where no path leads to where a holder looks up a character, no modifier sticks
pub never_sticks_unless_reached : NeverSticksUnlessReached
never_sticks_unless_reached u never = never-under u (never-unless_reached u never)

-- where a path leads to where a holder looks up a character, the modifier sticks after its script
pub sticks_if_reached : SticksIfReached
sticks_if_reached u path is i k forgets =
    let h : List Event = script_of_path u path k in
    let (keys, sent, (quiet, on)) = script-sticks u path is i k forgets in
    (keys, sent, (quiet, (λ ms under. on-under u ms h under (sent-loads u h sent) i ∙ on)))

-- of two safe maps the one in force is safe
safe_in_force : (ms : Maps) (b : Bool) → IsSafe ms.first → IsSafe ms.second
    → IsSafe (if b then ms.second else ms.first)
safe_in_force ms true first second = second
safe_in_force ms false first second = first

-- loads between two safe keymaps leave no modifier on
pub safe_never_sticks_between : SafeNeverSticksBetween
safe_never_sticks_between ms first second =
    search (rules, never-under, safe_in_force, on_only_while_pressed, off_once_quiet)

-- between two safe keymaps no modifier sticks after a list
safe-none : (ms : Maps) (h : List Event) (i : Modifier) → IsSafe ms.first → IsSafe ms.second → HasKeys h
    → SticksUnder (with_loads ms) h i → ⊥
safe-none ms h i first second keys (quiet, on) =
    true≢false (sym (on ms (under-self (with_loads ms)))
    ∙ (safe_never_sticks_between ms first second ms h (under-self (with_loads ms)) keys (all-admitted ms h)).1 quiet i)

-- between two safe keymaps no path leads to where a holder looks up a character
pub safe_never_forgets : SafeNeverForgets
safe_never_forgets ms first second path is (i, k, forgets) =
    let (keys, sent, sticks) = sticks_if_reached (with_loads ms) path is i k forgets in
    safe-none ms (script_of_path (with_loads ms) path k) i first second keys sticks

-- between two safe keymaps the search doesn't answer that a modifier sticks
pub safe_never_answers_sticks : SafeNeverAnswersSticks
safe_never_answers_sticks ms (Sticks events left) first second ((keys, sent, (i, sticks)), fewest, releases, are_on) =
    search (rules, safe-none)
safe_never_answers_sticks ms Never first second never = refl
safe_never_answers_sticks ms (Undecided p) first second x = refl

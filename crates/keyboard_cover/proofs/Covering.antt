-- What the presses of a script see, and how cases are joined.
use Rattle.std.proofs.Common.{arith, ◌≡◌, ◌⊎◌, inl, inr, ℕ, ◌<◌, true, false, List, [], ◌∷◌, ◌++◌, refl, ap}
use Rattle.std.proofs.Common.{subst, sym, ◌∙◌, length, reverse, rules}
use Rattle.std.proofs.lemmas.List.{reverse-append}
use Rattle.std.specs.Prelude.{◌==◌}
use Rattle.keymap_core.specs.Maps.{MapValue}
use Rattle.console_core.specs.declared.event.Event.{Event}
use Rattle.console_core.specs.declared.event.Event.TheVariants as event
use Rattle.console_core.specs.History.{between}
use Rattle.console_states.specs.Sights.{SeesAlong, SeesNext}
use Rattle.console_states.specs.declared.selection.Sight.{Sight}
use Rattle.keymap_cover.specs.Inner.Scripts.{AddsSights}
use Rattle.keymap_cover.specs.SeenSights.{has_seen}
use Rattle.keymap_cover.specs.ScriptEvents.{event_of, events_of}
use Rattle.keymap_cover.specs.declared.script_event.ScriptEvent.{ScriptEvent}
use Rattle.keymap_cover.specs.declared.seen.Seen.{Seen}
use Rattle.keymap_cover.specs.declared.script_event.ScriptEvent.TheVariants as script_event
use Rattle.keymap_cover.specs.ScriptEvents.{ArePossible, is_down}
use Rattle.keymap_core.specs.Numbers.{key_count}
use Rattle.console_core.specs.History.{pressed}
use Rattle.console_core.proofs.Shared.{pressed-press, pressed-release, pressed-start, held-start, locked-start}
use Rattle.console_core.proofs.Shared.{pending-start, remembered-start, resolved-start}
use Rattle.keymap_core.specs.declared.action.Holding.TheVariants as holding
use Rattle.std.proofs.Common.{if◌then◌else◌, get_or}
use Rattle.std.proofs.lemmas.Bool.{cases_Bool, true≢false, false_from_ne_true, eqb-true}
use Rattle.std.proofs.lemmas.List.{append-nil, length-append, take-append-le, take_all}
use Rattle.std.specs.Prelude.{All}
use Rattle.std.proofs.lemmas.List.Elements.{All-append, All-cons, All-nil}
use Rattle.keyboard_cover.specs.Allowed.{AllMayCome, MayCome}
use Rattle.console_states.specs.declared.allowed.Presses.{Presses}
use Rattle.keyboard_cover.specs.declared.cases.Case.{Case}
use Rattle.keyboard_cover.specs.declared.cases.What.{What}
use Rattle.keyboard_cover.specs.declared.checked.KeyboardScript.{KeyboardScript}
use Rattle.keyboard_cover.specs.Covering.{BeginsAtRest, IsScript, Knows, RunsAlong}
use Rattle.keyboard_cover.specs.Runs.{EndsAtRest, IsRest}
use Rattle.keyboard_cover.specs.Runs.{Standing, run_events}

-- ---- what is seen

firsts : (a b : Event) (g h : List Event) → a ∷ g ≡ b ∷ h → (a ≡ b) × (g ≡ h)
firsts a b g h e = (cc, cc)

sees-cases : (m : MapValue) (e : Event) (h : List Event) (x : Sight) → SeesAlong m (e ∷ h) x
    → SeesAlong m h x ⊎ ((k : ℕ) × (e ≡ event.Press k) × SeesNext m h k x)
sees-cases m e h x ([], before, k, at, sees) = grind (arith, firsts)
sees-cases m e h x (f ∷ later, before, k, at, sees) = grind (arith, firsts)

sees-old : (m : MapValue) (e : Event) (h : List Event) (x : Sight) → SeesAlong m h x → SeesAlong m (e ∷ h) x
sees-old m e h x (later, before, k, at, sees) = (e ∷ later, before, k, ap (λ z. e ∷ z) at, sees)

-- a press adds what it sees
pub knows-press : (m : MapValue) (old now : Seen) (h : List Event) (k : ℕ) → Knows m old h
    → AddsSights m h k (has_seen old) (has_seen now) → Knows m now (event.Press k ∷ h)
knows-press m old now h k knows added x = (
  (λ has.
      elim ((added x).2 has) [
        | inl was ↦ sees-old m (event.Press k) h x ((knows x).0 was)
        | inr sees ↦ ([], h, k, refl, sees)
      ]),
  (λ along.
      elim (sees-cases m (event.Press k) h x along) [
        | inl was ↦ (added x).0 ((knows x).1 was)
        | inr (j, e, sees) ↦
            let same : k ≡ j = cc in
            (added x).1 (subst (λ n. SeesNext m h n x) (sym same) sees)
      ]),
)

-- another event adds nothing
pub knows-other : (m : MapValue) (saw : Seen) (h : List Event) (e : Event) → ((k : ℕ) → e ≡ event.Press k → ⊥)
    → Knows m saw h → Knows m saw (e ∷ h)
knows-other m saw h e other knows x = (
  (λ has. sees-old m e h x ((knows x).0 has)),
  (λ along.
      elim (sees-cases m e h x along) [
        | inl was ↦ (knows x).1 was
        | inr (j, is, sees) ↦ absurd (other j is)
      ]),
)

-- ---- one case behind others

events-append : (a b : List ScriptEvent) → events_of (a ++ b) ≡ events_of a ++ events_of b
events-append [] b = refl
events-append (x ∷ a) b = ap (λ z. event_of x ∷ z) (events-append a b)

pub run-append : (xs ys : List ScriptEvent) → run_events (xs ++ ys) ≡ run_events ys ++ run_events xs
run-append xs ys = ap events_of (reverse-append xs ys) ∙ events-append (reverse ys) (reverse xs)

all-join : (a : Presses) (m : MapValue) (g h : List Event) → AllMayCome a m h g → AllMayCome a m [] h
    → AllMayCome a m [] (g ++ h)
all-join a m [] h all before = before
all-join a m (e ∷ g) h (may, all) before =
    (subst (λ z. MayCome a m z e) (sym (append-nil (g ++ h))) may, all-join a m g h all before)

-- which keys are down is which are pressed
down-pressed : (a : Presses) (m : MapValue) (l : List ScriptEvent) → AllMayCome a m [] (events_of l) → (k : ℕ)
    → is_down k l ≡ pressed k (events_of l)
down-pressed a m [] all k = sym (pressed-start k)
down-pressed a m (script_event.Down j ∷ l) (may, all) k =
    ap (λ b. if j == k then true else b) (down-pressed a m l all k) ∙ sym (pressed-press k j (events_of l))
down-pressed a m (script_event.Repeat j ∷ l) (may, all) k =
    ap (λ b. if j == k then true else b) (down-pressed a m l all k) ∙ sym (pressed-press k j (events_of l))
down-pressed a m (script_event.Up j ∷ l) (may, all) k =
    ap (λ b. if j == k then false else b) (down-pressed a m l all k) ∙ sym (pressed-release k j (events_of l))
down-pressed a m (script_event.Reset ∷ l) (may, all) k = absurd may

-- only keys that there are are pressed
pressed-key : (a : Presses) (m : MapValue) (l : List ScriptEvent) → AllMayCome a m [] (events_of l) → (k : ℕ)
    → is_down k l ≡ true → k < key_count
pressed-key a m [] all k is = absurd (true≢false (sym is))
pressed-key a m (script_event.Down j ∷ l) (may, all) k is =
    search (rules, cases_Bool, eqb-true, pressed-key a m l all k)
pressed-key a m (script_event.Repeat j ∷ l) (may, all) k is =
    search (rules, cases_Bool, eqb-true, pressed-key a m l all k)
pressed-key a m (script_event.Up j ∷ l) (may, all) k is =
    search (rules, cases_Bool, true≢false, pressed-key a m l all k)
pressed-key a m (script_event.Reset ∷ l) (may, all) k is = absurd may

-- at rest no key is down
rest-up : (a : Presses) (m : MapValue) (l : List ScriptEvent) → AllMayCome a m [] (events_of l)
    → IsRest m (events_of l) → (k : ℕ) → is_down k l ≡ false
rest-up a m l all rest k = false_from_ne_true (is_down k l) (λ is.
    true≢false (sym is ∙ down-pressed a m l all k ∙ rest.quiet k (pressed-key a m l all k is)))

down-behind : (a b : List ScriptEvent) → ((k : ℕ) → is_down k b ≡ false) → (k : ℕ)
    → is_down k (a ++ b) ≡ is_down k a
down-behind [] b up k = up k
down-behind (script_event.Down j ∷ a) b up k = ap (λ z. if j == k then true else z) (down-behind a b up k)
down-behind (script_event.Repeat j ∷ a) b up k = ap (λ z. if j == k then true else z) (down-behind a b up k)
down-behind (script_event.Up j ∷ a) b up k = ap (λ z. if j == k then false else z) (down-behind a b up k)
down-behind (script_event.Reset ∷ a) b up k = down-behind a b up k

possible-join : (a b : List ScriptEvent) → ArePossible a → ArePossible b → ((k : ℕ) → is_down k b ≡ false)
    → ArePossible (a ++ b)
possible-join [] b can before up = before
possible-join (x ∷ a) b (can, all) before up =
    search (rules, down-behind, possible-join a b all before up)

-- a case that begins within a script begins so within a longer one
begins-still : (m : MapValue) (xs ys : List ScriptEvent) (x : Case) → BeginsAtRest m xs x
    → BeginsAtRest m (xs ++ ys) x
begins-still m xs ys x (le, rest) = search (rules, length-append, take-append-le)

-- a further case
pub further : (m : MapValue) (a : Presses) (old now : KeyboardScript) (ys : List ScriptEvent) (what : What)
    → IsScript m a old → now.events.items ≡ old.events.items ++ ys
    → now.cases.items ≡ old.cases.items ++ record { what = what; at = length old.events.items } ∷ []
    → AllMayCome a m (run_events old.events.items) (run_events ys) → ArePossible (reverse ys)
    → IsRest m (run_events ys ++ run_events old.events.items)
    → Knows m now.seen (run_events ys ++ run_events old.events.items)
    → IsScript m a now
further m a old now ys what s longer more comes possible rest knows = record {
  comes = subst (λ z. AllMayCome a m [] z) (sym made) (all-join a m (run_events ys) (run_events xs) comes s.comes);
  possible =
      subst ArePossible (sym (ap reverse longer ∙ reverse-append xs ys))
      (possible-join (reverse ys) (reverse xs) possible s.possible (rest-up a m (reverse xs) s.comes s.rest));
  rest = subst (λ z. IsRest m z) (sym made) rest;
  cases =
      subst (λ z. All (BeginsAtRest m z) now.cases.items) (sym longer)
      (subst (λ z. All (BeginsAtRest m (xs ++ ys)) z) (sym more)
      (All-append (BeginsAtRest m (xs ++ ys)) old.cases.items (record { what = what; at = length xs } ∷ [])
      (λ k d lt. begins-still m xs ys (get_or old.cases.items k d) (s.cases k d lt))
      (All-cons (BeginsAtRest m (xs ++ ys)) (record { what = what; at = length xs }) [] begins
      (All-nil (BeginsAtRest m (xs ++ ys))))));
  seen = subst (λ z. Knows m now.seen z) (sym made) knows;
}
  where
    xs : List ScriptEvent
    xs = old.events.items

    begins : BeginsAtRest m (xs ++ ys) (record { what = what; at = length xs })
    begins = search (rules, begins-still, xs, take_all)

    made : run_events now.events.items ≡ run_events ys ++ run_events xs
    made = ap run_events longer ∙ run-append xs ys

-- no cases are a script
rest-start : (m : MapValue) → IsRest m []
rest-start m =
    search (
      rules,
      All-nil,
      pressed-start,
      remembered-start,
      held-start,
      locked-start,
      pending-start,
      resolved-start,
    )

nothing-seen : (m : MapValue) (x : Sight) → SeesAlong m [] x → ⊥
nothing-seen m x ([], before, k, at, sees) = cc
nothing-seen m x (e ∷ later, before, k, at, sees) = cc

pub no-cases : (m : MapValue) (a : Presses) (x : KeyboardScript) → x.events.items ≡ [] → x.cases.items ≡ []
    → ((y : Sight) → has_seen x.seen y ≡ false) → IsScript m a x
no-cases m a x none no_cases unseen = record {
  comes = subst (λ z. AllMayCome a m [] (run_events z)) (sym none) tt;
  possible = subst (λ z. ArePossible (reverse z)) (sym none) tt;
  rest = subst (λ z. IsRest m (run_events z)) (sym none) (rest-start m);
  cases = subst (λ z. All (BeginsAtRest m x.events.items) z) (sym no_cases) (All-nil (BeginsAtRest m x.events.items));
  seen = λ y. (
    (λ has. absurd (true≢false (sym has ∙ unseen y))),
    (λ along. absurd (nothing-seen m y (subst (λ z. SeesAlong m (run_events z) y) none along))),
  );
}

-- a further case, while a console runs along that saw its events behind the others
pub runs-further : {T : Type 0} (stands : Standing T) (m n : MapValue) (a : Presses) (before after : T)
    (old now : KeyboardScript) (ys zs : List ScriptEvent) (what : What) → n ≡ m → zs ≡ ys
    → ((h : List Event) → stands before (between n n) h → Knows n old.seen h
    → stands after (between n n) (run_events zs ++ h) × Knows n now.seen (run_events zs ++ h))
    → now.events.items ≡ old.events.items ++ ys
    → now.cases.items ≡ old.cases.items ++ record { what = what; at = length old.events.items } ∷ []
    → ((h : List Event) → IsRest m h → AllMayCome a m h (run_events ys)) → ArePossible (reverse ys) → EndsAtRest m ys
    → RunsAlong stands m a before old → RunsAlong stands m a after now
runs-further stands m n a before after old now ys zs what same these sees longer more comes possible ends (at, s) =
    let h = run_events old.events.items in
    let (there, knows) = sees h (subst (λ z. stands before (between z z) h) (sym same) at)
    (subst (λ z. Knows z old.seen h) (sym same) s.seen) in (
      subst (λ z. stands after (between m m) z) (sym (ap run_events longer ∙ run-append old.events.items ys))
          (subst (λ z. stands after (between m m) (run_events z ++ h)) these
          (subst (λ z. stands after (between z z) (run_events zs ++ h)) same there)),
      further m a old now ys what s longer more (comes h s.rest) possible (ends h s.rest)
          (subst (λ z. Knows m now.seen (run_events z ++ h)) these
          (subst (λ z. Knows z now.seen (run_events zs ++ h)) same knows)),
    )

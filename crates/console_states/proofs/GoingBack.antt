-- The way back from an entry to the start, the events that are pushed on it, and the script that is written on it.
use Rattle.console_states.proofs.Common.{◌≡◌, ℕ, ◌+◌, ◌<◌, IfSome, List, [], ◌∷◌, ◌++◌, length, get_or, take, slice_get}
use Rattle.console_states.proofs.Common.{Option, Some, None, refl, ap, ◌∙◌, arith, append_assoc, slice_get_within}
use Rattle.console_states.proofs.Common.{same_Some, append-nil, take_more, Modifier, Event, Press, Move, modifiers}
use Rattle.console_states.proofs.Common.{Under, State, state_after, script_of_path, rules, events_along, release_of}
use Rattle.console_states.proofs.Common.{releases, Entry, Entries, IsTrail, Searched, reverse, reverse-append}
use Rattle.console_states.proofs.Common.{reverse-reverse}
use Rattle.console_states.specs.Searching.{GoBack}

-- a further event, with the newest first
pub push-reversed : (old : List Event) (e : Event) → reverse (old ++ e ∷ []) ≡ e ∷ reverse old
push-reversed old e = reverse-append old (e ∷ [])

-- the way back from a place
pub searched-back : {os : List State} (u : Under) (es : Entries) (a b : ℕ) → Searched u os es a b → GoBack es
searched-back u es a b s j x parent by at last = let (o, is, r) = s.reached j x at in back r.0 r.1
  where
    back : (path : List Move) → IsTrail es j path → parent < j
    back [] (y, there, none) = search (rules, same_Some)
    back (move ∷ path) (y, from, there, by_last, lt, rest) = search (rules, same_Some)

-- the moves that are left, where the last of them is told
abbrev pub LeadsBy : Entries → Option (ℕ × Move) → List Move → Type 0
LeadsBy es None [] = Unit {0}
LeadsBy es None (move ∷ path) = ⊥
LeadsBy es (Some last) [] = ⊥
LeadsBy es (Some last) (move ∷ path) = (last.1 ≡ move) × IsTrail es last.0 path

pub trail-leads : (es : Entries) (j : ℕ) (path : List Move) (x : Entry) → slice_get es j ≡ Some x → IsTrail es j path
    → LeadsBy es x.1.last path
trail-leads es j [] x at (y, there, none) = search (rules, same_Some)
trail-leads es j (move ∷ path) x at (y, parent, there, last, lt, rest) = search (rules, same_Some)

-- the moves that were taken back, and those that are left, where the last of them is told
pub move-next : (es : Entries) (last : ℕ × Move) (moves rest target : List Move) → LeadsBy es (Some last) rest
    → moves ++ rest ≡ target → (y : Entry) → slice_get es last.0 ≡ Some y
    → (more : List Move) × ((moves ++ last.1 ∷ []) ++ more ≡ target) × LeadsBy es y.1.last more
move-next es last moves [] target none e y at = absurd none
move-next es last moves (move ∷ path) target (by, trail) e y at = (
  path,
  append_assoc moves (last.1 ∷ []) path ∙ ap (λ b. moves ++ b ∷ path) by ∙ e,
  trail-leads es last.0 path y at trail,
)

-- the events to a place, a press there, and the releases of the holders
pub script-is : (u : Under) (path : List Move) (k : ℕ) (s : State) (out events : List Event)
    → reverse out ≡ events_along path ++ [] → events ≡ (out ++ Press k ∷ []) ++ reverse (releases s modifiers)
    → state_after u path ≡ s → reverse events ≡ script_of_path u path k
script-is u path k s out events is e at =
    search (rules, reverse-append, reverse-reverse, push-reversed, append-nil)

-- the releases of further holders
releases-append : (s : State) (xs ys : List Modifier) → releases s (xs ++ ys) ≡ releases s xs ++ releases s ys
releases-append s [] ys = refl
releases-append s (i ∷ xs) ys =
    cc (releases-append s xs ys, append_assoc (release_of (s.holder i)) (releases s xs) (releases s ys))

-- the releases of the holders so far, with one more
pub releases-more : (s : State) (n : ℕ) (d : Modifier) → n < 8
    → releases s (take (n + 1) modifiers)
    ≡ releases s (take n modifiers) ++ release_of (s.holder (get_or modifiers n d))
releases-more s n d lt =
    ap (λ z. releases s z) (take_more modifiers n d lt)
    ∙ releases-append s (take n modifiers) (get_or modifiers n d ∷ [])
    ∙ ap (λ z. releases s (take n modifiers) ++ z) (append-nil (release_of (s.holder (get_or modifiers n d))))

-- an entry's parent is one of the entries
pub within-last : (es : Entries) (j : ℕ) (x : Entry) → GoBack es → slice_get es j ≡ Some x
    → IfSome x.1.last (λ last. last.0 < length es)
within-last es j x back at = by x.1.last refl
  where
    by : (o : Option (ℕ × Move)) → x.1.last ≡ o → IfSome o (λ last. last.0 < length es)
    by None e = tt
    by (Some (parent, move)) e =
        let lt : parent < j = back j x parent move at e in
        let le : j < length es = slice_get_within es j x at in
        omega (arith, lt, le)

-- the places that are left on the way back
abbrev pub places_left : Option (ℕ × Move) → ℕ
places_left None = 0
places_left (Some last) = last.0 + 1

-- the way back from an entry gets shorter
pub left-smaller : (es : Entries) (parent : ℕ) (move : Move) (y : Entry) (last : Option (ℕ × Move)) → GoBack es
    → slice_get es parent ≡ Some y → last ≡ Some (parent, move)
    → places_left y.1.last < places_left last
left-smaller es parent move y last back at e = search rules

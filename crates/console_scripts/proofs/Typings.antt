-- Characters typed one after another, and that a console is as new behind them.
use Rattle.console_states.proofs.Shared.{none-along}
use Rattle.console_scripts.proofs.Common.{◌==◌, true≢false}
use Rattle.console_scripts.proofs.Common.{zero, suc, ◌≡◌, ◌+◌, ◌<◌, ◌≤◌, ◌⊎◌, ℕ, Bool, inl, inr, true, false, List, []}
use Rattle.console_scripts.proofs.Common.{◌∷◌, ◌++◌, All, Option, Some, None, refl, ap, subst, sym, ◌∙◌, arith}
use Rattle.console_scripts.proofs.Common.{append_assoc}
use Rattle.console_scripts.proofs.Common.{map, reverse, take, length, get_or, slice_get, if◌then◌else◌, filter, rules}
use Rattle.console_scripts.proofs.Common.{reverse-append, reverse-reverse, take_more, take_all}
use Rattle.console_scripts.proofs.Common.{All-nil, none-some, same_Some, MapValue, Event, Answer, between}
use Rattle.console_scripts.proofs.Common.{accent_pending_after, HasKey, HasKeys, alone, State, start, state_from}
use Rattle.console_scripts.proofs.Common.{events_along, CanType, IsAsNew, plainly, types_something, HasTyped, CanReturn}
use Rattle.console_scripts.proofs.Common.{TypesOne, state_of, kept_if, typed_along, IsQuiet, Stands, append-nil, drop}
use Rattle.console_scripts.proofs.Common.{pending-start, resolved-start, home-start, path-first}
use Rattle.console_scripts.specs.Inner.Exploring.{GoesHome}
use Rattle.console_core.specs.History.{answers_to}
use Rattle.std.proofs.Math.Seq.{drop-append_seam}
use Rattle.std.proofs.lemmas.List.{map_push, length-append, length-map, length-take-le, take-append-le}
use Rattle.std.proofs.lemmas.List.Elements.{All-push}
use Rattle.console_scripts.specs.declared.typing.Keyed.{Keyed}
use Rattle.console_scripts.specs.declared.typing.Typing.{Typing}
use Rattle.keymap_core.proofs.Shared.{All-reversed}
use Rattle.keyboard.specs.declared.board.Board.{Board}
use Rattle.console_scripts.specs.Typing.{AreEnds, AreParts, AreTyped, IsSearchError, IsTypingError, Types}
use Rattle.console_scripts.specs.Typing.{characters_of}
use Rattle.console_scripts.specs.declared.typing.TypingError.{TypingError}
use Rattle.console_scripts.specs.declared.typing.TypingError.TheVariants.{Memory, NoWay, TooManyStates}
use Rattle.console_scripts.specs.Ways.{GoWaysFrom, GoesWay, IsTypedAlone, TakesWay, TakesWayOf, ending_with}
use Rattle.console_scripts.specs.Ways.{events_of_way}
use Rattle.console_scripts.specs.declared.classes.Class.{Class}
use Rattle.console_scripts.specs.declared.typing.Step.{Step}
use Rattle.console_scripts.specs.declared.courses.Target.{Target}
use Rattle.console_states.proofs.Shared.{none-along, path-off}
use Rattle.console_scripts.proofs.Common.{resting_after, same_states}
use Rattle.console_core.proofs.Shared.{reverse-cons}
use Rattle.console_scripts.proofs.Exploring.{returns-origin, start-returns}
use Rattle.console_scripts.proofs.Common.{Scroll, is_locked_after}
use Rattle.console_core.proofs.Shared.{locked-start}
use Rattle.console_states.proofs.Shared.{each-lock, idle-none, pending-is, stands-start}
use Rattle.console_scripts.proofs.Taps.{quiet-free, walked}

-- a console that stands at the start, with nothing pending, is as a new one
pub as-new : (m : MapValue) (h : List Event) → Stands (alone m) h start → accent_pending_after (between m m) h ≡ None
    → is_locked_after (between m m) Scroll h ≡ false → IsAsNew m h
as-new m h st none scroll = search (rules, quiet-free, idle-none, none-some, each-lock)

-- the answers that type something, in their order
kept-filter : (t : Bool) (a : Answer) (xs ys : List Answer)
    → reverse (if t then a ∷ xs else xs) ++ ys ≡ reverse xs ++ (kept_if t a ++ ys)
kept-filter true a xs ys = cc (reverse-append (a ∷ []) xs, append_assoc (reverse xs) (a ∷ []) ys)
kept-filter false a xs ys = refl

answers-along : (m : MapValue) (h es : List Event)
    → typed_along m (reverse es ++ h)
    ≡ reverse (filter types_something (answers_to (between m m) h es)) ++ typed_along m h
answers-along m h [] = refl
answers-along m h (e ∷ es) = search (rules, reverse-cons, kept-filter, answers-along m (e ∷ h) es)

map-reverse : {A B : Type 0} (f : A → B) (xs : List A) → map f (reverse xs) ≡ reverse (map f xs)
map-reverse f [] = refl
map-reverse f (x ∷ xs) =
    cc (reverse-append (x ∷ []) xs, map_push f (reverse xs) x, map-reverse f xs, reverse-append (f x ∷ []) (map f xs))

typed-answers : (m : MapValue) (es : List Event) (cs : List ℕ) → typed_along m (reverse es) ≡ map plainly (reverse cs)
    → Types m es cs
typed-answers m es cs e =
    let xs : List Answer = filter types_something (answers_to (between m m) [] es) in
    let back : reverse xs ≡ map plainly (reverse cs) =
    cc (append-nil (reverse xs), answers-along m [] es, append-nil (reverse es), e) in
    sym (reverse-reverse xs) ∙ ap (λ z. reverse z) (back ∙ map-reverse plainly cs) ∙ reverse-reverse (map plainly cs)

-- ---- one after another

-- where the last character ends
abbrev pub last_end : ℕ → List Keyed → ℕ
last_end from [] = from
last_end from (k ∷ ks) = last_end k.end ks

-- the characters up to the place were typed, each with a press of the key at the end, if one is told
pub record HaveBeenTyped (key : Option ℕ) (b : Board) (m : MapValue) (cs : List ℕ) (place : ℕ) (keyed : List Keyed)
    (es : List Event) (s : State) : Type 0
  where
    pub can_return : CanReturn m s
    pub characters : characters_of keyed ≡ take place cs
    pub ends : AreEnds 0 keyed (length es)
    pub parts : AreParts m cs keyed es
    pub last : last_end 0 keyed ≡ length es
    pub ways : key ≡ None → GoWaysFrom b m es 0 keyed
    pub can : All (λ c. CanType m c) (take place cs)
    pub typed : HasTyped m (reverse es) s None (take place cs)
    pub below : place ≤ length cs

pub typed-none : (key : Option ℕ) (b : Board) (m : MapValue) (cs : List ℕ) (keyed : List Keyed) (es : List Event)
    (s : State) → keyed ≡ [] → es ≡ [] → s ≡ start
    → HaveBeenTyped key b m cs 0 keyed es s
typed-none key b m cs keyed es s none nothing is = record {
  can_return = subst (λ t. CanReturn m t) (sym is) (start-returns m);
  characters = ap characters_of none;
  ends = subst (λ z. AreEnds 0 z (length es)) (sym none) (omega arith);
  parts = subst (λ z. AreParts m cs z es) (sym none) (λ i k at. absurd (none-some k at));
  last = subst (λ z. last_end 0 z ≡ length es) (sym none) (ap length (sym nothing));
  ways = λ any. subst (λ z. GoWaysFrom b m es 0 z) (sym none) tt;
  can = All-nil (λ c. CanType m c);
  typed = record {
    stands = rw (nothing, is) (stands-start (alone m));
    changes = rw nothing tt;
    pending = cc (nothing, pending-is m [], resolved-start (between m m), pending-start m);
    scroll = rw (nothing, resolved-start (between m m)) (locked-start Scroll);
    typed = ap (λ z. typed_along m (reverse z)) nothing;
  };
  below = omega arith;
}

-- the element at a place of a list with one more is an old one or the last
last-cases : {X : Type 0} (xs : List X) (y x : X) (i : ℕ) → slice_get (xs ++ y ∷ []) i ≡ Some x
    → (slice_get xs i ≡ Some x) ⊎ ((i ≡ length xs) × (y ≡ x))
last-cases [] y x zero at = inr (refl, same_Some y x at)
last-cases [] y x (suc i) at = absurd (none-some x at)
last-cases (z ∷ xs) y x zero at = inl at
last-cases (z ∷ xs) y x (suc i) at =
    elim (last-cases xs y x i at) [ inl old ↦ inl old | inr new ↦ inr (ap (λ n. suc n) new.0, new.1) ]

-- a further end behind the others
ends-more : (from last : ℕ) (ks : List Keyed) (k : Keyed) → AreEnds from ks last → last ≤ k.end
    → AreEnds from (ks ++ k ∷ []) k.end
ends-more from last [] k ends le = (omega (arith, ends, le), omega arith)
ends-more from last (j ∷ ks) k ends le = (ends.0, ends-more j.end last ks k ends.1 le)

ends-later : (from last later : ℕ) (ks : List Keyed) → AreEnds from ks last → last ≤ later → AreEnds from ks later
ends-later from last later [] ends le = omega (arith, ends, le)
ends-later from last later (j ∷ ks) ends le = (ends.0, ends-later j.end last later ks ends.1 le)

-- what parts type stays so when events are added
parts-later : (m : MapValue) (cs : List ℕ) (ks : List Keyed) (es more : List Event) → AreParts m cs ks es
    → AreParts m cs ks (es ++ more)
parts-later m cs ks es more parts i k at =
    let (le, quiet, types) = parts i k at in
    let same : take k.end es ≡ take k.end (es ++ more) = sym (take-append-le k.end es more le) in (
      omega (arith, le, length-append es more),
      subst (λ z. IsQuiet (reverse z)) same quiet,
      subst (λ z. Types m z (take (i + 1) cs)) same types,
    )

-- the events that a way adds stand behind the old ones
added-behind : (b : Board) (m : MapValue) (c : Target) (s : State) (step : Step) (old now : List Event)
    → (types : TypesOne b m c s (reverse old) (reverse now) step) → now ≡ old ++ reverse types.added
added-behind b m c s step old now types =
    cc (reverse-reverse now, types.events, reverse-append types.added (reverse old), reverse-reverse old)

pub fits-behind : (b : Board) (m : MapValue) (c : Target) (s : State) (step : Step) (old now : List Event)
    → TypesOne b m c s (reverse old) (reverse now) step → length old ≤ length now
fits-behind b m c s step old now types =
    omega (arith, ap length (added-behind b m c s step old now types), length-append old (reverse types.added))

-- the events that are added to others are a way by themselves
pub types-alone : (b : Board) (m : MapValue) (c : Target) (s : State) (step : Step) (old now : List Event)
    → TypesOne b m c s (reverse old) (reverse now) step → TypesOne b m c s [] (reverse (drop (length old) now)) step
types-alone b m c s step old now types = record {
  can = types.can;
  can_return = types.can_return;
  added = types.added;
  events = ap (λ z. reverse (drop (length old) z)) (added-behind b m c s step old now types)
      ∙ ap (λ z. reverse z) (drop-append_seam old (reverse types.added)) ∙ reverse-reverse types.added
      ∙ sym (append-nil types.added);
  way = types.way;
  types = types.types;
}

-- events that type a character, behind others
pub types-behind : (b : Board) (m : MapValue) (c : Target) (s : State) (step : Step) (old es now : List Event)
    → TypesOne b m c s [] (reverse es) step → now ≡ old ++ es → TypesOne b m c s (reverse old) (reverse now) step
types-behind b m c s step old es now types e = search (rules, reverse-append, append-nil)

-- a console rests where it stands with nothing held
rests : (m : MapValue) (h : List Event) (s : State) → Stands (alone m) h s → CanReturn m s → resting_after m h ≡ s
rests m h s st can = search (rules, same_states, each-lock, path-off, path-first, none-along)

ends-within : (from last : ℕ) (ks : List Keyed) → AreEnds from ks last → from ≤ last
ends-within from last [] ends = ends
ends-within from last (k ∷ ks) ends =
    let le : k.end ≤ last = ends-within k.end last ks ends.1 in omega (arith, le, ends.0)

-- what ways events go stays so when events are added
ways-later : (b : Board) (m : MapValue) (es more : List Event) (from : ℕ) (ks : List Keyed)
    → AreEnds from ks (length es) → GoWaysFrom b m es from ks → GoWaysFrom b m (es ++ more) from ks
ways-later b m es more from [] ends go = tt
ways-later b m es more from (k ∷ ks) ends (goes, go) =
    let le : k.end ≤ length es = ends-within k.end (length es) ks ends.1 in
    let before : take from es ≡ take from (es ++ more) =
    sym (take-append-le from es more (omega (arith, le, ends.0))) in
    let behind : take k.end es ≡ take k.end (es ++ more) = sym (take-append-le k.end es more le) in (
      subst (λ z. GoesWay b m (reverse z) k.character (reverse (drop from (take k.end (es ++ more))))) before
          (subst (λ z. GoesWay b m (reverse (take from es)) k.character (reverse (drop from z))) behind goes),
      ways-later b m es more k.end ks ends.1 go,
    )

-- a further character
ways-more : (b : Board) (m : MapValue) (es : List Event) (from : ℕ) (ks : List Keyed) (k : Keyed)
    → GoWaysFrom b m es from ks
    → GoesWay b m (reverse (take (last_end from ks) es)) k.character
    (reverse (drop (last_end from ks) (take k.end es)))
    → GoWaysFrom b m es from (ks ++ k ∷ [])
ways-more b m es from [] k go goes = (goes, tt)
ways-more b m es from (j ∷ ks) k go goes = (go.0, ways-more b m es j.end ks k go.1 goes)

last-more : (from : ℕ) (ks : List Keyed) (k : Keyed) → last_end from (ks ++ k ∷ []) ≡ k.end
last-more from [] k = refl
last-more from (j ∷ ks) k = last-more j.end ks k

-- the events that were added go the way of their character
goes-added : (b : Board) (m : MapValue) (s : State) (c : ℕ) (es added : List Event) (last : ℕ)
    → resting_after m (reverse es) ≡ s → last ≡ length (es ++ reverse added) → TakesWay b m s c added
    → GoesWay b m (reverse (take (length es) (es ++ reverse added))) c
    (reverse (drop (length es) (take last (es ++ reverse added))))
goes-added b m s c es added last rest ends takes =
    let all : take last (es ++ reverse added) ≡ es ++ reverse added =
    take_all last (es ++ reverse added) (omega (arith, ends)) in
    let before : take (length es) (es ++ reverse added) ≡ es =
    take-append-le (length es) es (reverse added) (omega arith) ∙ take_all (length es) es (omega arith) in
    let behind : reverse (drop (length es) (take last (es ++ reverse added))) ≡ added =
    ap (λ z. reverse (drop (length es) z)) all
    ∙ ap (λ z. reverse z) (drop-append_seam es (reverse added)) ∙ reverse-reverse added in
    subst (λ z. TakesWay b m (resting_after m (reverse (take (length es) (es ++ reverse added)))) c z) (sym behind)
    (subst (λ z. TakesWay b m (resting_after m (reverse z)) c added) (sym before)
    (subst (λ z. TakesWay b m z c added) (sym rest) takes))

pub typed-one : (key : Option ℕ) (b : Board) (m : MapValue) (cs : List ℕ) (place : ℕ) (keyed after : List Keyed)
    → (es now : List Event) (s : State) (k : Keyed) (step : Step) → HaveBeenTyped key b m cs place keyed es s
    → place < length cs → k.character ≡ get_or cs place k.character → k.end ≡ length now
    → TypesOne b m (ending_with key k.character) s (reverse es) (reverse now) step → after ≡ keyed ++ k ∷ []
    → HaveBeenTyped key b m cs (place + 1) after now (state_of step.next)
typed-one key b m cs place keyed after es now s k step x lt is ends types e =
    let next : State = state_of step.next in
    let c : ℕ = k.character in
    let t : Target = ending_with key c in
    let more : take (place + 1) cs ≡ take place cs ++ c ∷ [] =
    take_more cs place c lt ∙ ap (λ z. take place cs ++ z ∷ []) (sym is) in
    let typed : HasTyped m (reverse now) next None (take (place + 1) cs) =
    rw (more, types.events) (types.types (reverse es) (take place cs) x.typed) in
    let behind : now ≡ es ++ reverse types.added = added-behind b m t s step es now types in
    let le : length es ≤ length now = fits-behind b m t s step es now types in
    let count : length keyed ≡ place =
    sym (length-map keyed (λ (k : Keyed). k.character)) ∙ ap length x.characters
    ∙ length-take-le place cs x.below in
    record {
      can_return = types.can_return;
      characters = ap characters_of e ∙ map_push (λ (k : Keyed). k.character) keyed k
          ∙ ap (λ z. z ++ c ∷ []) x.characters ∙ sym more;
      ends = rw (e, ← ends) (ends-more 0 (length es) keyed k x.ends (omega (arith, ends, le)));
      parts = λ i j at. elim (last-cases keyed k j i (subst (λ z. slice_get z i ≡ Some j) e at)) [
        | inl old ↦ rw behind (parts-later m cs keyed es (reverse types.added) x.parts i j old)
        | inr (here, same) ↦
            let end : j.end ≡ length now = ap (λ (z : Keyed). z.end) (sym same) ∙ ends in
            let all : take j.end now ≡ now = take_all j.end now (omega (arith, end)) in (
              omega (arith, end),
              rw all (quiet-free (alone m) (reverse now) next typed.stands types.can_return.free),
              rw (here ∙ count, all) (typed-answers m now (take (place + 1) cs) typed.typed),
            )
      ];
      last = ap (λ z. last_end 0 z) e ∙ last-more 0 keyed k ∙ ends;
      ways = λ none. rw (e) (ways-more b m now 0 keyed k
          (rw behind (ways-later b m es (reverse types.added) 0 keyed x.ends (x.ways none)))
          (rw (x.last, behind) (goes-added b m s c es types.added k.end
          (rests m (reverse es) s x.typed.stands x.can_return) (ends ∙ ap length behind) (
            step.class,
            step.before,
            subst (λ z. TakesWayOf step.class step.before b m s (ending_with z c) types.added)
                none types.way,
          ))));
      can = rw more (All-push (λ c. CanType m c) (take place cs) c x.can types.can);
      typed = typed;
      below = omega (arith, lt);
    }

-- all were typed, and the console is home
pub typed-all : (key : Option ℕ) (b : Board) (m : MapValue) (cs : List ℕ) (place : ℕ) (x : Typing) (es : List Event)
    (s : State) → HaveBeenTyped key b m cs place x.keyed.items es s → take place cs ≡ cs
    → GoesHome (alone m) s (reverse es) (reverse x.events.items) → (cs ≡ [] → x.events.items ≡ [])
    → AreTyped m cs x
typed-all key b m cs place x es s typed all (back, is, home, e) none =
    let now : List Event = x.events.items in
    let there : State = state_from (alone m) s back in
    let first : there.is_second ≡ false =
    cc (path-first m s back is, typed.can_return.leads, path-first m start typed.can_return.path typed.can_return.is) in
    let ends : there ≡ start = home-start there home first
    (none-along (alone m) refl s back is (returns-origin m s typed.can_return).1) in
    let end : HasTyped m (reverse now) start None cs =
    rw (e, ← ends, ← all) (walked m (reverse es) s None (take place cs) back typed.typed is) in
    let behind : now ≡ es ++ reverse (events_along back) =
    cc (reverse-reverse now, e, reverse-append (events_along back) (reverse es), reverse-reverse es) in
    record {
      characters = typed.characters ∙ all;
      ends = ends-later 0 (length es) (length now) x.keyed.items typed.ends
          (omega (arith, ap length behind, length-append es (reverse (events_along back))));
      keys = subst HasKeys (reverse-reverse now) (All-reversed HasKey (reverse now) end.stands.keys);
      changes = end.changes;
      none = none;
      types = typed-answers m now cs end.typed;
      parts = rw behind (parts-later m cs x.keyed.items es (reverse (events_along back)) typed.parts);
      new = as-new m (reverse now) end.stands end.pending end.scroll;
    }

-- so are the ways, with the events home behind them
pub ways-all : (b : Board) (m : MapValue) (cs : List ℕ) (place : ℕ) (x : Typing) (es : List Event) (s : State)
    → HaveBeenTyped None b m cs place x.keyed.items es s → GoesHome (alone m) s (reverse es) (reverse x.events.items)
    → GoWaysFrom b m x.events.items 0 x.keyed.items
ways-all b m cs place x es s typed (back, is, home, e) =
    let behind : x.events.items ≡ es ++ reverse (events_along back) =
    cc (reverse-reverse x.events.items, e, reverse-append (events_along back) (reverse es), reverse-reverse es) in
    rw behind (ways-later b m es (reverse (events_along back)) 0 x.keyed.items typed.ends (typed.ways refl))

-- nothing is typed where there was nothing to type
pub typed-nothing : (b : Board) (m : MapValue) (cs : List ℕ) (x : Typing) → cs ≡ [] → x.keyed.items ≡ []
    → x.events.items ≡ [] → AreTyped m cs x
typed-nothing b m cs x empty keyed events =
    typed-all None b m cs 0 x [] start (typed-none None b m cs x.keyed.items [] start keyed refl refl) (sym empty)
    ([], tt, ((λ i. refl), (λ l. refl)), ap (λ z. reverse z) events) (λ e. events)

-- events go the way also with more behind it
goes-on : (w : Class) (n : ℕ) (b : Board) (m : MapValue) (s : State) (c : Target) (es more : List Event)
    → TakesWayOf w n b m s c es → TakesWayOf w n b m s c (more ++ es)
goes-on w n b m s c es more (inl (x, later, taken, count, e)) =
    inl (x, more ++ later, taken, count, ap (λ z. more ++ z) e ∙ sym (append_assoc more later (events_of_way x)))
goes-on w n b m s c es more (inr many) = inr many

-- a character by itself, and the events home
pub typed-alone : (b : Board) (m : MapValue) (c : Target) (x : Typing) (es : List Event) (step : Step) (k : Keyed)
    → TypesOne b m c start [] (reverse es) step → k.character ≡ c.character → k.end ≡ length es
    → x.keyed.items ≡ k ∷ [] → GoesHome (alone m) (state_of step.next) (reverse es) (reverse x.events.items)
    → IsTypedAlone step.class step.before b m c x
typed-alone b m c x es step k types is ends keyed (back, goes, home, e) =
    let cs : List ℕ = c.character ∷ [] in
    let s : State = state_of step.next in
    let typed : HaveBeenTyped c.last b m cs 1 x.keyed.items es s =
    typed-one c.last b m cs 0 [] x.keyed.items [] es start k step (typed-none c.last b m cs [] [] start refl refl refl)
    (omega arith) is ends (subst (λ z. TypesOne b m (ending_with c.last z) start [] (reverse es) step) (sym is) types)
    keyed in (
      typed-all c.last b m cs 1 x es s typed refl (back, goes, home, e)
          (λ e. absurd (true≢false (ap (λ z. length z == 0) (sym e)))),
      subst (λ z. TakesWayOf step.class step.before b m start c z)
          (sym (e ∙ ap (λ z. events_along back ++ z) (types.events ∙ append-nil types.added)))
          (goes-on step.class step.before b m start c types.added (events_along back) types.way),
    )

-- why a search gives up characters aren't typed
pub gives-up : (m : MapValue) (cs : List ℕ) (e : TypingError) → IsSearchError m e → IsTypingError m cs e
gives-up m cs Memory is = is
gives-up m cs (NoWay n) is = absurd is
gives-up m cs TooManyStates is = is

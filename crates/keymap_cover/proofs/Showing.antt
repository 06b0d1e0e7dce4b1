-- A console goes from visit to visit, and sees what can be seen.
use Rattle.std.proofs.Common.{rules}
use Rattle.keymap_cover.proofs.Common.{suc, ◌≡◌, ℕ, ◌+◌, ◌<◌, ◌≤◌, true, false, List, [], ◌∷◌, ◌++◌, refl}
use Rattle.keymap_cover.proofs.Common.{ap, subst, sym, inl, inr, ◌∙◌, arith, append_assoc, length, get_or, reverse}
use Rattle.keymap_cover.proofs.Common.{Contains, eqb-true, eq-eqb, true≢false, IsSeenBy, HoldParts}
use Rattle.std.proofs.lemmas.Bool.{false_from_ne_true}
use Rattle.std.proofs.lemmas.List.Elements.{Contains-append_right}
use Rattle.keymap_cover.specs.declared.parts.Start.{Start}
use Rattle.keymap_cover.specs.Parts.{starts_at}
use Rattle.keymap_cover.proofs.Common.{get_or_default, All-nil, All-cons, Contains-append_cases, MapValue, Event, Sight}
use Rattle.keymap_cover.proofs.Common.{Standing, SeesAlong, IsReachable, CanVisit, ScriptEvent, Script}
use Rattle.keymap_cover.proofs.Common.{alone, between, has_seen, take}
use Rattle.keymap_cover.proofs.Common.{SeesKeysBy, SeesToldBy, reverse-append}
use Rattle.keymap_cover.proofs.Common.{all_cells, all_lock_settings, event_of, events_of, is_down, pairs_in}
use Rattle.keymap_cover.proofs.Common.{GoesAlongToRest, ComesAfter, AreUp, GoesUnderWay}
use Rattle.std.proofs.Common.{length-append}
use Rattle.std.proofs.Common.{◌-◌, drop}
use Rattle.std.proofs.Math.Seq.{drop-append_seam, take-add}
use Rattle.std.proofs.lemmas.List.{length-reverse, length-take-le, take_all}
use Rattle.console_core.specs.History.{HasNoLoads, IsNoLoad, is_locked_after}
use Rattle.console_scripts.specs.Typing.{ComesHome}
use Rattle.console_scripts.specs.Visiting.{CanReach, EndsSeeing, IsNearHome, IsVisit, TurnsScrollOff, resting_after}
use Rattle.console_scripts.proofs.Shared.{shown-resting, start-near}
use Rattle.keymap_cover.specs.Covering.{IsScrollOff}
use Rattle.keymap_cover.specs.Inner.Scripts.{RunsAlong, IsScriptOf, IsUnderWay, SeesAll, ShowsNew, ShowsTold}
use Rattle.keymap_cover.specs.Inner.Scripts.{EndsAtRest, GoesResting, GoesScrollOff, GoesToEnd, IsResting}
use Rattle.keymap_cover.proofs.Telling.{all-told, are-pairs, key-told}
use Rattle.keymap_cover.proofs.Scripts.{at-rest_new}
use Rattle.keymap_cover.proofs.Walking.{after-more}
use Rattle.keymap_cover.specs.declared.script_event.ScriptEvent.TheVariants as script_event

-- events make no loads
pub events-loads : (xs : List ScriptEvent) → HasNoLoads (events_of xs)
events-loads [] = All-nil IsNoLoad
events-loads (script_event.Down k ∷ xs) = All-cons IsNoLoad (event_of (script_event.Down k)) (events_of xs) refl
    (events-loads xs)
events-loads (script_event.Repeat k ∷ xs) =
    All-cons IsNoLoad (event_of (script_event.Repeat k)) (events_of xs) refl (events-loads xs)
events-loads (script_event.Up k ∷ xs) = All-cons IsNoLoad (event_of (script_event.Up k)) (events_of xs) refl
    (events-loads xs)
events-loads (script_event.Reset ∷ xs) = All-cons IsNoLoad (event_of script_event.Reset) (events_of xs) refl
    (events-loads xs)

pub script-loads : {T : Type 0} (m : MapValue) (h : List Event) (t : Script T) → IsScriptOf m h t → HasNoLoads h
script-loads m h t script = subst HasNoLoads script.history (events-loads (reverse t.events.items))

-- what is seen along a list is seen along a longer one
pub sees-longer : (m : MapValue) (h g : List Event) (x : Sight) → ComesAfter h g → SeesAlong m h x → SeesAlong m g x
sees-longer m h g x (more, is) (later, before, k, at, sees) =
    subst (λ z. SeesAlong m z x) (sym is)
    (more ++ later, before, k, ap (λ z. more ++ z) at ∙ sym (append_assoc more later _), sees)

-- what the press sees that ends the events of a visit is seen along
pub sees-ending : (m : MapValue) (h later : List Event) (x : Sight) → EndsSeeing m h later x
    → SeesAlong m (later ++ h) x
sees-ending m h later x (before, k, is, sees) =
    subst (λ z. SeesAlong m (z ++ h) x) (sym is) ([], before ++ h, k, refl, sees)

-- what was seen once was seen later
pub seen-still : {T : Type 0} (m : MapValue) (h g : List Event) (a b : Script T) (x : Sight) → IsScriptOf m h a
    → IsScriptOf m g b → ComesAfter h g → has_seen a.seen x ≡ true → has_seen b.seen x ≡ true
seen-still m h g a b x before now after has = now.all_seen x (sees-longer m h g x after (before.seen x has))

-- a visit goes on near home, and sees the sight
pub visit-goes : {T : Type 0} (s : Standing T) (m : MapValue) (a b : Script T) (x : Sight) (later : List Event)
    → ((h : List Event) → s a.console (between m m) h → HasNoLoads h → IsNearHome m h
    → IsVisit m h x later × IsNearHome m (later ++ h))
    → GoesAlongToRest m later s a b → AreUp b.pressed → IsReachable m x
    → GoesUnderWay m s a b (has_seen b.seen x ≡ true)
visit-goes s m a b x later visits walk up can h (at, near) =
    let (g, run, rest, after, exact) = walk h at.0 in
    let ((taken, sees), ends) = visits h at.0.0 (script-loads m h a at.0.1) near in
    let turns = exact taken in
    let same : resting_after m (later ++ h) ≡ resting_after m g =
    shown-resting m g (λ l. is_locked_after (between m m) l (later ++ h)) (λ l. sym (turns.1 l)) in (
      g,
      ((run, up, rest), subst (λ z. CanReach m z × ComesHome (alone m) z) same ends),
      after,
      run.1.all_seen x (sees-longer m (later ++ h) g x turns.0 (sees-ending m h later x (sees can))),
    )

-- nothing is done
pub stays-so : {T : Type 0} (s : Standing T) (m : MapValue) (t : Script T) (P : Type 0)
    → ((h : List Event) → IsUnderWay m s h t → P) → GoesUnderWay m s t t P
stays-so s m t P holds h w = (h, w, ([], refl), holds h w)

-- what holds of the elements before a place, and of that at the place
pub holds-more : (xs : List Sight) (i : ℕ) (d : Sight) (P : Sight → Type 0) → i < length xs → P (get_or xs i d)
    → ((n : ℕ) (x : Sight) → n < i → get_or xs n x ≡ x → P x) → (n : ℕ) (x : Sight) → n < i + 1 → get_or xs n x ≡ x
    → P x
holds-more xs i d P within here before n x lt at = grind (arith, eqb-true, get_or_default, eq-eqb)

-- something new is seen, and then more
shows-more : {T : Type 0} (xs : List Sight) (y : Sight) (a b c : Script T) → Contains xs y
    → ((x : Sight) → has_seen a.seen x ≡ true → has_seen b.seen x ≡ true)
    → ((x : Sight) → has_seen b.seen x ≡ true → has_seen c.seen x ≡ true) → ShowsNew (Contains xs) a b
    → ShowsNew (λ x. y ≡ x) b c
    → ShowsNew (Contains xs) a c
shows-more xs y a b c has first next (inr (x, among, unseen, saw)) later = inr (x, among, unseen, next x saw)
shows-more xs y a b c has first next (inl e) (inl f) = inl (f ∙ e)
shows-more xs y a b c has first next (inl e) (inr (x, is, unseen, saw)) =
    search (rules, false_from_ne_true)

-- what holds of the sights before a place, and of that at the place, as the script goes on
pub all-more : {T : Type 0} (s : Standing T) (m : MapValue) (a b c : Script T) (xs : List Sight) (i : ℕ) (d : Sight)
    → i < length xs
    → GoesUnderWay m s a b (((n : ℕ) (x : Sight) → n < i → get_or xs n x ≡ x → CanVisit m x
    → has_seen b.seen x ≡ true) × ShowsNew (Contains xs) a b)
    → GoesUnderWay m s b c ((CanVisit m (get_or xs i d) → has_seen c.seen (get_or xs i d) ≡ true)
    × ShowsNew (λ x. get_or xs i d ≡ x) b c)
    → GoesUnderWay m s a c (((n : ℕ) (x : Sight) → n < i + 1 → get_or xs n x ≡ x → CanVisit m x
    → has_seen c.seen x ≡ true) × ShowsNew (Contains xs) a c)
all-more s m a b c xs i d lt first next h w =
    let (g, v, after, (before, new)) = first h w in
    let (f, u, more, (here, newer)) = next g v in (
      f,
      u,
      after-more h g f after more,
      (
        holds-more xs i d (λ x. CanVisit m x → has_seen c.seen x ≡ true) lt here
            (λ n x below at can. seen-still m g f b c x v.0.0.1 u.0.0.1 more (before n x below at can)),
        shows-more xs (get_or xs i d) a b c (i, lt, get_or_default xs i (get_or xs i d) d lt)
            (λ x. seen-still m h g a b x w.0.0.1 v.0.0.1 after) (λ x. seen-still m g f b c x v.0.0.1 u.0.0.1 more) new
            newer,
      ),
    )

-- ---- the whole script

length-events_of : (xs : List ScriptEvent) → length (events_of xs) ≡ length xs
length-events_of [] = refl
length-events_of (x ∷ xs) = ap suc (length-events_of xs)

script-length : {T : Type 0} (m : MapValue) (h : List Event) (t : Script T) → IsScriptOf m h t
    → length h ≡ length t.events.items
script-length m h t script =
    ap (λ z. length z) (sym script.history) ∙ length-events_of (reverse t.events.items) ∙ length-reverse t.events.items

-- a script that goes on gets no shorter
pub script-longer : {T : Type 0} (m : MapValue) (h g : List Event) (a b : Script T) → IsScriptOf m h a
    → IsScriptOf m g b → ComesAfter h g → length a.events.items ≤ length b.events.items
script-longer m h g a b before now (later, is) =
    let e = script-length m h a before in
    let f = script-length m g b now in
    let more = ap (λ z. length z) is ∙ length-append later h in
    omega (arith, e, f, more)

-- before the first visit
nothing-down : (xs : List ScriptEvent) (k : ℕ) → events_of xs ≡ [] → is_down k xs ≡ false
nothing-down [] k e = refl
nothing-down (x ∷ xs) k e = let none : event_of x ∷ events_of xs ≡ [] = e in cc

pub under-way-new : {T : Type 0} (s : Standing T) (m : MapValue) (t : Script T) → RunsAlong m s [] t
    → IsUnderWay m s [] t
under-way-new s m t run =
    let up : AreUp t.pressed =
    λ k lt. run.1.pressed k lt ∙ nothing-down (reverse t.events.items) k run.1.history in
    ((run, up, at-rest_new m), start-near m)

-- ---- the first events of a script

events-append : (xs ys : List ScriptEvent) → events_of (xs ++ ys) ≡ events_of xs ++ events_of ys
events-append [] ys = refl
events-append (x ∷ xs) ys = ap (λ z. event_of x ∷ z) (events-append xs ys)

-- the events behind the first n came after these
pub take-longer : (xs : List ScriptEvent) (n k : ℕ) → n ≤ k
    → ComesAfter (events_of (reverse (take n xs))) (events_of (reverse (take k xs)))
take-longer xs n k le =
    let rest : List ScriptEvent = take (k - n) (drop n xs) in
    let more : take k xs ≡ take n xs ++ rest = ap (λ z. take z xs) (omega (arith, le)) ∙ take-add n (k - n) xs in (
      events_of (reverse rest),
      ap (λ z. events_of (reverse z)) more ∙ ap events_of (reverse-append (take n xs) rest)
          ∙ events-append (reverse rest) (reverse (take n xs)),
    )

-- lists of one length that end two that are the same are the same
ends-same : (a b c d : List Event) → a ++ b ≡ c ++ d → length b ≡ length d → b ≡ d
ends-same a b c d e same =
    let f = ap (λ z. length z) e in
    let g : length a ≡ length c = omega (arith, f, same, length-append a b, length-append c d) in
    sym (drop-append_seam a b) ∙ ap (λ n. drop n (a ++ b)) g ∙ ap (λ z. drop (length c) z) e ∙ drop-append_seam c d

length-first : (xs : List ScriptEvent) (n : ℕ) → n ≤ length xs → length (events_of (reverse (take n xs))) ≡ n
length-first xs n le =
    length-events_of (reverse (take n xs)) ∙ length-reverse (take n xs) ∙ length-take-le n xs le

-- a script that goes on has the same first events
pub first-still : {T : Type 0} (m : MapValue) (h g : List Event) (a b : Script T) (n : ℕ) → IsScriptOf m h a
    → IsScriptOf m g b → ComesAfter h g → n ≤ length a.events.items
    → events_of (reverse (take n a.events.items)) ≡ events_of (reverse (take n b.events.items))
first-still m h g a b n before now after le =
    let xs = a.events.items in
    let ys = b.events.items in
    let longer = script-longer m h g a b before now after in
    let (later, is) = after in
    let (x, e) = take-longer xs n (length xs) le in
    let (y, f) = take-longer ys n (length ys) (omega (arith, le, longer)) in
    let whole : events_of (reverse xs) ≡ x ++ events_of (reverse (take n xs)) =
    ap (λ z. events_of (reverse z)) (sym (take_all (length xs) xs (omega arith))) ∙ e in
    let all : events_of (reverse ys) ≡ y ++ events_of (reverse (take n ys)) =
    ap (λ z. events_of (reverse z)) (sym (take_all (length ys) ys (omega arith))) ∙ f in
    ends-same (later ++ x) (events_of (reverse (take n xs))) y (events_of (reverse (take n ys)))
    (append_assoc later x _ ∙ ap (λ z. later ++ z) (sym whole ∙ before.history) ∙ sym is ∙ sym now.history ∙ all)
    (length-first xs n le ∙ sym (length-first ys n (omega (arith, le, longer))))

-- what more of the first events see
pub sees-more : (m : MapValue) (xs : List ScriptEvent) (n k : ℕ) (x : Sight) → n ≤ k
    → SeesAlong m (events_of (reverse (take n xs))) x → SeesAlong m (events_of (reverse (take k xs))) x
sees-more m xs n k x le sees =
    sees-longer m (events_of (reverse (take n xs))) (events_of (reverse (take k xs))) x (take-longer xs n k le) sees

-- what was seen, all events of the script see
seen-by : {T : Type 0} (m : MapValue) (h : List Event) (t : Script T) (x : Sight) → IsScriptOf m h t
    → has_seen t.seen x ≡ true → SeesAlong m (events_of (reverse (take (length t.events.items) t.events.items))) x
seen-by m h t x script has = search (rules, take_all)

-- and that alone
by-seen : {T : Type 0} (m : MapValue) (h : List Event) (t : Script T) (x : Sight) → IsScriptOf m h t
    → IsSeenBy m t.events.items (length t.events.items) x → has_seen t.seen x ≡ true
by-seen m h t x script sees = search (rules, take_all)

-- what a script that goes on sees by as many events is what was seen
seen-first : {T : Type 0} (m : MapValue) (h g : List Event) (a b : Script T) (x : Sight) → IsScriptOf m h a
    → IsScriptOf m g b → ComesAfter h g → has_seen a.seen x ≡ false
    → IsSeenBy m b.events.items (length a.events.items) x → ⊥
seen-first m h g a b x before now after unseen sees =
    true≢false
    (sym (by-seen m h a x before (subst (λ z. SeesAlong m z x)
    (sym (first-still m h g a b (length a.events.items) before now after (omega arith))) sees))
    ∙ unseen)

-- ---- what is told of

-- what can be visited can be seen
pub can-see : (m : MapValue) (x : Sight) → CanVisit m x → IsReachable m x
can-see m x (path, is, can, (k, lt, sees, back)) = (path, is, can, (k, lt, sees))

-- the keys first, and then the pairs
pub told-shown : {T : Type 0} (s : Standing T) (m : MapValue) (a b d : Script T) (xs ys : List Sight) (n : ℕ)
    → xs ≡ all_cells ++ all_lock_settings → ys ≡ pairs_in m → n ≡ length b.events.items
    → GoesUnderWay m s a b (SeesAll m xs b × ShowsNew (Contains xs) a b)
    → GoesUnderWay m s b d (SeesAll m ys d × ShowsNew (Contains ys) b d) → GoesUnderWay m s a d (ShowsTold m n d)
told-shown s m a b d xs ys n keys pairs is first second h w =
    let (g, v, after, (seen, old)) = first h w in
    let (f, u, more, (all, new)) = second g v in
    let longer = script-longer m g f b d v.0.0.1 u.0.0.1 more in
    let same =
    first-still m g f b d (length b.events.items) v.0.0.1 u.0.0.1 more (omega arith) in
    let by_keys : SeesKeysBy m d.events.items (length b.events.items) =
    λ x told key can.
    subst (λ z. SeesAlong m z x) same
    (seen-by m g b x v.0.0.1
    (seen x (subst (λ z. Contains z x) (sym keys) (key-told m x told key)) can)) in
    let told_all = all-told m (xs ++ ys) (ap (λ z. z ++ ys) keys
    ∙ ap (λ z. (all_cells ++ all_lock_settings) ++ z) pairs) in (
      f,
      u,
      after-more h g f after more,
      (
        omega (arith, is, longer),
        subst (λ k. SeesKeysBy m d.events.items k) (sym is) by_keys,
        (λ x told can.
            seen-by m f d x u.0.0.1
            (elim (Contains-append_cases xs ys x ((told_all x).0 told)) [
              | inl key ↦ seen-still m g f b d x v.0.0.1 u.0.0.1 more (seen x key can)
              | inr pair ↦ all x pair can
            ])),
        (λ some. elim new [
          | inl e ↦ let none = ap (λ z. length z) e in absurd (omega (arith, some, is, none))
          | inr (x, has, unseen, saw) ↦ (
            x,
            (told_all x).1 (Contains-append_right xs ys x has),
            are-pairs m x (subst (λ z. Contains z x) pairs has),
            subst (λ k. IsSeenBy m d.events.items k x → ⊥) (sym is)
                (seen-first m g f b d x v.0.0.1 u.0.0.1 more unseen),
            seen-by m f d x u.0.0.1 saw,
          )
        ]),
      ),
    )

-- walks one behind another
pub rests-behind : {T : Type 0} (s : Standing T) (m : MapValue) (later : List Event) (a b : Script T)
    → GoesAlongToRest m later s a b → AreUp b.pressed → GoesResting m s a b
rests-behind s m later a b walk up h at = let (g, run, rest, after, exact) = walk h at.0 in (g, (run, up, rest), after)

pub rests-more : {T : Type 0} (s : Standing T) (m : MapValue) (a b c : Script T) → GoesResting m s a b
    → GoesResting m s b c → GoesResting m s a c
rests-more s m a b c first next h at =
    let (g, v, after) = first h at in
    let (f, u, more) = next g v in
    (f, u, after-more h g f after more)

-- and then the events that turn the scroll lock off
pub rests-off : {T : Type 0} (s : Standing T) (m : MapValue) (a b c : Script T) → GoesResting m s a b
    → GoesScrollOff m s b c → GoesScrollOff m s a c
rests-off s m a b c first last h at =
    let (g, v, after) = first h at in
    let (f, u, more, off) = last g v in
    (f, u, after-more h g f after more, off)

-- a walk by events that turn the scroll lock off
pub walks-off : {T : Type 0} (s : Standing T) (m : MapValue) (later h : List Event) (a b : Script T)
    → RunsAlong m s h a → GoesAlongToRest m later s a b → AreUp b.pressed → TurnsScrollOff m h later
    → (g : List Event) × IsResting m s g b × ComesAfter h g × IsScrollOff m g
walks-off s m later h a b at walk up (taken, off) = search rules

-- what is told of is seen, and then the script goes further, and onward
pub script-whole : {T : Type 0} (s : Standing T) (m : MapValue) (a b d e : Script T) (starts : List Start)
    (first second third last : ℕ) → IsUnderWay m s [] a → GoesUnderWay m s a b (ShowsTold m first b)
    → GoesScrollOff m s b d → GoesToEnd m s d e
    → second ≡ length b.events.items → third ≡ length d.events.items → last ≡ length e.events.items
    → starts ≡ starts_at first second third last
    → EndsAtRest m e × HoldParts m e.events.items starts first second third
script-whole s m a b d e starts first second third last new shown further onward at_second at_third at_last is =
    let (g, w, after, (le, keys, told, new_pair)) = shown [] new in
    let (f, resting, more, scrolled) = further g w.0 in
    let (k, (end, ups, still), behind, off, ahead, left) = onward f resting scrolled in
    let all = after-more g f k more behind in
    let same = first-still m g k b e first w.0.0.1 end.1 all le in
    let same_all = first-still m g k b e (length b.events.items) w.0.0.1 end.1 all (omega arith) in
    let to_third = script-longer m g f b d w.0.0.1 resting.0.1 more in
    let to_last = script-longer m f k d e resting.0.1 end.1 behind in (
      (ups, (k, end.1, still, off, ahead)),
      record {
        begins = is ∙ ap (λ n. starts_at first second third n) at_last;
        in_order = (
          omega (arith, le, at_second),
          omega (arith, at_second, at_third, to_third),
          omega (arith, at_third, to_last),
        );
        cells = λ x has key can. subst (λ z. SeesAlong m z x) same (keys x has key can);
        pairs = subst (λ n. SeesToldBy m e.events.items n) (sym at_second)
            (λ x has can. subst (λ z. SeesAlong m z x) same_all (told x has can));
        pair = λ some.
            let (x, has, pair, unseen, sees) = new_pair (omega (arith, some, at_second)) in (
              x,
              has,
              pair,
              (λ by. unseen (subst (λ z. SeesAlong m z x) (sym same) by)),
              subst (λ n. IsSeenBy m e.events.items n x) (sym at_second) (subst (λ z. SeesAlong m z x) same_all sees),
            );
        left = λ some. elim left [
          | inl none ↦
              let as_many = ap (λ z. length z) none in absurd (omega (arith, some, at_third, as_many))
          | inr (x, has, key, can, unseen) ↦ (
            x,
            has,
            key,
            can,
            subst (λ n. IsSeenBy m e.events.items n x → ⊥) (sym at_third)
                (seen-first m f k d e x resting.0.1 end.1 behind unseen),
          )
        ];
      },
    )

-- Ways to type a character: which presses they are made of, what their events type, and that keys can type what has
-- one.
use Rattle.std.proofs.Common.{rules}
use Rattle.console_scripts.proofs.Common.{◌≡◌, ◌<◌, ℕ, Bool, true, false, List, [], ◌∷◌, ◌++◌, Option, Some, None, refl}
use Rattle.console_scripts.proofs.Common.{ap, subst, sym, ◌∙◌, inl, inr, append-nil, append_assoc, MapValue, Event}
use Rattle.console_scripts.proofs.Common.{Press}
use Rattle.console_scripts.proofs.Common.{Cell, Release, Move, Hold, Turn, LetGo, Exchange, Symbol, State, start}
use Rattle.console_scripts.proofs.Common.{look_in}
use Rattle.console_scripts.proofs.Common.{IsMove, moved, IsPathFrom, state_from, events_along, ComesHome, IsTapOf}
use Rattle.console_scripts.proofs.Common.{CanTap}
use Rattle.console_scripts.proofs.Common.{CanType, CanReturn, HasTyped, alone, selection_of}
use Rattle.console_scripts.proofs.Common.{home-start, path-first, key_count, state_after, IsHome}
use Rattle.console_states.specs.Allowed.{Allows, all_allowed}
use Rattle.console_states.specs.Moves.{alone_by}
use Rattle.console_scripts.proofs.Exploring.{path-append, returns-origin}
use Rattle.console_scripts.proofs.Taps.{walked, tap-direct, tap-dead, tap-composed}
use Rattle.console_scripts.specs.Ways.{DeadTap, IsAllowedTap, IsBegun, IsWayBy, Way}
use Rattle.console_scripts.specs.Ways.{ending_with, events_of_way, state_at_end, state_behind}
use Rattle.console_states.proofs.Shared.{none-along}
use Rattle.console_scripts.specs.Inner.Courses.{under_by}
use Rattle.console_scripts.specs.Inner.Exploring.{IsOrigin}
use Rattle.console_scripts.specs.Types.{Tap}
use Rattle.console_scripts.specs.declared.courses.Target.{Target}
use Rattle.console_scripts.specs.declared.explored.Symbol.TheVariants as symbol

-- ---- allowed presses

-- what the one allows of what keys look up the other allows
abbrev pub IsAllowedAlso : MapValue → Allows → Allows → Type 0
IsAllowedAlso m a b =
    (t : State) (k : ℕ) → k < key_count → a (selection_of t) k (look_in (alone m) t k) ≡ true
    → b (selection_of t) k (look_in (alone m) t k) ≡ true

made-also : (m : MapValue) (a b : Allows) → IsAllowedAlso m a b → (s : State) (k : ℕ) (x : Cell) → k < key_count
    → look_in (alone m) s k ≡ x → a (selection_of s) k x ≡ true → b (selection_of s) k x ≡ true
made-also m a b also s k x lt seen may = search rules

move-also : (m : MapValue) (a b : Allows) (i : Option ℕ) → IsAllowedAlso m a b → (s : State) (move : Move)
    → IsMove (under_by a i m) s move → IsMove (under_by b i m) s move
move-also m a b i also s (Hold k j) ((lt, idle, (seen, may)), free) =
    ((lt, idle, (seen, made-also m a b also s k _ lt seen may)), free)
move-also m a b i also s (Turn k l) ((lt, idle, (seen, may)), other) =
    ((lt, idle, (seen, made-also m a b also s k _ lt seen may)), other)
move-also m a b i also s (Tap k) (accent, minded, can, (lt, idle, (seen, may)), none) =
    (accent, minded, can, (lt, idle, (seen, made-also m a b also s k _ lt seen may)), none)
move-also m a b i also s (LetGo k j) holds = holds
move-also m a b i also s Exchange is = is

moved-by : (m : MapValue) (a b : Allows) (i : Option ℕ) (s : State) (move : Move)
    → moved (under_by a i m) s move ≡ moved (under_by b i m) s move
moved-by m a b i s (Hold k j) = refl
moved-by m a b i s (Turn k l) = refl
moved-by m a b i s (Tap k) = refl
moved-by m a b i s (LetGo k j) = refl
moved-by m a b i s Exchange = refl

pub state-by : (m : MapValue) (a b : Allows) (i : Option ℕ) (s : State) (path : List Move)
    → state_from (under_by a i m) s path ≡ state_from (under_by b i m) s path
state-by m a b i s [] = refl
state-by m a b i s (move ∷ path) = search (rules, moved-by, state-by m a b i s path)

pub path-also : (m : MapValue) (a b : Allows) (i : Option ℕ) → IsAllowedAlso m a b → (s : State) (path : List Move)
    → IsPathFrom (under_by a i m) s path → IsPathFrom (under_by b i m) s path
path-also m a b i also s [] is = tt
path-also m a b i also s (move ∷ path) is =
    search (rules, state-by, move-also, path-also m a b i also s path is.1)

tap-also : (m : MapValue) (a b : Allows) → IsAllowedAlso m a b → (s t : State) (plain : Bool) (x : Symbol) (k : ℕ)
    → s ≡ t → IsAllowedTap (alone_by a m) s plain x k → IsAllowedTap (alone_by b m) t plain x k
tap-also m a b also s t plain x k e (tap, may) =
    subst (λ z. IsAllowedTap (alone_by b m) z plain x k) e (tap, also s k tap.0 may)

behind-by : (m : MapValue) (a b : Allows) (s : State) (dead : Option DeadTap)
    → state_behind (alone_by a m) s dead ≡ state_behind (alone_by b m) s dead
behind-by m a b s None = refl
behind-by m a b s (Some d) = state-by m a b None s d.moves

pub end-by : (m : MapValue) (a b : Allows) (s : State) (x : Way)
    → state_at_end (alone_by a m) s x ≡ state_at_end (alone_by b m) s x
end-by m a b s x = cc

begun-also : (m : MapValue) (a b : Allows) → IsAllowedAlso m a b → (s : State) (dead : Option DeadTap)
    → IsBegun (alone_by a m) s dead → IsBegun (alone_by b m) s dead
begun-also m a b also s None begun = tt
begun-also m a b also s (Some d) (can, goes, tap) = search (rules, path-also, tap-also, state-by)

-- a way by the one is a way by the other
pub way-also : (m : MapValue) (a b : Allows) → IsAllowedAlso m a b → (s : State) (c : Target) (x : Way)
    → IsWayBy a m s c x → IsWayBy b m s c x
way-also m a b also s c x is = search (rules, begun-also, behind-by, path-also, tap-also, end-by)

-- ---- what ways type

-- with the release of its key a way types the character
pub way-types : (m : MapValue) (s : State) (c : Target) (dead : Option DeadTap) (moves : List Move) (key : ℕ)
    → (h : List Event) (cs : List ℕ)
    → IsWayBy all_allowed m s c (record { dead = dead; moves = moves; key = key }) → HasTyped m h s None cs
    → HasTyped m (Release key ∷ (events_of_way (record { dead = dead; moves = moves; key = key }) ++ h))
    (state_at_end (alone m) s (record { dead = dead; moves = moves; key = key })) None
    (cs ++ c.character ∷ [])
way-types m s c None moves key h cs is typed =
    subst (λ z. HasTyped m (Release key ∷ Press key ∷ (z ++ h)) (state_from (alone m) s moves) None
    (cs ++ c.character ∷ []))
    (sym (append-nil (events_along moves)))
    (tap-direct m (events_along moves ++ h) (state_from (alone m) s moves) cs c.character key
    (walked m h s None cs moves typed is.goes)
    (subst (λ x. IsTapOf (alone m) (state_from (alone m) s moves) true x key) is.makes is.tap.0))
way-types m s c (Some d) moves key h cs is typed =
    let (can, goes, tap) = is.begun in
    let dead : HasTyped m (Release d.key ∷ Press d.key ∷ (events_along d.moves ++ h)) (state_from (alone m) s d.moves)
    (Some d.accent) cs =
    tap-dead m (events_along d.moves ++ h) (state_from (alone m) s d.moves) cs d.accent d.key
    (walked m h s None cs d.moves typed goes) tap.0 can in
    rw (append_assoc (events_along moves) (Release d.key ∷ Press d.key ∷ events_along d.moves) h)
    (tap-composed m (events_along moves ++ (Release d.key ∷ Press d.key ∷ (events_along d.moves ++ h)))
    (state_from (alone m) (state_from (alone m) s d.moves) moves) cs d.accent is.tapped c.character key
    (walked m (Release d.key ∷ Press d.key ∷ (events_along d.moves ++ h)) (state_from (alone m) s d.moves)
    (Some d.accent) cs moves dead is.goes) is.tap.0 can is.makes)

-- ---- ways and what keys can type

-- a tap where moves lead to from a state that can return
can-tap-from : (m : MapValue) (o : State) → CanReturn m o → (path : List Move) → IsPathFrom (alone m) o path
    → ComesHome (alone m) (state_from (alone m) o path) → (plain : Bool) (x : Symbol) (k : ℕ)
    → IsTapOf (alone m) (state_from (alone m) o path) plain x k
    → CanTap m plain x
can-tap-from m o st path goes home plain x k tap =
    let more : IsPathFrom (alone m) (state_from (alone m) start st.path) path =
    subst (λ z. IsPathFrom (alone m) z path) (sym st.leads) goes in
    let all = path-append (alone m) start st.path path st.is more in
    let there : state_from (alone m) start (path ++ st.path) ≡ state_from (alone m) o path =
    all.1 ∙ ap (λ z. state_from (alone m) z path) st.leads in (
      path ++ st.path,
      all.0,
      subst (λ z. ComesHome (alone m) z) (sym there) home,
      (k, subst (λ z. IsTapOf (alone m) z plain x k) (sym there) tap),
    )

-- moves lead home from where moves come home
comes-before : (m : MapValue) (s : State) (path : List Move) → IsPathFrom (alone m) s path
    → ComesHome (alone m) (state_from (alone m) s path) → ComesHome (alone m) s
comes-before m s path is (later, more, home) =
    let all = path-append (alone m) s path later is more in
    (later ++ path, all.0, subst IsHome (sym all.1) home)

-- keys can type what has a way
pub way-can : (m : MapValue) (o : State) → CanReturn m o → (c : Target) (dead : Option DeadTap) (moves : List Move)
    (key : ℕ) → IsWayBy all_allowed m o c (record { dead = dead; moves = moves; key = key }) → CanType m c.character
way-can m o st c None moves key is =
    inl (can-tap-from m o st moves is.goes is.home true (symbol.Character c.character) key
    (subst (λ x. IsTapOf (alone m) (state_from (alone m) o moves) true x key) is.makes is.tap.0))
way-can m o st c (Some d) moves key is =
    let (can, goes, tap) = is.begun in
    let all = path-append (alone m) o d.moves moves goes is.goes in
    inr (
      d.accent,
      is.tapped,
      can,
      is.makes,
      can-tap-from m o st d.moves goes (comes-before m (state_from (alone m) o d.moves) moves is.goes is.home) false
          (symbol.DeadKey d.accent) d.key tap.0,
      can-tap-from m o st (moves ++ d.moves) all.0 (subst (λ z. ComesHome (alone m) z) (sym all.1) is.home) true
          is.tapped key
          (subst (λ z. IsTapOf (alone m) z true is.tapped key) (sym all.1) is.tap.0),
    )

-- moves lead from where they come home to wherever they lead from the start
abbrev LeadsThere : MapValue → State → State → Type 0
LeadsThere m o t = (path : List Move) × IsPathFrom (alone m) o path × (state_from (alone m) o path ≡ t)

from-home : (m : MapValue) (o : State) → IsOrigin o → ComesHome (alone m) o → (path : List Move)
    → IsPathFrom (alone m) start path → LeadsThere m o (state_after (alone m) path)
from-home m o origin (back, returns, home) path is =
    let begins : state_from (alone m) o back ≡ start =
    home-start (state_from (alone m) o back) home (path-first m o back returns ∙ origin.0)
    (none-along (alone m) refl o back returns origin.1) in
    let all = path-append (alone m) o back path returns (subst (λ z. IsPathFrom (alone m) z path) (sym begins) is) in
    (path ++ back, all.0, all.1 ∙ ap (λ z. state_from (alone m) z path) begins)

-- what keys can type has a way from a state that can return
pub can-way : (m : MapValue) (o : State) → CanReturn m o → (c : ℕ) → CanType m c
    → (x : Way) × IsWayBy all_allowed m o (ending_with None c) x
can-way m o st c (inl (path, is, home, (k, tap))) =
    let (out, goes, there) = from-home m o (returns-origin m o st) st.home path is in (
      record { dead = None; moves = out; key = k },
      record {
        begun = tt;
        goes = goes;
        tapped = symbol.Character c;
        makes = refl;
        last = tt;
        tap = (subst (λ z. IsTapOf (alone m) z true (symbol.Character c) k) (sym there) tap, refl);
        home = subst (λ z. ComesHome (alone m) z) (sym there) home;
      },
    )
can-way m o st c (inr (i, x, can, made, (path, is, home, (j, dead)), (path2, is2, home2, (k, tap)))) =
    let origin : IsOrigin o = returns-origin m o st in
    let (out, goes, there) = from-home m o origin st.home path is in
    let t : State = state_from (alone m) o out in
    let (on, more, end) =
    from-home m t (path-first m o out goes ∙ origin.0, none-along (alone m) refl o out goes origin.1)
    (subst (λ z. ComesHome (alone m) z) (sym there) home) path2 is2 in (
      record { dead = Some (record { accent = i; moves = out; key = j }); moves = on; key = k },
      record {
        begun = (can, goes, (subst (λ z. IsTapOf (alone m) z false (symbol.DeadKey i) j) (sym there) dead, refl));
        goes = more;
        tapped = x;
        makes = made;
        last = tt;
        tap = (subst (λ z. IsTapOf (alone m) z true x k) (sym end) tap, refl);
        home = subst (λ z. ComesHome (alone m) z) (sym end) home2;
      },
    )

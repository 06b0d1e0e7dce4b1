-- What was met by the presses of a class tells the ways that are made of them: a place the way to it, and a way its
-- place. So the first place where a way may end tells the nearest way.
use Rattle.std.proofs.Common.{rules}
use Rattle.console_scripts.proofs.Common.{◌≡◌, ◌+◌, ◌<◌, ◌⊎◌, ℕ, Bool, true, false, List, [], ◌∷◌}
use Rattle.console_scripts.proofs.Common.{◌++◌, Option, Some, None, refl, ap, subst, sym, ◌∙◌, inl, inr, arith, length}
use Rattle.console_scripts.proofs.Common.{slice_get, none-some, same_Some, true≢false, cases_Bool}
use Rattle.console_scripts.proofs.Common.{cases_lt, and_parts, MapValue, cell_at, Cell, Char, Act}
use Rattle.console_scripts.proofs.Common.{Press, Release, Move, Hold, Turn, LetGo, Exchange, Meta, Symbol, usable}
use Rattle.console_scripts.proofs.Common.{Under, alone, State, look_in, IsIdle, IsMove, moved, IsPathFrom}
use Rattle.console_scripts.proofs.Common.{state_from, events_along, presses_along, ComesHome, cell_of}
use Rattle.console_scripts.proofs.Common.{composed_of, is_held, key_count, selection_of, look_selected, one_map}
use Rattle.console_scripts.proofs.Common.{is_some}
use Rattle.console_scripts.proofs.Common.{Explored, IsExploredFrom, HasRoute}
use Rattle.console_scripts.proofs.Common.{Routes, Entry, Entries, HasEnded, state_of, all-met}
use Rattle.console_scripts.proofs.Common.{reached-one, same_states, append-nil, All, KeyAt, events_of_move}
use Rattle.console_scripts.proofs.Common.{ReachesMoreThanFrom, state_limit, append_assoc}
use Rattle.keymap_core.specs.Bounds.{IsCell, IsMap}
use Rattle.std.specs.Prelude.{◌||◌, replicate, slice_index_or}
use Rattle.std.proofs.lemmas.List.{get_or-replicate}
use Rattle.keyboard.specs.declared.board.Board.{Board}
use Rattle.console_states.specs.Allowed.{Allows, all_allowed, is_pressed}
use Rattle.console_states.specs.Minding.{without_accent}
use Rattle.console_states.specs.Moves.{alone_by, with_accent}
use Rattle.console_states.specs.declared.allowed.Presses.{Presses}
use Rattle.console_states.proofs.Shared.{minded-path, none-along}
use Rattle.console_scripts.specs.Types.{Selection, Tap}
use Rattle.std.proofs.lemmas.List.Elements.{All-get_or}
use Rattle.std.proofs.Math.ListN.{get_or-eq_default}
use Rattle.console_scripts.specs.Ways.{DeadTap, IsAllowedTap, IsBegun, IsDeadTap, IsLast, IsWayBy, Makes, Way}
use Rattle.console_scripts.specs.Ways.{events_of_way, presses_of_way, state_at_end}
use Rattle.console_scripts.proofs.Common.{AllLeadHome, reverse}
use Rattle.console_scripts.specs.Inner.Courses.{ArePresses, EndsAt, Gives, HasAction, IsEnding, IsFoundAt, IsMade}
use Rattle.console_scripts.specs.Inner.Courses.{MakesBy, allows_but, takes_key, under_by}
use Rattle.console_scripts.specs.Inner.Courses.{ReachesMany}
use Rattle.console_scripts.specs.Inner.Courses.{IsReached as IsCourseReached}
use Rattle.console_scripts.specs.Inner.Exploring.{IsOrigin}
use Rattle.console_scripts.specs.Inner.Seeking.{HasAccent, IsFound, accent_in}
use Rattle.console_scripts.specs.declared.courses.Course.{Course}
use Rattle.console_scripts.specs.declared.courses.Ending.{Ending}
use Rattle.console_scripts.specs.declared.courses.Found.{Found}
use Rattle.console_scripts.specs.declared.courses.Reached.{Reached}
use Rattle.console_scripts.specs.declared.courses.Target.{Target}
use Rattle.console_states.specs.declared.search.End.TheVariants.{TooMany}
use Rattle.console_states.proofs.Shared.{minded_reaches_more, reaches-more}
use Rattle.console_scripts.proofs.Taking.{way-leads}
use Rattle.console_scripts.specs.declared.classes.Class.{Class}
use Rattle.console_scripts.specs.declared.classes.Spared.{Spared}
use Rattle.console_scripts.specs.declared.explored.Symbol.TheVariants as symbol
use Rattle.std.specs.Option.{is_none}
use Rattle.console_scripts.specs.Ways.{is_one_tap}
use Rattle.console_scripts.proofs.Choosing.{presses-append}
use Rattle.console_scripts.proofs.Exploring.{comes-route, has-home, path-append}
use Rattle.console_scripts.proofs.WayLaws.{IsAllowedAlso, end-by, path-also, state-by, way-also}

-- ---- the presses of tables

cell-has : (x : Cell) → IsCell x → HasAction x
cell-has (Char c) is = tt
cell-has (Act a) is = is

cell-at : (cells : List Cell) (column : ℕ) → length cells ≡ 8 → All IsCell cells
    → HasAction (slice_index_or cells column (Char 0))
cell-at cells column eight all = search (rules, cases_lt, cell-has, All-get_or, get_or-eq_default)

undefined-has : (column : ℕ) → HasAction (slice_index_or (replicate 8 (Char 0)) column (Char 0))
undefined-has column = search (rules, cases_lt, get_or-replicate, get_or-eq_default)

-- each action that a keymap has is one of the table
cell-known : (m : MapValue) → IsMap m → (slot column : ℕ) → HasAction (cell_at m slot column)
cell-known m known slot column =
    search (rules, cases_lt, All-get_or, cell-at, get_or-eq_default, undefined-has)

-- what a key looks up, by what picks the cell
look-picked : (m : MapValue) (t : State) (k : ℕ) → look_in (alone m) t k ≡ look_selected m (selection_of t) k
look-picked m t k = ap (λ n. look_selected n (selection_of t) k) (one_map m t.is_second)

look-known : (m : MapValue) → IsMap m → (t : State) (k : ℕ) → HasAction (look_in (alone m) t k)
look-known m known t k = subst HasAction (sym (look-picked m t k)) (cell-known m known _ _)

-- the tables allow what the class does
pub pressed-also : (b : Board) (w : Class) (sp : Spared) (p : Presses) (m : MapValue) → IsMap m → ArePresses b w sp p
    → IsAllowedAlso m (is_pressed p) (allows_but b w sp)
pressed-also b w sp p m known are t k lt may =
    sym (are (selection_of t) k (look_in (alone m) t k) lt (look-known m known t k)) ∙ may

pub also-pressed : (b : Board) (w : Class) (sp : Spared) (p : Presses) (m : MapValue) → IsMap m → ArePresses b w sp p
    → IsAllowedAlso m (allows_but b w sp) (is_pressed p)
also-pressed b w sp p m known are t k lt may =
    are (selection_of t) k (look_in (alone m) t k) lt (look-known m known t k) ∙ may

-- ---- a path that minds an accent

-- it is a path without a tap
abbrev IsUntapped : MapValue → Allows → ℕ → State → List Move → Type 0
IsUntapped m a i s path =
    IsPathFrom (alone_by a m) s path
    × (state_from (alone_by a m) s path ≡ state_from (under_by a (Some i) m) s path)

-- or the tap of the accent's dead key and moves on
pub record IsTapped (m : MapValue) (a : Allows) (i : ℕ) (s : State) (path : List Move) : Type 0 where
  pub dead : DeadTap
  pub later : List Move
  pub accent : dead.accent ≡ i
  pub begun : IsDeadTap (alone_by a m) s dead
  pub goes : IsPathFrom (alone_by a m) (state_from (alone_by a m) s dead.moves) later
  pub ends : with_accent (state_from (alone_by a m) (state_from (alone_by a m) s dead.moves) later)
      ≡ state_from (under_by a (Some i) m) s path
  pub count : presses_along path ≡ presses_along later + (presses_along dead.moves + 1)
  pub events : events_along path
      ≡ events_along later ++ (Release dead.key ∷ Press dead.key ∷ events_along dead.moves)

untapped-more : (m : MapValue) (a : Allows) (i : ℕ) (s : State) (path : List Move) (move : Move)
    → IsUntapped m a i s path
    → IsMove (under_by a (Some i) m) (state_from (under_by a (Some i) m) s path) move
    → IsUntapped m a i s (move ∷ path) ⊎ IsTapped m a i s (move ∷ path)
untapped-more m a i s path (Hold k j) (made, same) is = search rules
untapped-more m a i s path (Turn k l) (made, same) is = search rules
untapped-more m a i s path (LetGo k j) (made, same) is = search rules
untapped-more m a i s path Exchange (made, same) is = absurd (true≢false (sym is.1))
untapped-more m a i s path (Tap k) (made, same) (j, minded, can, (lt, idle, (seen, may)), none) =
    let e : i ≡ j = same_Some i j minded in
    let u : Under = alone_by a m in
    let t : State = state_from (under_by a (Some i) m) s path in
    let tap : IsAllowedTap u t false (symbol.DeadKey j) k = (
      (lt, idle, seen, (λ p. absurd (true≢false (sym p)))),
      subst (λ x. a (selection_of t) k x ≡ true) (sym seen) may,
    ) in
    inr (record {
      dead = record { accent = i; moves = path; key = k };
      later = [];
      accent = refl;
      begun = (
        subst (λ n. usable m n ≡ true) (sym e) can,
        made,
        subst (λ z. IsAllowedTap u z false (symbol.DeadKey i) k) (sym same)
            (subst (λ n. IsAllowedTap u t false (symbol.DeadKey n) k) (sym e) tap),
      );
      goes = tt;
      ends = ap (λ z. with_accent z) same;
      count = omega arith;
      events = refl;
    })

-- moves are the same where the accent is pending
pending-plain : (m : MapValue) (a : Allows) (i : ℕ) (s : State) (move : Move)
    → IsMove (under_by a (Some i) m) (with_accent s) move
    → IsMove (alone_by a m) s move
    × (with_accent (moved (alone_by a m) s move) ≡ moved (under_by a (Some i) m) (with_accent s) move)
pending-plain m a i s (Hold k j) is = (is, refl)
pending-plain m a i s (Turn k l) is = (is, refl)
pending-plain m a i s (Tap k) is = absurd (true≢false is.4)
pending-plain m a i s (LetGo k j) is = (is, refl)
pending-plain m a i s Exchange is = absurd (true≢false (sym is.1))

plain-pending : (m : MapValue) (a : Allows) (i : ℕ) (s : State) (move : Move) → IsMove (alone_by a m) s move
    → IsMove (under_by a (Some i) m) (with_accent s) move
    × (moved (under_by a (Some i) m) (with_accent s) move ≡ with_accent (moved (alone_by a m) s move))
plain-pending m a i s (Hold k j) is = (is, refl)
plain-pending m a i s (Turn k l) is = (is, refl)
plain-pending m a i s (Tap k) is = absurd (none-some is.0 is.1)
plain-pending m a i s (LetGo k j) is = (is, refl)
plain-pending m a i s Exchange is = absurd (true≢false (sym is.1))

tapped-more : (m : MapValue) (a : Allows) (i : ℕ) (s : State) (path : List Move) (move : Move)
    → IsTapped m a i s path → IsMove (under_by a (Some i) m) (state_from (under_by a (Some i) m) s path) move
    → IsTapped m a i s (move ∷ path)
tapped-more m a i s path move x is =
    let t : State = state_from (alone_by a m) (state_from (alone_by a m) s x.dead.moves) x.later in
    let (can, to) =
    pending-plain m a i t move (subst (λ z. IsMove (under_by a (Some i) m) z move) (sym x.ends) is) in
    let count : presses_along path ≡ presses_along x.later + (presses_along x.dead.moves + 1) = x.count in
    record {
      dead = x.dead;
      later = move ∷ x.later;
      accent = x.accent;
      begun = x.begun;
      goes = (can, x.goes);
      ends = to ∙ ap (λ z. moved (under_by a (Some i) m) z move) x.ends;
      count = omega (arith, count);
      events =
          ap (λ z. events_of_move move ++ z) x.events
          ∙ sym (append_assoc (events_of_move move) (events_along x.later)
          (Release x.dead.key ∷ Press x.dead.key ∷ events_along x.dead.moves));
    }

pub tapped-or-not : (m : MapValue) (a : Allows) (i : ℕ) (s : State) (path : List Move)
    → IsPathFrom (under_by a (Some i) m) s path
    → IsUntapped m a i s path ⊎ IsTapped m a i s path
tapped-or-not m a i s [] is = inl (tt, refl)
tapped-or-not m a i s (move ∷ path) is =
    search (rules, untapped-more, tapped-more, tapped-or-not m a i s path is.1)

-- the moves behind a tap
pending-path : (m : MapValue) (a : Allows) (i : ℕ) (s : State) (path : List Move) → IsPathFrom (alone_by a m) s path
    → IsPathFrom (under_by a (Some i) m) (with_accent s) path
    × (state_from (under_by a (Some i) m) (with_accent s) path ≡ with_accent (state_from (alone_by a m) s path))
pending-path m a i s [] is = (tt, refl)
pending-path m a i s (move ∷ path) is =
    search (rules, plain-pending, pending-path m a i s path is.1)

-- ---- from places to ways

-- a way to the state and a press of the key there, but for the accent
pub record WayTo (m : MapValue) (a : Allows) (acc : Option ℕ) (s : State) (c : Target) (path : List Move) (t : State)
    (k : ℕ) : Type 0
  where
    pub way : Way
    pub is : IsWayBy a m s c way
    pub taps : is_one_tap way.dead ≡ is_none acc
    pub count : presses_of_way way ≡ presses_along path + 1
    pub key : way.key ≡ k
    pub events : Press k ∷ events_along path ≡ events_of_way way
    pub there : without_accent t ≡ state_at_end (alone_by a m) s way

without-same : (t : State) → t.is_pending ≡ false → without_accent t ≡ t
without-same t off = same_states (without_accent t) t (λ i. refl) (λ l. refl) refl (sym off)

pub way-to : (m : MapValue) (a : Allows) (acc : Option ℕ) (s : State) (c : Target) (path : List Move) (t : State)
    (k : ℕ) (y : Symbol) → s.is_pending ≡ false → IsPathFrom (under_by a acc m) s path
    → state_from (under_by a acc m) s path ≡ t → t.is_pending ≡ is_some acc → ComesHome (alone m) (without_accent t)
    → k < key_count → IsIdle t k → look_selected m (selection_of t) k ≡ cell_of y → MakesBy m acc c.character y
    → IsLast c.last k → is_held t Meta ≡ false → a (selection_of t) k (cell_of y) ≡ true
    → WayTo m a acc s c path t k
way-to m a None s c path t k y off goes leads pending home lt idle seen makes last meta may =
    let there : without_accent t ≡ state_from (alone_by a m) s path = without-same t pending ∙ sym leads in
    let look : look_in (alone_by a m) t k ≡ cell_of y = look-picked m t k ∙ seen in
    record {
      way = record { dead = None; moves = path; key = k };
      is = record {
        begun = tt;
        goes = goes;
        tapped = y;
        makes = makes;
        last = last;
        tap = subst (λ z. IsAllowedTap (alone_by a m) z true y k) (sym leads)
            ((lt, idle, look, (λ e. meta)), subst (λ x. a (selection_of t) k x ≡ true) (sym look) may);
        home = subst (λ z. ComesHome (alone m) z) there home;
      };
      taps = refl;
      count = omega arith;
      key = refl;
      events = sym (append-nil (Press k ∷ events_along path));
      there = there;
    }
way-to m a (Some i) s c path t k y off goes leads pending home lt idle seen makes last meta may =
    elim (tapped-or-not m a i s path goes) [
      | inl (made, same) ↦
          absurd (true≢false (sym pending ∙ ap (λ z. z.is_pending) (sym (same ∙ leads))
          ∙ none-along (alone_by a m) refl s path made off))
      | inr x ↦
          let d : DeadTap = x.dead in
          let first : State = state_from (alone_by a m) s d.moves in
          let end : State = state_from (alone_by a m) first x.later in
          let ends : with_accent end ≡ t = x.ends ∙ leads in
          let none : end.is_pending ≡ false =
          none-along (alone_by a m) refl first x.later x.goes
          (none-along (alone_by a m) refl s d.moves x.begun.1 off) in
          let there : without_accent t ≡ end =
          ap (λ z. without_accent z) (sym ends) ∙ without-same end none in
          let look : look_in (alone_by a m) end k ≡ cell_of y =
          look-picked m end k ∙ subst (λ z. look_selected m (selection_of z) k ≡ cell_of y) (sym ends) seen in
          let count : presses_along path ≡ presses_along x.later + (presses_along d.moves + 1) = x.count in
          record {
            way = record { dead = Some d; moves = x.later; key = k };
            is = record {
              begun = x.begun;
              goes = x.goes;
              tapped = y;
              makes = subst (λ n. composed_of m n y ≡ Some c.character) (sym x.accent) makes.1;
              last = last;
              tap = (
                (
                  lt,
                  subst (λ z. IsIdle z k) (sym ends) idle,
                  look,
                  (λ e. subst (λ z. is_held z Meta ≡ false) (sym ends) meta),
                ),
                subst (λ x. a (selection_of end) k x ≡ true) (sym look)
                    (subst (λ z. a (selection_of z) k (cell_of y) ≡ true) (sym ends) may),
              );
              home = subst (λ z. ComesHome (alone m) z) there home;
            };
            taps = refl;
            count = omega (arith, count);
            key = refl;
            events = ap (λ z. Press k ∷ z) x.events;
            there = there;
          }
    ]

-- ---- from ways to places

-- where the accent is pending, if one is told
abbrev pub pend : Option ℕ → State → State
pend None t = t
pend (Some i) t = with_accent t

-- a path of a search that minds the accent leads to the end of the way, by as many presses
abbrev pub HasPath : MapValue → Allows → Option ℕ → State → Way → Type 0
HasPath m a acc s y =
    (path : List Move) × IsPathFrom (under_by a acc m) s path
    × (state_from (under_by a acc m) s path ≡ pend acc (state_at_end (alone_by a m) s y))
    × (presses_of_way y ≡ presses_along path + 1)

dead-path : (m : MapValue) (a : Allows) (s : State) (d : DeadTap) → s.is_pending ≡ false
    → IsDeadTap (alone_by a m) s d
    → IsPathFrom (under_by a (Some d.accent) m) s (Tap d.key ∷ d.moves)
    × (state_from (under_by a (Some d.accent) m) s (Tap d.key ∷ d.moves)
    ≡ with_accent (state_from (alone_by a m) s d.moves))
dead-path m a s d off (can, goes, ((lt, idle, seen, meta), may)) =
    let t : State = state_from (alone_by a m) s d.moves in
    let (made, same) = minded-path (alone_by a m) d.accent s d.moves refl goes in
    let tap : IsMove (under_by a (Some d.accent) m) t (Tap d.key) = (
      d.accent,
      refl,
      can,
      (lt, idle, (seen, subst (λ x. a (selection_of t) d.key x ≡ true) seen may)),
      none-along (alone_by a m) refl s d.moves goes off,
    ) in (
      (subst (λ z. IsMove (under_by a (Some d.accent) m) z (Tap d.key)) (sym same) tap, made),
      ap (λ z. with_accent z) same,
    )

way-path : (m : MapValue) (a : Allows) (s : State) (c : Target) (dead : Option DeadTap) (moves : List Move) (key : ℕ)
    → s.is_pending ≡ false → IsWayBy a m s c (record { dead = dead; moves = moves; key = key })
    → HasPath m a (accent_in dead) s (record { dead = dead; moves = moves; key = key })
way-path m a s c None moves key off is = (moves, is.goes, refl, omega arith)
way-path m a s c (Some d) moves key off is =
    let u : Under = under_by a (Some d.accent) m in
    let first : State = state_from (alone_by a m) s d.moves in
    let (made, to) = dead-path m a s d off is.begun in
    let (goes, same) = pending-path m a d.accent first moves is.goes in
    let all = path-append u s (Tap d.key ∷ d.moves) moves made (subst (λ z. IsPathFrom u z moves) (sym to) goes) in
    let count = presses-append (Tap d.key ∷ d.moves) moves in (
      moves ++ Tap d.key ∷ d.moves,
      all.0,
      all.1 ∙ ap (λ z. state_from u z moves) to ∙ same,
      omega (arith, count),
    )

pub has-path : (m : MapValue) (a : Allows) (acc : Option ℕ) (s : State) (c : Target) (y : Way) → s.is_pending ≡ false
    → HasAccent acc y → IsWayBy a m s c y → HasPath m a acc s y
has-path m a acc s c y off e is =
    subst (λ o. HasPath m a o s y) e (way-path m a s c y.dead y.moves y.key off is)

-- ---- what was found

or-true : (l : Bool) → (l || true) ≡ true
or-true true = refl
or-true false = refl

-- a key that is taken is allowed where it looks up what is tapped
allowed-made : (b : Board) (w : Class) (sp : Spared) (z : Selection) (k : ℕ) (y : Symbol) → takes_key b w sp k ≡ true
    → allows_but b w sp z k (cell_of y) ≡ true
allowed-made b w sp z k (symbol.Character c) taken = search (rules, and_parts, or-true)
allowed-made b w sp z k (symbol.DeadKey i) taken = search (rules, and_parts, or-true)

pub taken-allowed : (b : Board) (w : Class) (sp : Spared) (z : Selection) (k : ℕ) (x : Cell)
    → allows_but b w sp z k x ≡ true → takes_key b w sp k ≡ true
taken-allowed b w sp z k x may = search (rules, and_parts)

-- what the place of an ending tells is a way
pub place-found : (b : Board) (m : MapValue) (o : Course) (c : Target) (e : Ending) (r : Reached) (routes : Routes)
    (at : KeyAt) (x : Entry) (f : Found) → IsCourseReached b m o r → IsEnding b m o c e → AllLeadHome (alone m) routes
    → slice_get r.met.entries at.place ≡ Some x → EndsAt m e routes (state_of x.0) at.key
    → IsFoundAt r.met.entries at f
    → IsFound (allows_but b o.class o.spared) m (state_of o.from) c (is_none o.accent) routes f
place-found b m o c e r routes at x f got ends home here (gives, route) found =
    let a : Allows = allows_but b o.class o.spared in
    let s : State = state_of o.from in
    let t : State = state_of x.0 in
    let (path, trail, is, to, count) = reached-one got.ended.searched at.place x here in
    let also = pressed-also b o.class o.spared got.presses m got.known got.are in
    let (y, seen, makes) = gives.given.1 in
    let same : found.entry ≡ x = same_Some found.entry x (sym found.there ∙ here) in
    let may = ends.taken at.key gives.below gives.taken in
    let w : WayTo m a o.accent s c path t at.key =
    way-to m a o.accent s c path t at.key y got.source.1
    (path-also m (is_pressed got.presses) a o.accent also s path is)
    (sym (state-by m (is_pressed got.presses) a o.accent s path) ∙ to)
    (gives.pending ∙ ap is_some ends.same) (has-home (alone m) routes (without_accent t) home route) gives.below
    gives.given.0 seen
    (subst (λ n. MakesBy m o.accent n y) ends.types (subst (λ i. MakesBy m i e.character y) ends.same makes))
    may.1 gives.meta (allowed-made b o.class o.spared (selection_of t) at.key y may.0) in
    let state : state_of f.held ≡ without_accent t =
    found.state ∙ ap (λ (z : Entry). without_accent (state_of z.0)) same in
    record {
      way = w.way;
      is = w.is;
      taps = w.taps;
      count =
          w.count ∙ ap (λ n. n + 1) (count ∙ ap (λ (z : Entry). z.1.presses) (sym same) ∙ sym found.presses);
      key = w.key ∙ sym found.key;
      events =
          ap (λ z. Press z ∷ reverse f.events.items) found.key
          ∙ ap (λ z. Press at.key ∷ z) (found.events path trail) ∙ w.events;
      there = state ∙ w.there ∙ end-by m a all_allowed s w.way;
      route = subst (λ z. HasRoute routes z) (sym state) route;
    }

-- ---- no way is nearer

makes-by : (m : MapValue) (dead : Option DeadTap) (u : Under) (s : State) (c : ℕ) (x : Symbol) → u.maps.first ≡ m
    → IsBegun u s dead → Makes m dead x c → MakesBy m (accent_in dead) c x
makes-by m None u s c x first begun makes = makes
makes-by m (Some d) u s c x first begun makes = (subst (λ n. usable n d.accent ≡ true) first begun.0, makes)

pend-gives : (m : MapValue) (e : Ending) (acc : Option ℕ) (t : State) (k : ℕ) → t.is_pending ≡ false → acc ≡ e.accent
    → k < key_count → slice_index_or e.keys k false ≡ true → IsIdle t k
    → IsMade m e.accent e.character (look_selected m (selection_of t) k) → is_held t Meta ≡ false
    → Gives m e (pend acc t) k
pend-gives m e None t k off same lt taken idle made meta =
    record { below = lt; taken = taken; given = (idle, made); meta = meta; pending = off ∙ ap is_some same }
pend-gives m e (Some i) t k off same lt taken idle made meta =
    record { below = lt; taken = taken; given = (idle, made); meta = meta; pending = ap is_some same }

without-pend : (acc : Option ℕ) (t : State) → t.is_pending ≡ false → without_accent (pend acc t) ≡ t
without-pend None t off = without-same t off
without-pend (Some i) t off = without-same t off

-- a route leads home from where moves come home, if all states were met
route-there : (m : MapValue) (s t : State) (v : Explored) → IsExploredFrom m s v → v.is_complete ≡ true
    → (path : List Move) → IsPathFrom (alone m) s path → state_from (alone m) s path ≡ t → ComesHome (alone m) t
    → HasRoute v.routes.entries t
route-there m s t v (x, map, from) complete path is to home = search (rules, all-met, comes-route)

-- what the key of a way looks up types the character
pub way-made : (a : Allows) (m : MapValue) (s : State) (c : Target) (acc : Option ℕ) (y : Way) → HasAccent acc y
    → IsWayBy a m s c y
    → IsMade m acc c.character (look_selected m (selection_of (state_at_end (alone_by a m) s y)) y.key)
way-made a m s c acc y has is = search (rules, look-picked, makes-by)

-- the end of a way is where an ending is looked for
pub way-ends : (b : Board) (m : MapValue) (o : Course) (c : Target) (e : Ending) (r : Reached) (v : Explored) (y : Way)
    → (got : IsCourseReached b m o r) → IsEnding b m o c e → IsExploredFrom m (state_of o.from) v → v.is_complete ≡ true
    → HasAccent o.accent y → IsWayBy (allows_but b o.class o.spared) m (state_of o.from) c y
    → (path : List Move) × IsPathFrom (under_by (is_pressed got.presses) o.accent m) (state_of o.from) path
    × EndsAt m e v.routes.entries (state_from (under_by (is_pressed got.presses) o.accent m) (state_of o.from) path)
    y.key × (presses_of_way y ≡ presses_along path + 1)
way-ends b m o c e r v y got ends explored complete acc is =
    let a : Allows = allows_but b o.class o.spared in
    let p : Allows = is_pressed got.presses in
    let s : State = state_of o.from in
    let end : State = state_at_end (alone_by a m) s y in
    let (path, goes, to, count) = has-path m a o.accent s c y got.source.1 acc is in
    let also = also-pressed b o.class o.spared got.presses m got.known got.are in
    let there : state_from (under_by p o.accent m) s path ≡ pend o.accent end =
    sym (state-by m a p o.accent s path) ∙ to in
    let ((lt, idle, look, meta), may) = is.tap in
    let seen : look_selected m (selection_of end) y.key ≡ cell_of is.tapped =
    sym (look-picked m end y.key) ∙ look in
    let makes : MakesBy m o.accent c.character is.tapped =
    subst (λ i. MakesBy m i c.character is.tapped) acc
    (makes-by m y.dead (alone_by a m) s c.character is.tapped refl is.begun is.makes) in
    let taken : takes_key b o.class o.spared y.key ≡ true =
    taken-allowed b o.class o.spared (selection_of end) y.key (look_in (alone_by a m) end y.key) may in
    let has : slice_index_or e.keys y.key false ≡ true = elim (cases_Bool (slice_index_or e.keys y.key false)) [
      | inl t ↦ t
      | inr f ↦ absurd (ends.other y.key lt f (taken, is.last) (selection_of end) (is.tapped, seen, makes))
    ] in
    let (way, leads, at_end) =
    way-leads m s c y.dead y.moves y.key (way-also m a all_allowed (λ t k lt may. refl) s c y is) in
    let last : state_from (alone m) s way ≡ end = at_end ∙ sym (end-by m a all_allowed s y) in
    let off : end.is_pending ≡ false =
    subst (λ z. z.is_pending ≡ false) last (none-along (alone m) refl s way leads got.source.1) in
    let route : HasRoute v.routes.entries end = route-there m s end v explored complete way leads last is.home in (
      path,
      path-also m a p o.accent also s path goes,
      subst (λ z. EndsAt m e v.routes.entries z y.key) (sym there) (
        pend-gives m e o.accent end y.key off (sym ends.same) lt has idle
            (subst (λ i. IsMade m i e.character (look_selected m (selection_of end) y.key)) (sym ends.same)
            (is.tapped, seen, subst (λ n. MakesBy m o.accent n is.tapped) (sym ends.types) makes))
            (meta refl),
        subst (λ z. HasRoute v.routes.entries z) (sym (without-pend o.accent end off)) route,
      ),
      count,
    )

-- ---- too many states

reaches-also : (m : MapValue) (a : Allows) (s : State) (n p : ℕ) → ReachesMoreThanFrom (alone_by a m) s n p
    → ReachesMoreThanFrom (alone m) s n p
reaches-also m a s n p (states, paths, apart) = (
  states,
  (λ j le.
      let (path, is, few, to) = paths j le in (
        path,
        path-also m a all_allowed None (λ t k lt may. refl) s path is,
        few,
        sym (state-by m a all_allowed None s path) ∙ to,
      )),
  apart,
)

pub reaches-many : (m : MapValue) (a : Allows) (acc : Option ℕ) (s : State) (es : Entries) (p : ℕ) → IsOrigin s
    → HasEnded (under_by a acc m) (s ∷ []) es (TooMany p) → ReachesMany m s
reaches-many m a None s es p origin ended =
    (p, reaches-also m a s state_limit p (reaches-more (under_by a None m) es p ended))
reaches-many m a (Some i) s es p origin ended =
    (p, reaches-also m a s state_limit p (minded_reaches_more (alone_by a m) s i p es (refl, refl, origin.1) ended))

-- Which of the ways that were looked for is picked: the nearer of two, one of a dead key's accents, one that spares
-- keys, and one of the first class that has one.
use Rattle.console_scripts.proofs.Common.{◌≡◌, ◌+◌, ◌<◌, ◌≤◌, ◌⊎◌, ℕ, Bool, true, false, ◌&&◌, not, Option, Some, None}
use Rattle.console_scripts.proofs.Common.{refl, subst, sym, ◌∙◌, inl, inr, arith, slice_get, and_parts}
use Rattle.console_scripts.proofs.Common.{none-some, true≢false, place_last, IfSome, MapValue, State}
use Rattle.console_scripts.proofs.Common.{Routes, rules}
use Rattle.console_states.specs.Allowed.{Allows}
use Rattle.console_states.specs.Moves.{alone_by}
use Rattle.keyboard.specs.declared.board.Board.{Board}
use Rattle.console_scripts.specs.Ways.{DeadTap, IsBegun, IsWay, IsWayBy, Way, allows_in, is_one_tap}
use Rattle.console_scripts.specs.Ways.{presses_of_way, rank, weight}
use Rattle.console_scripts.specs.Inner.Courses.{ReachesMany, allows_but, is_spared}
use Rattle.console_scripts.specs.Inner.Seeking.{HasAccent, HasAccentBelow, HasNoWayBelow, HasTaps, IsAsNear, IsChosen}
use Rattle.console_scripts.specs.Inner.Seeking.{IsFound, IsLooked, IsNearerOf, accent_in}
use Rattle.console_scripts.specs.declared.classes.Class.{Class}
use Rattle.console_scripts.specs.declared.classes.Spared.{Spared}
use Rattle.console_scripts.specs.declared.courses.Found.{Found}
use Rattle.console_scripts.specs.declared.courses.Target.{Target}
use Rattle.console_scripts.specs.declared.seeking.Looked.{Looked}
use Rattle.console_scripts.proofs.Bases.{usable-below}
use Rattle.console_scripts.proofs.WayLaws.{IsAllowedAlso, way-also}

-- ---- what was looked for, told otherwise

-- of what was found, and whether all states were met
pub looked-as : (a : Allows) (m : MapValue) (s : State) (c : Target) (one : Bool) (P : Way → Type 0) (routes : Routes)
    (r : Looked) (o : Option Found) → r.found ≡ o → IsLooked a m s c one P routes r
    → IsLooked a m s c one P routes (record { found = o; has_met_all = r.has_met_all })
looked-as a m s c one P routes r o e x = search rules

-- another way of as many presses
pub looked-spared : (a : Allows) (m : MapValue) (s : State) (c : Target) (one : Bool) (P : Way → Type 0)
    (routes : Routes)
    (r : Looked) (f g : Found) → r.found ≡ Some f → g.presses ≡ f.presses → IsFound a m s c one routes g
    → IsLooked a m s c one P routes r
    → IsLooked a m s c one P routes (record { found = Some g; has_met_all = r.has_met_all })
looked-spared a m s c one P routes r f g e same is x = search rules

-- of the ways of which Q holds, where P holds of them too
looked-for : (a : Allows) (m : MapValue) (s : State) (c : Target) (one : Bool) (P Q : Way → Type 0) (routes : Routes)
    (r : Looked) → ((y : Way) → Q y → IsWayBy a m s c y → P y) → IsLooked a m s c one P routes r
    → IsLooked a m s c one Q routes r
looked-for a m s c one P Q routes r also x =
    record { found = x.found; all = λ t y q is. x.all t y (also y q is) is; many = x.many }

-- ---- the nearer of two

nearer-found : (P : Found → Type 0) (o p r : Option Found) → IfSome o P → IfSome p P → IsNearerOf o p r → IfSome r P
nearer-found P None p r x y e = subst (λ z. IfSome z P) (sym e) y
nearer-found P (Some f) None r x y e = subst (λ z. IfSome z P) (sym e) x
nearer-found P (Some f) (Some g) r x y (inl (le, e)) = subst (λ z. IfSome z P) (sym e) x
nearer-found P (Some f) (Some g) r x y (inr (le, e)) = subst (λ z. IfSome z P) (sym e) y

nearer-first : (o p r : Option Found) (y : Way) → IsNearerOf o p r → IsAsNear o y → IsAsNear r y
nearer-first None p r y e near = absurd near
nearer-first (Some f) None r y e near = subst (λ z. IsAsNear z y) (sym e) near
nearer-first (Some f) (Some g) r y (inl (le, e)) near = subst (λ z. IsAsNear z y) (sym e) near
nearer-first (Some f) (Some g) r y (inr (le, e)) near = search rules

nearer-second : (o p r : Option Found) (y : Way) → IsNearerOf o p r → IsAsNear p y → IsAsNear r y
nearer-second None p r y e near = subst (λ z. IsAsNear z y) (sym e) near
nearer-second (Some f) None r y e near = absurd near
nearer-second (Some f) (Some g) r y (inl (le, e)) near = search rules
nearer-second (Some f) (Some g) r y (inr (le, e)) near = subst (λ z. IsAsNear z y) (sym e) near

accent-cases : (n : ℕ) (y : Way) → HasAccentBelow (n + 1) y → HasAccentBelow n y ⊎ HasAccent (Some n) y
accent-cases n y (i, has, lt) = search (rules, place_last)

-- there are many states, unless both met all
pub many-both : (m : MapValue) (s : State) (p q r : Bool) → r ≡ (p && q) → (p ≡ false → ReachesMany m s)
    → (q ≡ false → ReachesMany m s) → r ≡ false → ReachesMany m s
many-both m s true q r e first second t = second (sym e ∙ t)
many-both m s false q r e first second t = first refl

pub looked-nearer : (a : Allows) (m : MapValue) (s : State) (c : Target) (one : Bool) (routes : Routes) (n : ℕ)
    (p q r : Looked) → IsNearerOf p.found q.found r.found → r.has_met_all ≡ (p.has_met_all && q.has_met_all)
    → IsLooked a m s c one (HasAccentBelow n) routes p → IsLooked a m s c one (HasAccent (Some n)) routes q
    → IsLooked a m s c one (HasAccentBelow (n + 1)) routes r
looked-nearer a m s c one routes n p q r near both x y = record {
  found = nearer-found (IsFound a m s c one routes) p.found q.found r.found x.found y.found near;
  all = λ t way has is.
      let met = and_parts p.has_met_all q.has_met_all (sym both ∙ t) in
      elim (accent-cases n way has) [
        | inl before ↦ nearer-first p.found q.found r.found way near (x.all met.0 way before is)
        | inr here ↦ nearer-second p.found q.found r.found way near (y.all met.1 way here is)
      ];
  many = many-both m s p.has_met_all q.has_met_all r.has_met_all both x.many y.many;
}

-- ---- of one tap, or behind a dead key

-- nothing was looked for yet
pub looked-none : (a : Allows) (m : MapValue) (s : State) (c : Target) (one : Bool) (routes : Routes) (r : Looked)
    → r.found ≡ None → r.has_met_all ≡ true → IsLooked a m s c one (HasAccentBelow 0) routes r
looked-none a m s c one routes r none all = search rules

below-accents : (m : MapValue) (a : Allows) (s : State) (n : ℕ) (dead : Option DeadTap) → slice_get m.accents n ≡ None
    → is_one_tap dead ≡ false → IsBegun (alone_by a m) s dead
    → (i : ℕ) × (accent_in dead ≡ Some i) × (i < n)
below-accents m a s n None none taps begun = absurd (true≢false taps)
below-accents m a s n (Some d) none taps begun = (d.accent, refl, usable-below m d.accent n begun.0 none)

-- each dead key that can be tapped has one of the accents
pub looked-composed : (a : Allows) (m : MapValue) (s : State) (c : Target) (routes : Routes) (n : ℕ) (r : Looked)
    → slice_get m.accents n ≡ None → IsLooked a m s c false (HasAccentBelow n) routes r
    → IsLooked a m s c false (HasTaps false) routes r
looked-composed a m s c routes n r none x = search (rules, looked-for, below-accents)

none-dead : (dead : Option DeadTap) → is_one_tap dead ≡ true → accent_in dead ≡ None
none-dead None taps = refl
none-dead (Some d) taps = absurd (true≢false (sym taps))

pub looked-one : (a : Allows) (m : MapValue) (s : State) (c : Target) (one : Bool) (routes : Routes) (r : Looked)
    → one ≡ true → IsLooked a m s c true (HasAccent None) routes r → IsLooked a m s c one (HasTaps one) routes r
looked-one a m s c one routes r is x = search (rules, looked-for, none-dead)

pub looked-two : (a : Allows) (m : MapValue) (s : State) (c : Target) (one : Bool) (routes : Routes) (r : Looked)
    → one ≡ false → IsLooked a m s c false (HasTaps false) routes r → IsLooked a m s c one (HasTaps one) routes r
looked-two a m s c one routes r is x = subst (λ t. IsLooked a m s c t (HasTaps t) routes r) (sym is) x

-- ---- spared keys

-- what was found by fewer presses was found by more
pub found-also : (m : MapValue) (a b : Allows) → IsAllowedAlso m a b → (s : State) (c : Target) (one : Bool)
    (routes : Routes) (f : Found) → IsFound a m s c one routes f → IsFound b m s c one routes f
found-also m a b also s c one routes f x = search (rules, way-also)

pub but-in : (b : Board) (w : Class) (sp : Spared) (m : MapValue) → IsAllowedAlso m (allows_but b w sp) (allows_in b w)
but-in b w sp m t k lt may = (and_parts _ _ may).0

and-not : (p q : Bool) → p ≡ true → q ≡ false → (p && not q) ≡ true
and-not true false a b = refl
and-not true true a b = absurd (true≢false b)
and-not false q a b = absurd (true≢false (sym a))

in-but : (b : Board) (w : Class) (sp : Spared) (m : MapValue) → ((k : ℕ) → is_spared sp k ≡ false)
    → IsAllowedAlso m (allows_in b w) (allows_but b w sp)
in-but b w sp m none t k lt may = and-not _ _ may (none k)

some-also : (P Q : Found → Type 0) (o : Option Found) → ((f : Found) → P f → Q f) → IfSome o P → IfSome o Q
some-also P Q None also x = tt
some-also P Q (Some f) also x = also f x

-- what spares keys is a way of the class
pub found-sparing : (b other : Board) (w : Class) (sp : Spared) (m : MapValue) (s : State) (c : Target) (one : Bool)
    (P : Way → Type 0) (routes : Routes) (r : Looked) (f : Found) → other ≡ b → r.found ≡ Some f
    → IsLooked (allows_but other w sp) m s c one P routes r
    → IsFound (allows_in b w) m s c one routes f
found-sparing b other w sp m s c one P routes r f same is x = search (rules, found-also, but-in)

-- where no key is spared, all presses of the class are allowed
pub looked-unspared : (b : Board) (w : Class) (sp : Spared) (m : MapValue) (s : State) (c : Target) (one : Bool)
    (P : Way → Type 0) (routes : Routes) (r : Looked) → ((k : ℕ) → is_spared sp k ≡ false)
    → IsLooked (allows_but b w sp) m s c one P routes r
    → IsLooked (allows_in b w) m s c one P routes r
looked-unspared b w sp m s c one P routes r none x = record {
  found =
      some-also (IsFound (allows_but b w sp) m s c one routes) (IsFound (allows_in b w) m s c one routes) r.found
      (found-also m (allows_but b w sp) (allows_in b w) (but-in b w sp m) s c one routes) x.found;
  all = λ t y p is.
      x.all t y p (way-also m (allows_in b w) (allows_but b w sp) (in-but b w sp m none) s c y is);
  many = x.many;
}

-- ---- classes

weight-le : (t : Bool) (n : ℕ) → weight t n ≤ n
weight-le true n = omega arith
weight-le false n = omega arith

-- what is kept to, and what is counted behind it
bit : (n : ℕ) (p q : Bool) (x y : ℕ) → x < n → y < n → weight p n + x ≡ weight q n + y → (p ≡ q) × (x ≡ y)
bit n true true x y lt less e = (refl, omega (arith, e))
bit n true false x y lt less e = absurd (omega (arith, lt, less, e))
bit n false true x y lt less e = absurd (omega (arith, lt, less, e))
bit n false false x y lt less e = (refl, omega (arith, e))

last-bit : (p q : Bool) → weight p 1 ≡ weight q 1 → p ≡ q
last-bit true true e = refl
last-bit true false e = absurd (omega (arith, e))
last-bit false true e = absurd (omega (arith, e))
last-bit false false e = refl

from-right : (a b c d e : ℕ) → a + b + c + d + e ≡ a + (b + (c + (d + e)))
from-right a b c d e = omega arith

below-16 : (b c d e : ℕ) → b ≤ 8 → c ≤ 4 → d ≤ 2 → e ≤ 1 → b + (c + (d + e)) < 16
below-16 b c d e lb lc ld le = omega (arith, lb, lc, ld, le)

below-8 : (c d e : ℕ) → c ≤ 4 → d ≤ 2 → e ≤ 1 → c + (d + e) < 8
below-8 c d e lc ld le = omega (arith, lc, ld, le)

below-4 : (d e : ℕ) → d ≤ 2 → e ≤ 1 → d + e < 4
below-4 d e ld le = omega (arith, ld, le)

below-2 : (e : ℕ) → e ≤ 1 → e < 2
below-2 e le = omega (arith, le)

pub same-class : (w v : Class) → w.keeps_to_board ≡ v.keeps_to_board → w.keeps_locks ≡ v.keeps_locks
    → w.is_one_tap ≡ v.is_one_tap → w.avoids_pad ≡ v.avoids_pad → w.avoids_86 ≡ v.avoids_86
    → w ≡ v
same-class w v a b c d e = search rules

-- what ways of a class keep to, but for the first of it
abbrev low_16 : Class → ℕ
low_16 w = weight w.keeps_locks 8 + (weight w.is_one_tap 4 + (weight w.avoids_pad 2 + weight w.avoids_86 1))

abbrev low_8 : Class → ℕ
low_8 w = weight w.is_one_tap 4 + (weight w.avoids_pad 2 + weight w.avoids_86 1)

abbrev low_4 : Class → ℕ
low_4 w = weight w.avoids_pad 2 + weight w.avoids_86 1

low-16 : (w : Class) → low_16 w < 16
low-16 w = search (rules, below-16, weight-le)

low-8 : (w : Class) → low_8 w < 8
low-8 w = search (rules, below-8, weight-le)

low-4 : (w : Class) → low_4 w < 4
low-4 w =
    below-4 (weight w.avoids_pad 2) (weight w.avoids_86 1) (weight-le w.avoids_pad 2) (weight-le w.avoids_86 1)

low-2 : (w : Class) → weight w.avoids_86 1 < 2
low-2 w = below-2 (weight w.avoids_86 1) (weight-le w.avoids_86 1)

rank-low : (w : Class) → rank w ≡ weight w.keeps_to_board 16 + low_16 w
rank-low w = search (rules, from-right)

-- as many classes come before one class alone
pub rank-one : (w v : Class) → rank w ≡ rank v → w ≡ v
rank-one w v e =
    let (board, e1) =
    bit 16 w.keeps_to_board v.keeps_to_board (low_16 w) (low_16 v) (low-16 w) (low-16 v)
    (sym (rank-low w) ∙ e ∙ rank-low v) in
    let (locks, e2) =
    bit 8 w.keeps_locks v.keeps_locks (low_8 w) (low_8 v) (low-8 w) (low-8 v) e1 in
    let (one, e3) = bit 4 w.is_one_tap v.is_one_tap (low_4 w) (low_4 v) (low-4 w) (low-4 v) e2 in
    let (pad, e4) =
    bit 2 w.avoids_pad v.avoids_pad (weight w.avoids_86 1) (weight v.avoids_86 1) (low-2 w) (low-2 v) e3 in
    same-class w v board locks one pad (last-bit w.avoids_86 v.avoids_86 e4)

pub rank-below : (w : Class) → rank w < 32
rank-below w =
    omega (arith, rank-low w, weight-le w.keeps_to_board 16, low-16 w)

-- ---- the first class that has a way

-- no way of the class was found
pub none-more : (b : Board) (m : MapValue) (s : State) (c : Target) (routes : Routes) (n : ℕ) (w : Class) (p : Looked)
    (old all : Bool) → rank w ≡ n → IsLooked (allows_in b w) m s c w.is_one_tap (HasTaps w.is_one_tap) routes p
    → p.found ≡ None → (old ≡ true → HasNoWayBelow b m s c n) → all ≡ (old && p.has_met_all) → all ≡ true
    → HasNoWayBelow b m s c (n + 1)
none-more b m s c routes n w p old all place x none before both t v y lt is =
    let met = and_parts old p.has_met_all (sym both ∙ t) in
    elim (place_last (rank v) n lt) [
      | inl less ↦ before met.0 v y less is
      | inr e ↦
          let way : IsWay b w m s c y = subst (λ u. IsWay b u m s c y) (rank-one v w (e ∙ sym place)) is in
          subst (λ z. IsAsNear z y) none (x.all met.1 y way.0 way.1)
    ]

-- a way of the class was found
pub chosen-first : (b : Board) (m : MapValue) (s : State) (c : Target) (routes : Routes) (n : ℕ) (w : Class)
    (p : Looked) (f : Found) (old all : Bool) → rank w ≡ n
    → IsLooked (allows_in b w) m s c w.is_one_tap (HasTaps w.is_one_tap) routes p → p.found ≡ Some f
    → (old ≡ true → HasNoWayBelow b m s c n) → (old ≡ false → ReachesMany m s) → all ≡ (old && p.has_met_all)
    → IsChosen b m s c routes (record { chosen = Some (record { class = w; found = f }); has_met_all = all })
chosen-first b m s c routes n w p f old all place x is before many both =
    let found : IsFound (allows_in b w) m s c w.is_one_tap routes f =
    subst (λ z. IfSome z (IsFound (allows_in b w) m s c w.is_one_tap routes)) is x.found in
    record {
      found = (
        found,
        (λ t.
            let met = and_parts old p.has_met_all (sym both ∙ t) in
            record {
              is = (found.taps, found.is);
              first = λ v y lt way. before met.0 v y (omega (arith, lt, place)) way;
              fewest = λ y way.
                  let near : f.presses + 1 ≤ presses_of_way y =
                  subst (λ z. IsAsNear z y) is (x.all met.1 y way.0 way.1) in
                  let count : presses_of_way found.way ≡ f.presses + 1 = found.count in
                  omega (arith, near, count);
            }),
      );
      none = λ none t. absurd (none-some (record { class = w; found = f }) (sym none));
      many = many-both m s old p.has_met_all all both many x.many;
    }

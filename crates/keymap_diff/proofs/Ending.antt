-- How the searches end, and what is told in the end: a list that tells the keymaps apart, that none does, or that too
-- many states are reached.
use Rattle.std.proofs.Common.{min}
use Rattle.keymap_diff.proofs.Common.{suc, ◌≡◌, ℕ, ◌<◌, ◌≤◌, ◌⊎◌, Bool, true, false, inl, inr, List, [], ◌∷◌, length}
use Rattle.keymap_diff.proofs.Common.{slice_get, Option, Some, None, refl, ap, subst, sym, ◌∙◌, arith, cases_lt}
use Rattle.keymap_diff.proofs.Common.{none-some, same_Some, slice_get_within, true≢false, is_some, MapValue, Event}
use Rattle.keymap_diff.proofs.Common.{alone, alone_minding, start, state_of, Entry, NeverForgets, End, TooMany}
use Rattle.keymap_diff.proofs.Common.{Complete, AreClear, IsAdmitted, IsReached, NeverForgetsBelow, Shows}
use Rattle.keymap_diff.proofs.Common.{TellsApart, presses, presses_along}
use Rattle.console_states.specs.Looks.{IsFirstStuck}
use Rattle.console_states.specs.Moves.{IsForgetful}
use Rattle.console_states.specs.Searching.{AreSafe, GoBack, HasEnded, IsStuck}
use Rattle.console_states.specs.Sights.{CanForget}
use Rattle.console_states.specs.Sticking.{ReachesMoreThan}
use Rattle.console_states.specs.declared.look.KeyAt.{KeyAt}
use Rattle.console_states.proofs.Shared.{holds-nearer, is-nearest, minded_reaches_more, reached-one, reaches-more}
use Rattle.console_states.proofs.Shared.{searched-back, start-one}
use Rattle.keymap_diff.specs.declared.searched.Searched.{Searched as SearchedValue}
use Rattle.keymap_diff.specs.declared.telling.Telling.{Telling}
use Rattle.keymap_diff.specs.declared.telling.Telling.TheVariants.{Never, Told, Undecided}
use Rattle.keymap_diff.specs.Telling.{CanForgetBy, IsTelling}
use Rattle.keymap_diff.specs.Inner.Searches.{IsMetAt, IsReach, IsScript, IsSearched, IsWithin}
use Rattle.keymap_diff.proofs.Alike.{below, kept-alike}
use Rattle.keymap_diff.proofs.Apart.{IsToldIn, start-told}
use Rattle.keymap_diff.proofs.Clearing.{reach-done}
use Rattle.keymap_diff.proofs.Minding.{nearer-too, without-tap}

-- the way back from where something shows
pub goes-back : (m n : MapValue) (x : SearchedValue) → IsSearched m n x → GoBack x.met.entries
goes-back m n x s = searched-back (alone_minding m x.minded) x.met.entries 0 0 s.ended.searched

-- where nothing shows and the search gave up, too many states are reached
pub gave-up : (m n : MapValue) (x : SearchedValue) (q : ℕ) → IsSearched m n x → x.shown ≡ None → x.reach ≡ Some q
    → ReachesMoreThan (alone m) 65536 q
gave-up m n x q s none e = by s.end s.ended (subst (λ o. IsReach x.met.entries s.end o x.reach) none s.reach)
  where
    many : (p : Option ℕ) (r : ℕ) → HasEnded (alone_minding m p) (start ∷ []) x.met.entries (TooMany r)
        → ReachesMoreThan (alone m) 65536 r
    many None r ended = reaches-more (alone m) x.met.entries r ended
    many (Some i) r ended = minded_reaches_more (alone m) start i r x.met.entries (refl, refl, refl) ended

    by : (end : End) → HasEnded (alone_minding m x.minded) (start ∷ []) x.met.entries end
        → IsReach x.met.entries end None x.reach → ReachesMoreThan (alone m) 65536 q
    by Complete ended is = absurd (none-some q (sym is ∙ e))
    by (TooMany r) ended is =
        subst (λ z. ReachesMoreThan (alone m) 65536 z) (same_Some r q (sym is ∙ e)) (many x.minded r ended)

-- ---- where a key can forget that it holds a modifier

-- where none can in what was met by fewer presses, none can where fewer lead
pub forgets-none : (m n : MapValue) (x : SearchedValue) → IsSearched m n x → (b : ℕ) → IsWithin b x.reach
    → ((j : ℕ) (y : Entry) → slice_get x.met.entries j ≡ Some y → y.1.presses < b → IsForgetful (alone m) (state_of y.0)
    → ⊥)
    → NeverForgetsBelow m b
forgets-none m n x s b within safe =
    nearer-too m x.minded (λ t. IsForgetful (alone m) t → ⊥) b
    (holds-nearer (alone_minding m x.minded) x.met.entries b
    (reach-done m x.minded x.met.entries s.end x.shown x.reach s.ended s.reach b within)
    (λ t. IsForgetful (alone m) t → ⊥) safe start (start-one s.ended.searched))

-- so where all was met and none can, none ever does
pub searched-never : (m n : MapValue) (x : SearchedValue) → IsSearched m n x → x.reach ≡ None
    → AreSafe (alone m) x.met.entries (length x.met.entries) → NeverForgets (alone m)
searched-never m n x s e safe path is =
    forgets-none m n x s (suc (presses_along path)) (subst (λ o. IsWithin (suc (presses_along path)) o) (sym e) tt)
    (λ j y at lt. safe j y at (slice_get_within x.met.entries j y at)) path is (omega arith)

-- as many presses lead to the first place where one can as it was met by
pub forgets-there : (m n : MapValue) (x : SearchedValue) (place k p : ℕ) → IsSearched m n x
    → IsStuck (alone m) x.met.entries place k → IsMetAt x.met.entries place p → CanForgetBy m p
forgets-there m n x place k p s (y, at, (i, forgets)) (z, there, count) =
    let r : IsReached (alone_minding m x.minded) start x.met.entries place y = reached-one s.ended.searched place y at in
    let same = ap (λ v. v.1.presses) (same_Some y z (sym at ∙ there)) in
    let (plain, made, leads, few, fewer) = without-tap m x.minded r.0 r.2 in (
      plain,
      made,
      omega (arith, r.4, same, count, few),
      subst (λ v. IsForgetful (alone m) v) (sym leads)
          (subst (λ v. IsForgetful (alone m) v) (sym r.3) (i, k, forgets)),
    )

-- and none where fewer lead
pub forgets-later : (m n : MapValue) (x : SearchedValue) (place p b : ℕ) → IsSearched m n x
    → AreSafe (alone m) x.met.entries place → IsMetAt x.met.entries place p → b ≤ p → NeverForgetsBelow m b
forgets-later m n x place p b s safe (z, there, count) le =
    nearer-too m x.minded (λ t. IsForgetful (alone m) t → ⊥) b
    (λ path is lt.
    is-nearest (alone_minding m x.minded) x.met.entries s.end s.ended (λ t. IsForgetful (alone m) t → ⊥) place z there
    safe start (0, omega arith, refl) path is (omega (arith, lt, le, count)))

-- so many presses, or as many as lead to where one can, if these are fewer
pub forgetting-limit : (m n : MapValue) (x : SearchedValue) (there : KeyAt) (p b r : ℕ) → IsSearched m n x
    → IsFirstStuck (alone m) x.met.entries (Some there)
    → IsMetAt x.met.entries there.place p → r ≡ min b p → NeverForgetsBelow m r × ((r ≡ b) ⊎ CanForgetBy m r)
forgetting-limit m n x there p b r s look at is = (
  forgets-later m n x there.place p r s look.is.1 at (omega (arith, is)),
  elim (cases_lt p b) [
    | inl lt ↦
        let same : p ≡ r = omega (arith, is, lt) in
        inr (subst (λ q. CanForgetBy m q) same (forgets-there m n x there.place there.key p s look.is.0 at))
    | inr le ↦ inl (omega (arith, is, le))
  ],
)

-- what is told of forgetting where all was met
pub never-found : (m n : MapValue) (x : SearchedValue) (stuck : Option KeyAt) (forgets : Bool)
    → IsSearched m n x → x.reach ≡ None
    → IsFirstStuck (alone m) x.met.entries stuck → forgets ≡ is_some stuck
    → (forgets ≡ false → NeverForgets (alone m)) × (forgets ≡ true → CanForget m)
never-found m n x (Some y) forgets s e look is =
    let (z, at, holder) = look.is.0 in
    let (path, made, le, forgetful) =
    forgets-there m n x y.place y.key z.1.presses s (z, at, holder) (z, at, refl) in
    ((λ f. absurd (true≢false (sym is ∙ f))), (λ t. (path, made, forgetful)))
never-found m n x None forgets s e look is =
    ((λ f. searched-never m n x s e look.is), (λ t. absurd (true≢false (sym t ∙ is))))

-- ---- what is answered

-- where fewer than p presses show nothing, each list that tells the keymaps apart has more
pub beyond : (m n : MapValue) (forgets : Bool) (p : ℕ) → (forgets ≡ false → NeverForgetsBelow m p)
    → ((a : Option ℕ) → AreClear m n a p) → (g : List Event) → IsAdmitted m forgets g → TellsApart m n g
    → p < presses g
beyond m n forgets p never clear g given tells = elim (cases_lt p (presses g)) [
  | inl lt ↦ lt
  | inr le ↦ absurd (tells (below m n forgets p never clear g (given, le)).1)
]

-- a script that tells them apart, where fewer presses show nothing
pub told-tells : (m n : MapValue) (q : ℕ) (t : Telling) → ((a : Option ℕ) → AreClear m n a q) → IsToldIn m n t q
    → IsTelling m n t
told-tells m n q (Told es old new) clear (told, count) = (
  told,
  λ g given tells.
      let lt = beyond m n true q (λ f. absurd (true≢false f)) clear g given tells in omega (arith, lt, count),
)
told-tells m n q (Never f) clear told = absurd told
told-tells m n q (Undecided r) clear told = absurd told

-- where nothing shows at all
pub never-tells : (m n : MapValue) (forgets : Bool) → ((b : ℕ) (a : Option ℕ) → AreClear m n a b)
    → (forgets ≡ false → NeverForgets (alone m)) → (forgets ≡ true → CanForget m) → IsTelling m n (Never forgets)
never-tells m n forgets clear never can = (
  λ h given.
      let b : ℕ = presses h in
      let (alike, answered) =
      below m n forgets b (λ f path is lt. never f path is) (clear b) h (given, omega arith) in
      (answered, kept-alike m n h alike),
  can,
)

-- where nothing shows within so many presses, and that is as far as is known
pub undecided-tells : (m n : MapValue) (p r : ℕ) → ReachesMoreThan (alone m) 65536 p
    → ((a : Option ℕ) → AreClear m n a r) → r ≤ p → NeverForgetsBelow m r → (r ≡ p) ⊎ CanForgetBy m r
    → IsTelling m n (Undecided r)
undecided-tells m n p r many clear le never most = (
  (p, many, le, most),
  λ g keys none tells.
      beyond m n false r (λ f. never) clear g (keys, none, λ f. absurd (true≢false (sym f))) tells,
)

-- where a press at the start shows something
pub start-tells : (m n : MapValue) (k : ℕ) → k < 128 → Shows m n None start k → (t : Telling) → IsScript m n [] k t
    → IsTelling m n t
start-tells m n k key shows t script =
    told-tells m n 0 t (λ a path is lt. absurd (omega (arith, lt))) (start-told m n k key shows t script)

-- One more event under two keymaps: consoles that are alike answer it alike and stay so, unless it is a press that
-- shows a difference.
use Rattle.std.proofs.Common.{rules}
use Rattle.keymap_diff.proofs.Common.{◌≡◌, ◌≢◌, ℕ, ◌⊎◌, Bool, true, List, [], ◌∷◌, Option, Some, None, refl, ap}
use Rattle.keymap_diff.proofs.Common.{subst, sym, ◌∙◌, inl, inr, cases_Bool, true≢false, option_or, fun_ext}
use Rattle.keymap_diff.proofs.Common.{eqb-true, same_action-true, Action, Lock, Modifier, Meta, Holding, Cell, Char}
use Rattle.keymap_diff.proofs.Common.{Act, Event, Press, MapValue, accent_at, own_of, usable, composed_by, is_pending}
use Rattle.keymap_diff.proofs.Common.{char_or_error, answer_char, answer_action, answer_dead_key, next_pending}
use Rattle.keymap_diff.proofs.Common.{unless_nop, taken_over, held, locked, on, remembered, pending, look}
use Rattle.keymap_diff.proofs.Common.{resolve_press, answer_resolved, ResolvedEvent, PressedCharacter, PressedAction}
use Rattle.keymap_diff.proofs.Common.{ReleasedKey, WasReset, between, resolved, answer_to, State, Follows}
use Rattle.keymap_diff.proofs.Common.{looked_up, AreCellsAlike, IsUnnoticed, MakesSame, same_action, false}
use Rattle.keymap_diff.proofs.Common.{if◌then◌else◌}
use Rattle.console_core.specs.Columns.{look_with}
use Rattle.console_states.specs.Sights.{look_selected}
use Rattle.console_states.proofs.Shared.{follows-selection}
use Rattle.console_core.proofs.Shared.{held-action, held-character, held-release, held-reset, locked-action}
use Rattle.console_core.proofs.Shared.{locked-character, locked-release, locked-reset, one_in_force}
use Rattle.console_core.proofs.Shared.{pending-action, pending-character, pending-release, pending-reset}
use Rattle.console_core.proofs.Shared.{pending-start, remembered-action, remembered-character}
use Rattle.console_core.proofs.Shared.{remembered-release, remembered-reset, resolved-more}
use Rattle.keymap_core.specs.declared.action.Action.TheVariants as act
use Rattle.keymap_core.specs.declared.action.Holding.TheVariants as holding

-- what the two consoles keep is the same
pub record Alike (m n : MapValue) (r q : List ResolvedEvent) : Type 0 where
  pub held : (a : Holding) → held a r ≡ held a q
  pub locked : (l : Lock) → locked l r ≡ locked l q
  pub remembered : (k : ℕ) → remembered k r ≡ remembered k q
  pub pending : pending m r ≡ pending n q

-- what a key looks up where a console stands in a state
pub look-is : (m : MapValue) (r : List ResolvedEvent) (s : State) (k : ℕ) → Follows r s → look m r k ≡ looked_up m s k
unfolding look
look-is m r s k f =
    ap (λ y. look_selected m y k) (follows-selection r s f)

-- consoles that are alike look up the same place
pub alike-look : (m n : MapValue) (r q : List ResolvedEvent) (k : ℕ) → Alike m n r q → look n q k ≡ look n r k
unfolding look
alike-look m n r q k x =
    let e : (λ (i : Modifier). on i q) ≡ (λ i. on i r) = fun_ext (λ i. sym (x.held (holding.Mod i))) in
    let g : (λ (l : Lock). locked l q) ≡ (λ l. locked l r) = fun_ext (λ l. sym (x.locked l)) in
    ap (λ y. look_with n y (λ l. locked l q) k) e ∙ ap (λ y. look_with n (λ i. on i r) y k) g

-- the dead keys of the action can be used under both keymaps or under neither
abbrev pub AreUsableAlike : MapValue → MapValue → Action → Type 0
AreUsableAlike m n a = (i : ℕ) → a ≡ act.DeadKey i → usable m i ≡ usable n i

next-same : (m n : MapValue) (p : Option ℕ) (a : Action) → AreUsableAlike m n a
    → next_pending m p a ≡ next_pending n p a
next-same m n p (act.DeadKey i) same = rw (same i refl) refl
next-same m n p _ same = refl

-- ---- one more event under both

pub alike-start : (m n : MapValue) → Alike m n [] []
alike-start m n = search (rules, pending-start)

alike-character : (m n : MapValue) (r q : List ResolvedEvent) (k c : ℕ) → Alike m n r q
    → Alike m n (PressedCharacter k c ∷ r) (PressedCharacter k c ∷ q)
alike-character m n r q k c x =
    search (rules, held-character, locked-character, remembered-character, pending-character)

-- two actions by which the key takes the same, and remembers the same
alike-action : (m n : MapValue) (r q : List ResolvedEvent) (k : ℕ) (a b : Action) → Alike m n r q
    → taken_over (remembered k r) a ≡ taken_over (remembered k r) b
    → option_or (remembered k r) (unless_nop a) ≡ option_or (remembered k r) (unless_nop b)
    → AreUsableAlike m n (taken_over (remembered k r) a)
    → Alike m n (PressedAction k a ∷ r) (PressedAction k b ∷ q)
alike-action m n r q k a b x taken kept same =
    search (
      rules,
      held-action,
      locked-action,
      remembered-action,
      cases_Bool,
      eqb-true,
      pending-action,
      next-same,
    )

pub alike-release : (m n : MapValue) (r q : List ResolvedEvent) (k : ℕ) → Alike m n r q
    → Alike m n (ReleasedKey k ∷ r) (ReleasedKey k ∷ q)
alike-release m n r q k x =
    search (rules, held-release, locked-release, remembered-release, pending-release)

pub alike-reset : (m n : MapValue) (r q : List ResolvedEvent) → Alike m n r q → Alike m n (WasReset ∷ r) (WasReset ∷ q)
alike-reset m n r q x = search (rules, held-reset, locked-reset, remembered-reset, pending-reset)

-- ---- what is answered

-- what the accent that is pending makes of the character is the same
abbrev pub ComposesAlike : MapValue → MapValue → Option ℕ → ℕ → Type 0
ComposesAlike m n p c = (i : ℕ) → p ≡ Some i → MakesSame m n i c

-- the dead key of the accent that is pending makes the same, if the action is that
abbrev pub ComposesDead : MapValue → MapValue → Option ℕ → Action → Type 0
ComposesDead m n p a = (i : ℕ) → a ≡ act.DeadKey i → p ≡ Some i → MakesSame m n i 32

char-same : (m n : MapValue) (p : Option ℕ) (meta : Bool) (c : ℕ) → ComposesAlike m n p c
    → answer_char m p meta c ≡ answer_char n p meta c
char-same m n None meta c same = refl
char-same m n (Some i) meta c same = ap (λ o. char_or_error meta o) (same i refl)

-- an accent's own character is what it makes of 32
pub own-composed : (m : MapValue) (i : ℕ) → own_of (accent_at m i) ≡ composed_by (accent_at m i) 32
own-composed m i = search rules

pending-is_some : (i : ℕ) (p : Option ℕ) → is_pending i p ≡ true → p ≡ Some i
pending-is_some i None e = absurd (true≢false (sym e))
pending-is_some i (Some j) e = ap (λ z. Some z) (eqb-true j i e)

dead-same : (m n : MapValue) (p : Option ℕ) (meta : Bool) (i : ℕ) → usable m i ≡ usable n i
    → (p ≡ Some i → MakesSame m n i 32) → answer_dead_key m p meta i ≡ answer_dead_key n p meta i
dead-same m n p meta i same own = search (rules, cases_Bool, own-composed, pending-is_some)

action-same : (m n : MapValue) (p : Option ℕ) (meta : Bool) (a : Action) → AreUsableAlike m n a
    → ComposesDead m n p a → answer_action m p meta a ≡ answer_action n p meta a
action-same m n p meta (act.DeadKey i) same own = dead-same m n p meta i (same i refl) (own i refl)
action-same m n p meta _ same own = refl

-- the answer to a press by what its key looks up
pub press-answered : (m : MapValue) (h : List Event) (k : ℕ)
    → answer_to (between m m) h (Press k)
    ≡ answer_resolved m (resolve_press k (look m (resolved (between m m) h) k)) (resolved (between m m) h)
press-answered m h k = cc (one_in_force m h)

pub press-resolved : (m : MapValue) (h : List Event) (k : ℕ)
    → resolved (between m m) (Press k ∷ h)
    ≡ resolve_press k (look m (resolved (between m m) h) k) ∷ resolved (between m m) h
press-resolved m h k = cc (resolved-more (between m m) h (Press k), one_in_force m h)

-- ---- a press of a key

-- The key looks up the cells, which are alike, or remembers a modifier and takes nothing by either.
abbrev pub ShowNothingFor : MapValue → MapValue → Option Action → Cell → Cell → Type 0
ShowNothingFor m n o x y =
    AreCellsAlike m n x y ⊎ ((i : Modifier) × (o ≡ Some (act.Mod i)) × IsUnnoticed i x × IsUnnoticed i y)

usable-if : (m n : MapValue) (t : Bool) (a : Action) → AreUsableAlike m n a
    → AreUsableAlike m n (if t then a else act.Nop)
usable-if m n true a same = same
usable-if m n false a same = λ i e. let g : act.Nop ≡ act.DeadKey i = e in cc

taken-usable : (m n : MapValue) (o : Option Action) (a : Action) → AreUsableAlike m n a
    → AreUsableAlike m n (taken_over o a)
taken-usable m n None a same = same
taken-usable m n (Some b) a same = usable-if m n (same_action b a) a same

unnoticed-nop : (i : Modifier) (a : Action) → a ≢ act.Mod i → taken_over (Some (act.Mod i)) a ≡ act.Nop
unnoticed-nop i a other = search (rules, cases_Bool, same_action-true)

-- after it the consoles are alike, and it is answered alike
abbrev pub IsPressAlike : MapValue → MapValue → List ResolvedEvent → List ResolvedEvent → ℕ → Cell → Cell → Type 0
IsPressAlike m n r q k x y =
    Alike m n (resolve_press k x ∷ r) (resolve_press k y ∷ q)
    × (answer_resolved m (resolve_press k x) r ≡ answer_resolved n (resolve_press k y) q)

-- what is pending makes the same of the character that is looked up, or of the dead key that is taken
abbrev pub ComposesCell : MapValue → MapValue → Option ℕ → Option Action → Cell → Type 0
ComposesCell m n p o x =
    ((c : ℕ) → x ≡ Char c → ComposesAlike m n p c) × ((a : Action) → x ≡ Act a → ComposesDead m n p (taken_over o a))

press-same : (m n : MapValue) (r q : List ResolvedEvent) (k : ℕ) (x : Cell) → Alike m n r q
    → ((i : ℕ) → x ≡ Act (act.DeadKey i) → usable m i ≡ usable n i) → ComposesCell m n (pending m r) (remembered k r) x
    → IsPressAlike m n r q k x x
press-same m n r q k (Char c) alike usably (chars, own) = (
  alike-character m n r q k c alike,
  rw (← alike.pending, ← alike.held (holding.Mod Meta)) (char-same m n (pending m r) (on Meta r) c (chars c refl)),
)
press-same m n r q k (Act a) alike usably (chars, own) =
    let same : AreUsableAlike m n (taken_over (remembered k r) a) =
    taken-usable m n (remembered k r) a (λ i e. usably i (ap (λ z. Act z) e)) in (
      alike-action m n r q k a a alike refl refl same,
      rw (← alike.pending, ← alike.held (holding.Mod Meta), ← alike.remembered k)
          (action-same m n (pending m r) (on Meta r) (taken_over (remembered k r) a) same (own a refl)),
    )

press-held : (m n : MapValue) (r q : List ResolvedEvent) (k : ℕ) (i : Modifier) (x y : Cell) → Alike m n r q
    → remembered k r ≡ Some (act.Mod i) → IsUnnoticed i x → IsUnnoticed i y → IsPressAlike m n r q k x y
press-held m n r q k i (Char c) y alike rem u v = absurd u
press-held m n r q k i (Act a) (Char c) alike rem u v = absurd v
press-held m n r q k i (Act a) (Act b) alike rem u v =
    let t : taken_over (remembered k r) a ≡ act.Nop = rw rem (unnoticed-nop i a u) in
    let w : taken_over (remembered k r) b ≡ act.Nop = rw rem (unnoticed-nop i b v) in (
      alike-action m n r q k a b alike (t ∙ sym w) (rw rem refl)
          (rw t (λ j e. let f : act.Nop ≡ act.DeadKey j = e in cc)),
      rw (← alike.remembered k, t, w) refl,
    )

pub one-press : (m n : MapValue) (r q : List ResolvedEvent) (k : ℕ) (x y : Cell) → Alike m n r q
    → ShowNothingFor m n (remembered k r) x y → ComposesCell m n (pending m r) (remembered k r) x
    → IsPressAlike m n r q k x y
one-press m n r q k x y alike (inl (e, usably)) compose =
    subst (λ z. IsPressAlike m n r q k x z) e (press-same m n r q k x alike usably compose)
one-press m n r q k x y alike (inr (i, rem, u, v)) compose = press-held m n r q k i x y alike rem u v

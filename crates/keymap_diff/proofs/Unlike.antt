-- Where a key shows a difference of two keymaps, a press of it or its release is answered differently.
use Rattle.std.proofs.Common.{rules}
use Rattle.keymap_diff.proofs.Common.{◌≡◌, ◌≢◌, ℕ, ◌≤◌, ◌⊎◌, Bool, true, List, [], ◌∷◌, ◌++◌, Option}
use Rattle.keymap_diff.proofs.Common.{Some, None, refl, ap, subst, sym, ◌∙◌, inl, inr, arith, cases_Bool}
use Rattle.keymap_diff.proofs.Common.{option_or, eq-eqb, same_action-true, same_action-refl, Action}
use Rattle.keymap_diff.proofs.Common.{Modifier, Meta, Cell, Char, Act, Event, Press, Release, Answer, Move, Hold, Turn}
use Rattle.keymap_diff.proofs.Common.{LetGo, Exchange, MapValue, accent_at, composed_by, usable, answer_char}
use Rattle.keymap_diff.proofs.Common.{answer_action, answer_release, answer_dead_key, char_or_error, unless_nop}
use Rattle.keymap_diff.proofs.Common.{taken_over, on, remembered, pending, resolve_press, answer_resolved}
use Rattle.keymap_diff.proofs.Common.{ResolvedEvent, between, resolved, answer_to, alone, State, IsIdle, IsPath}
use Rattle.keymap_diff.proofs.Common.{IsMove, moved, presses_of, events_of_move, look_in, start, state_after, Tap}
use Rattle.keymap_diff.proofs.Common.{presses_along, events_along, Stands, false≢true, TellsApart, looked_up}
use Rattle.keymap_diff.proofs.Common.{NoneShows, AreCellsAlike, Gives, IsUnnoticed, Shows, ShowsNothing, IfSome}
use Rattle.keymap_diff.proofs.Common.{append-nil, append_assoc, if◌then◌else◌, alone_minding, with_accent, HoldsNearer, same_Some}
use Rattle.console_core.specs.declared.event.Answer.TheVariants as answer
use Rattle.keymap_diff.proofs.OneEvent.{look-is, own-composed, press-answered, press-resolved}
use Rattle.console_core.proofs.Shared.{one_map, pending-start, remembered-action, remembered-character}
use Rattle.console_core.proofs.Shared.{resolved-start}
use Rattle.console_states.proofs.Shared.{IsShort, idle-none, minded-along, minded-stands, pending-move, short-along}
use Rattle.console_states.proofs.Shared.{short-start, short-tap, stands-move, stands-start}
use Rattle.keymap_core.specs.declared.action.Action.TheVariants as act

-- ---- by the cells that the key looks up

-- the answer to a press that looks up the cell, and what the key remembers after it, by what it remembered before
abbrev answer_cell : MapValue → Option ℕ → Bool → Option Action → Cell → Answer
answer_cell m p b o (Char c) = answer_char m p b c
answer_cell m p b o (Act a) = answer_action m p b (taken_over o a)

abbrev kept_cell : Option Action → Cell → Option Action
kept_cell o (Char c) = None
kept_cell o (Act a) = option_or o (unless_nop a)

cell-answered : (m : MapValue) (r : List ResolvedEvent) (k : ℕ) (x : Cell)
    → answer_resolved m (resolve_press k x) r ≡ answer_cell m (pending m r) (on Meta r) (remembered k r) x
cell-answered m r k (Char c) = refl
cell-answered m r k (Act a) = refl

cell-kept : (r : List ResolvedEvent) (k : ℕ) (x : Cell)
    → remembered k (resolve_press k x ∷ r) ≡ kept_cell (remembered k r) x
cell-kept r k (Char c) = rw (remembered-character k k c r, eq-eqb k k refl) refl
cell-kept r k (Act a) = rw (remembered-action k k a r, eq-eqb k k refl) refl

-- a character is answered as no action is, where no accent is pending
no-char : (m : MapValue) (b d : Bool) (c : ℕ) (a : Action) → answer.Char c b ≡ answer_action m None d a → ⊥
no-char m b d c (act.DeadKey i) e = search (rules, cases_Bool)
no-char m b d c _ e = cc

released-same : (a e : Action) → answer_release (unless_nop a) ≡ answer_release (unless_nop e) → a ≡ e
released-same a e p = search (rules, cases_Bool, same_action-true)

dead-usable : (m n : MapValue) (b d : Bool) (i : ℕ) → answer_dead_key m None b i ≡ answer_dead_key n None d i
    → usable m i ≡ usable n i
dead-usable m n b d i p = search (rules, cases_Bool)

act-same : (a e : Action) → Act a ≡ Act e → a ≡ e
act-same a e p = cc

char-alike : (m n : MapValue) (b d : Bool) (c e : ℕ) → answer.Char c b ≡ answer.Char e d
    → AreCellsAlike m n (Char c) (Char e)
char-alike m n b d c e p = search rules

-- of a key that remembers nothing, where both are answered alike
idle-cells : (m n : MapValue) (b d : Bool) (x y : Cell) → answer_cell m None b None x ≡ answer_cell n None d None y
    → answer_release (kept_cell None x) ≡ answer_release (kept_cell None y) → AreCellsAlike m n x y
idle-cells m n b d (Char c) (Char e) p q = char-alike m n b d c e p
idle-cells m n b d (Char c) (Act a) p q = absurd (no-char n b d c a p)
idle-cells m n b d (Act a) (Char c) p q = absurd (no-char m d b c a (sym p))
idle-cells m n b d (Act a) (Act e) p q = search (rules, released-same, act-same, dead-usable)

-- a key that remembers a modifier takes that or nothing
taken-held : (m : MapValue) (b : Bool) (i : Modifier) (a : Action)
    → ((a ≡ act.Mod i) × (answer_action m None b (taken_over (Some (act.Mod i)) a) ≡ answer.Special (act.Mod i)))
    ⊎ ((a ≢ act.Mod i) × (answer_action m None b (taken_over (Some (act.Mod i)) a) ≡ answer.None))
taken-held m b i a = search (rules, cases_Bool, same_action-true, same_action-refl)

held-cells : (m n : MapValue) (b d : Bool) (i : Modifier) (x y : Cell)
    → answer_cell m None b (Some (act.Mod i)) x ≡ answer_cell n None d (Some (act.Mod i)) y
    → AreCellsAlike m n x y ⊎ (IsUnnoticed i x × IsUnnoticed i y)
held-cells m n b d i (Char c) (Char e) p = inl (char-alike m n b d c e p)
held-cells m n b d i (Char c) (Act a) p = absurd (no-char n b d c (taken_over (Some (act.Mod i)) a) p)
held-cells m n b d i (Act a) (Char c) p = absurd (no-char m d b c (taken_over (Some (act.Mod i)) a) (sym p))
held-cells m n b d i (Act a) (Act e) p = search (rules, taken-held, act-same)

-- what an accent makes is told by the answer
made-same : (b d : Bool) (x y : Option ℕ) → char_or_error b x ≡ char_or_error d y → x ≡ y
made-same b d None None e = refl
made-same b d None (Some c) e = let f : answer.Error ≡ answer.Char c d = e in absurd (cc)
made-same b d (Some c) None e = let f : answer.Char c b ≡ answer.Error = e in absurd (cc)
made-same b d (Some c) (Some e) p =
    let f : answer.Char c b ≡ answer.Char e d = p in let g : c ≡ e = cc in ap (λ z. Some z) g

-- ---- behind a list of events

-- what is pending in a state, of the accent that is minded
abbrev pub pending_in : Option ℕ → State → Option ℕ
pending_in p s = if s.is_pending then p else None

pub none-pending : (s : State) → pending_in None s ≡ None
none-pending s = search (rules, cases_Bool)

-- Both consoles stand in the state after the list, and the same is pending: an accent that can be used under both.
pub record Placed (m n : MapValue) (p : Option ℕ) (h : List Event) (s : State) : Type 0 where
  pub first : IsShort m h s
  pub second : Stands (alone n) h s
  pub first_pending : pending m (resolved (between m m) h) ≡ pending_in p s
  pub second_pending : pending n (resolved (between n n) h) ≡ pending_in p s
  pub usable_in : s.is_pending ≡ true → IfSome p (λ i. (usable m i ≡ true) × (usable n i ≡ true))

-- the answers to a press and to the release behind it
press-cell : (m : MapValue) (h : List Event) (s : State) (k : ℕ) (p : Option ℕ) (o : Option Action)
    → Stands (alone m) h s
    → pending m (resolved (between m m) h) ≡ p → remembered k (resolved (between m m) h) ≡ o
    → answer_to (between m m) h (Press k) ≡ answer_cell m p (on Meta (resolved (between m m) h)) o (looked_up m s k)
press-cell m h s k p o x is rem = search (rules, press-answered, look-is, cell-answered)

release-cell : (m : MapValue) (h : List Event) (s : State) (k : ℕ) (o : Option Action) → Stands (alone m) h s
    → remembered k (resolved (between m m) h) ≡ o
    → answer_to (between m m) (Press k ∷ h) (Release k) ≡ answer_release (kept_cell o (looked_up m s k))
release-cell m h s k o x rem = search (rules, press-resolved, look-is, cell-kept)

-- the presses are answered alike
abbrev pub IsPressAnsweredAlike : MapValue → MapValue → List Event → ℕ → Type 0
IsPressAnsweredAlike m n h k = answer_to (between m m) h (Press k) ≡ answer_to (between n n) h (Press k)

-- a key that shows something where no accent is pending: if its press is answered alike, its release isn't
pub told-cells : (m n : MapValue) (h : List Event) (s : State) (k : ℕ) → Placed m n None h s → Shows m n None s k
    → IsPressAnsweredAlike m n h k → TellsApart m n (Release k ∷ Press k ∷ h)
told-cells m n h s k x (unlike, inl idle) same released =
    let rem : remembered k (resolved (between m m) h) ≡ None =
    idle-none (resolved (between m m) h) s k x.first.stands.exact idle in
    let rem_too : remembered k (resolved (between n n) h) ≡ None =
    idle-none (resolved (between n n) h) s k x.second.exact idle in
    unlike (idle-cells m n _ _ (looked_up m s k) (looked_up n s k)
    (sym (press-cell m h s k None None x.first.stands (x.first_pending ∙ none-pending s) rem) ∙ same
    ∙ press-cell n h s k None None x.second (x.second_pending ∙ none-pending s) rem_too)
    (sym (release-cell m h s k None x.first.stands rem) ∙ released ∙ release-cell n h s k None x.second rem_too))
told-cells m n h s k x (unlike, inr (i, holds, noticed)) same released =
    elim (held-cells m n _ _ i (looked_up m s k) (looked_up n s k)
    (sym (press-cell m h s k None (Some (act.Mod i)) x.first.stands (x.first_pending ∙ none-pending s)
    (x.first.stands.exact.follows.holds i k holds)) ∙ same
    ∙ press-cell n h s k None (Some (act.Mod i)) x.second (x.second_pending ∙ none-pending s)
    (x.second.exact.follows.holds i k holds))) [
      | inl alike ↦ unlike alike
      | inr (u, v) ↦ noticed u v
    ]

-- the answer to a press that puts the accent on the character
press-made : (m : MapValue) (h : List Event) (s : State) (k i c : ℕ) → Stands (alone m) h s → usable m i ≡ true
    → pending m (resolved (between m m) h) ≡ Some i → Gives m i s k c
    → answer_to (between m m) h (Press k)
    ≡ char_or_error (on Meta (resolved (between m m) h)) (composed_by (accent_at m i) c)
press-made m h s k i c x can is (inl seen) =
    press-cell m h s k (Some i) _ x is refl ∙ rw seen refl
press-made m h s k i c x can is (inr (idle, seen, blank)) =
    press-cell m h s k (Some i) None x is (idle-none (resolved (between m m) h) s k x.exact idle)
    ∙ rw (seen, can, eq-eqb i i refl, own-composed m i, ← blank) refl

-- what it puts the accent on under the one keymap it does under the other, where nothing shows without an accent
pub gives-too : (m n : MapValue) (s : State) (k i c : ℕ) → ShowsNothing m n None s k → Gives m i s k c → Gives n i s k c
gives-too m n s k i c (inl (same, usably)) (inl seen) = inl (sym same ∙ seen)
gives-too m n s k i c (inl (same, usably)) (inr (idle, seen, blank)) = inr (idle, sym same ∙ seen, blank)
gives-too m n s k i c (inr (j, holds, u, v)) (inl seen) = absurd (subst (λ z. IsUnnoticed j z) seen u)
gives-too m n s k i c (inr (j, holds, u, v)) (inr (idle, seen, blank)) = absurd (idle j holds)

-- a key that shows something while an accent is pending: its press isn't answered alike
pub told-accent : (m n : MapValue) (h : List Event) (s : State) (k i : ℕ) → Placed m n (Some i) h s
    → ShowsNothing m n None s k → Shows m n (Some i) s k → IsPressAnsweredAlike m n h k → ⊥
told-accent m n h s k i x nothing (on, (c, gives, unlike)) same =
    let (can, can_too) = x.usable_in on in
    unlike (made-same _ _ (composed_by (accent_at m i) c) (composed_by (accent_at n i) c)
    (sym (press-made m h s k i c x.first.stands can (x.first_pending ∙ rw on refl) gives) ∙ same
    ∙ press-made n h s k i c x.second can_too (x.second_pending ∙ rw on refl) (gives-too m n s k i c nothing gives)))

-- ---- along a path

-- what a key looks up in a state of one map
pub look-in : (m : MapValue) (s : State) (k : ℕ) → look_in (alone m) s k ≡ looked_up m s k
look-in m s k = cc (one_map m s.is_second)

-- an idle key that shows nothing looks up the same under both
idle-look : (m n : MapValue) (s : State) (k : ℕ) (x : Cell) → IsIdle s k → ShowsNothing m n None s k
    → look_in (alone m) s k ≡ x → look_in (alone n) s k ≡ x
idle-look m n s k x idle (inl (same, usably)) seen = look-in n s k ∙ sym same ∙ sym (look-in m s k) ∙ seen
idle-look m n s k x idle (inr (i, holds, u, v)) seen = absurd (idle i holds)

pub placed-start : (m n : MapValue) (p : Option ℕ) → Placed m n p [] start
placed-start m n p = record {
  first = short-start m;
  second = stands-start (alone n);
  first_pending = rw (resolved-start (between m m)) (pending-start m);
  second_pending = rw (resolved-start (between n n)) (pending-start n);
  usable_in = λ on. absurd (false≢true on);
}

-- a move under both that keeps what is pending
placed-kept : (m n : MapValue) (p : Option ℕ) (h : List Event) (s : State) (move : Move) → Placed m n p h s
    → IsMove (alone m) s move → IsMove (alone n) s move → moved (alone n) s move ≡ moved (alone m) s move
    → (moved (alone m) s move).is_pending ≡ s.is_pending
    → Placed m n p (events_of_move move ++ h) (moved (alone m) s move)
placed-kept m n p h s move x is too same still = record {
  first =
      subst (λ es. IsShort m (es ++ h) (moved (alone m) s move)) (append-nil (events_of_move move))
      (short-along m h s (move ∷ []) x.first (is, tt));
  second = subst (λ t. Stands (alone n) (events_of_move move ++ h) t) same (stands-move (alone n) h s move too x.second);
  first_pending = pending-move m h s move is x.first.stands ∙ x.first_pending
      ∙ ap (λ b. if b then p else None) (sym still);
  second_pending = pending-move n h s move too x.second ∙ x.second_pending
      ∙ ap (λ b. if b then p else None) (sym still);
  usable_in = λ on. x.usable_in (sym still ∙ on);
}

-- an idle key that shows nothing looks up the dead key under both, which can be used under both
dead-too : (m n : MapValue) (s : State) (d i : ℕ) → ShowsNothing m n None s d → IsIdle s d
    → look_in (alone m) s d ≡ Act (act.DeadKey i) → usable m i ≡ true
    → (look_in (alone n) s d ≡ Act (act.DeadKey i)) × (usable n i ≡ true)
dead-too m n s d i (inl (same, usably)) idle seen can = search (rules, look-in)
dead-too m n s d i (inr (j, holds, u, v)) idle seen can = absurd (idle j holds)

-- a tap of the dead key that is minded
placed-tapped : (m n : MapValue) (h : List Event) (s : State) (d i : ℕ) → Placed m n (Some i) h s
    → IsMove (alone_minding m (Some i)) s (Tap d) → IsMove (alone_minding n (Some i)) s (Tap d)
    → Placed m n (Some i) (Release d ∷ Press d ∷ h) (with_accent s)
placed-tapped m n h s d i x is too = record {
  first = record {
    stands = minded-stands m i h s (Tap d ∷ []) x.first.stands (is, tt);
    plain = (short-tap m h s d is.0 x.first is.3.0 is.3.1 is.3.2.0).plain;
  };
  second = minded-stands n i h s (Tap d ∷ []) x.second (too, tt);
  first_pending = minded-along m i h s (Tap d ∷ []) x.first.stands (is, tt) x.first_pending;
  second_pending = minded-along n i h s (Tap d ∷ []) x.second (too, tt) x.second_pending;
  usable_in = λ on. (
    subst (λ z. usable m z ≡ true) (sym (same_Some i is.0 is.1)) is.2,
    subst (λ z. usable n z ≡ true) (sym (same_Some i too.0 too.1)) too.2,
  );
}

-- A move that minds the accent, where nothing shows while none is.
placed-moved : (m n : MapValue) (p : Option ℕ) (h : List Event) (s : State) (move : Move) → Placed m n p h s
    → IsMove (alone_minding m p) s move → (presses_of move ≡ 1 → NoneShows m n None s)
    → Placed m n p (events_of_move move ++ h) (moved (alone_minding m p) s move)
placed-moved m n p h s (Hold k i) x is none =
    let ((lt, idle, (seen, may)), free) = is in
    placed-kept m n p h s (Hold k i) x is ((lt, idle, (idle-look m n s k _ idle (none refl k lt) seen, refl)), free) refl
    refl
placed-moved m n p h s (Turn k l) x is none =
    let ((lt, idle, (seen, may)), other) = is in
    placed-kept m n p h s (Turn k l) x is ((lt, idle, (idle-look m n s k _ idle (none refl k lt) seen, refl)), other)
    refl refl
placed-moved m n p h s (LetGo k i) x is none = placed-kept m n p h s (LetGo k i) x is is refl refl
placed-moved m n p h s (Tap k) x (i, minds, can, (lt, idle, (seen, may)), off) none =
    let (seen_too, can_too) = dead-too m n s k i (none refl k lt) idle seen can in
    subst (λ o. Placed m n o (Release k ∷ Press k ∷ h) (with_accent s)) (sym minds)
    (placed-tapped m n h s k i (subst (λ o. Placed m n o h s) minds x)
    (i, refl, can, (lt, idle, (seen, may)), off) (i, refl, can_too, (lt, idle, (seen_too, refl)), off))
placed-moved m n p h s Exchange x is none = absurd (false≢true is.1)

-- So do the consoles along a path.
pub placed-path : (m n : MapValue) (p : Option ℕ) (b : ℕ)
    → HoldsNearer (alone_minding m p) start (NoneShows m n None) b → (path : List Move)
    → IsPath (alone_minding m p) path → presses_along path ≤ b
    → Placed m n p (events_along path ++ []) (state_after (alone_minding m p) path)
placed-path m n p b clear [] is le = placed-start m n p
placed-path m n p b clear (move ∷ path) is le =
    subst (λ h. Placed m n p h (state_after (alone_minding m p) (move ∷ path)))
    (sym (append_assoc (events_of_move move) (events_along path) []))
    (placed-moved m n p (events_along path ++ []) (state_after (alone_minding m p) path) move
    (placed-path m n p b clear path is.1 (omega (arith, le))) is.0 (λ one. clear path is.1 (omega (arith, le, one))))

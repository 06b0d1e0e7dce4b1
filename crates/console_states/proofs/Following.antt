-- A console stands in the states that its presses, releases, resets and loads lead to.
use Rattle.std.proofs.Common.{rules}
use Rattle.console_states.proofs.Common.{◌≡◌, ℕ, ◌⊎◌, Bool, true, false, ◌&&◌, ◌||◌, not, List, none-some, ◌∷◌, Option}
use Rattle.console_states.proofs.Common.{Some, None, refl, ap, subst, sym, ◌∙◌, inl, inr, if◌then◌else◌, ◌==◌, eqb-true}
use Rattle.console_states.proofs.Common.{eq-eqb, cases_Bool, true≢false, same_action, same_modifier, same_lock}
use Rattle.console_states.proofs.Common.{holding_action, same_action-true, same_action-refl, ResolvedEvent}
use Rattle.console_states.proofs.Common.{held, locked, on, remembered, taken_over, is_this_action, look}
use Rattle.console_states.proofs.Common.{PressedCharacter, PressedAction, ReleasedKey, Under, State, is_held, map_in}
use Rattle.console_states.proofs.Common.{look_in, Holds, IsIdle, with_holder, with_lock_turned, Follows, fun_ext}
use Rattle.console_states.proofs.Common.{is_some, same_Some, Action, Lock, Modifier, Holding, unless_nop, held-action}
use Rattle.console_states.proofs.Common.{◌≢◌, Caps, Num, Alt, Scroll, look_selected, selection_of}
use Rattle.console_states.specs.Sights.{selection_with}
use Rattle.console_states.proofs.Common.{held-character, held-release, locked-action, locked-character}
use Rattle.console_states.proofs.Common.{remembered-action, remembered-character}
use Rattle.std.proofs.Math.Bool.{and-true, and-false}
use Rattle.keymap_core.specs.Actions.{holding_of}
use Rattle.std.specs.Option.{option_or}
use Rattle.console_core.proofs.Shared.{first_kept, locked-release, remembered-release, taken-holding}
use Rattle.keymap_core.specs.declared.action.Action.TheVariants as act
use Rattle.keymap_core.specs.declared.action.Holding.TheVariants as holding

-- no selection depends on the scroll lock
selected-alike : (is_on : Modifier → Bool) (a b : Lock → Bool) → ((l : Lock) → l ≢ Scroll → a l ≡ b l)
    → selection_with is_on a ≡ selection_with is_on b
selected-alike is_on a b same = cc (same Caps (λ e. cc), same Num (λ e. cc), same Alt (λ e. cc))

-- the selection after events is that of the state that they follow
pub follows-selection : (r : List ResolvedEvent) (s : State) → Follows r s
    → selection_with (λ i. on i r) (λ l. locked l r) ≡ selection_of s
follows-selection r s f = search (rules, fun_ext, selected-alike)

-- a look of the events is one in the state that they follow
pub follows-look : (u : Under) (r : List ResolvedEvent) (s : State) (k : ℕ) → Follows r s
    → look (map_in u s) r k ≡ look_in u s k
unfolding look
follows-look u r s k f =
    ap (λ y. look_selected (map_in u s) y k) (follows-selection r s f)

-- equal actions
pub same_mods : (i j : Modifier) → same_modifier i j ≡ true → i ≡ j
same_mods i j e = let p : act.Mod i ≡ act.Mod j = same_action-true (act.Mod i) (act.Mod j) e in cc

pub same_locks : (l j : Lock) → same_lock l j ≡ true → l ≡ j
same_locks l j e = let p : act.Lock l ≡ act.Lock j = same_action-true (act.Lock l) (act.Lock j) e in cc

pub some_mods : (i j : Modifier) → Some (act.Mod i) ≡ Some (act.Mod j) → i ≡ j
some_mods i j e = cc

pub some_mod_lock : (i : Modifier) (l : Lock) → Some (act.Mod i) ≡ Some (act.Lock l) → ⊥
some_mod_lock i l e = cc

-- an action that is no holding one is none of them
pub not_holding : (a : Action) (h : Holding) → holding_of a ≡ None → same_action a (holding_action h) ≡ false
not_holding (act.Mod i) h e = absurd (none-some (holding.Mod i) (sym e))
not_holding (act.Lock l) h e = absurd (none-some (holding.Lock l) (sym e))
not_holding a (holding.Mod i) e = refl
not_holding a (holding.Lock l) e = refl

-- whether an action is a modifier, a lock or neither
abbrev pub Kind : Action → Type 0
Kind a =
    ((i : Modifier) × (a ≡ act.Mod i))
    ⊎ (((l : Lock) × (a ≡ act.Lock l)) ⊎ ((h : Holding) → same_action a (holding_action h) ≡ false))

-- each action is a modifier, a lock or neither
pub kind_of : (a : Action) → Kind a
kind_of (act.Mod i) = inl (i, refl)
kind_of (act.Lock l) = inr (inl (l, refl))
kind_of a = inr (inr (λ h. not_holding a h refl))

-- a press that looks up a character, of a key that holds nothing
pub follows-character : (r : List ResolvedEvent) (s : State) (k c : ℕ) → Follows r s → IsIdle s k
    → Follows (PressedCharacter k c ∷ r) s
follows-character r s k c f idle = record {
  on = λ i. held-character (holding.Mod i) k c r ∙ f.on i;
  locked = λ l other. locked-character l k c r ∙ f.locked l other;
  holds = λ i j h. elim (cases_Bool (k == j)) [
    | inl e ↦ absurd (idle i (subst (λ x. Holds s x i) (sym (eqb-true k j e)) h))
    | inr e ↦ rw (remembered-character j k c r, e) (f.holds i j h)
  ];
}

-- a press that takes no holding action
pub follows-nothing : (r : List ResolvedEvent) (s : State) (k : ℕ) (b : Action) → Follows r s
    → ((h : Holding) → same_action (taken_over (remembered k r) b) (holding_action h) ≡ false)
    → Follows (PressedAction k b ∷ r) s
follows-nothing r s k b f none = record {
  on = λ i. rw (held-action (holding.Mod i) k b r, none (holding.Mod i)) (f.on i);
  locked = λ l other. cc (locked-action l k b r, none (holding.Lock l), f.locked l other);
  holds = λ i j h. remembered-action j k b r ∙ first_kept (remembered j r) _ (act.Mod i) (f.holds i j h);
}

-- a holding action that is taken was looked up, and is then remembered
pub taken-over : (o : Option Action) (b : Action) (a : Holding) → taken_over o b ≡ holding_action a
    → (b ≡ holding_action a) × (option_or o (unless_nop b) ≡ Some (holding_action a))
taken-over o b a e =
    taken-holding o b a (ap (λ x. same_action x (holding_action a)) e ∙ same_action-refl (holding_action a))

-- a press that takes a holding action remembers it
pub takes : (r : List ResolvedEvent) (k : ℕ) (b : Action) (a : Holding)
    → taken_over (remembered k r) b ≡ holding_action a → remembered k (PressedAction k b ∷ r) ≡ Some (holding_action a)
takes r k b a e =
    remembered-action k k b r
    ∙ ap (λ t. option_or (remembered k r) (if t then unless_nop b else None)) (eq-eqb k k refl)
    ∙ (taken-over (remembered k r) b a e).1

-- a holder that takes a holding action takes its own modifier
pub holder-takes : (r : List ResolvedEvent) (s : State) (k : ℕ) (b : Action) (a : Holding) (i : Modifier) → Follows r s
    → Holds s k i → taken_over (remembered k r) b ≡ holding_action a → Some (act.Mod i) ≡ Some (holding_action a)
holder-takes r s k b a i f h e =
    sym (remembered-action k k b r ∙ first_kept (remembered k r) _ (act.Mod i) (f.holds i k h)) ∙ takes r k b a e

-- a modifier is on exactly if it has a holder, after one more hold
on_held : (t x : Bool) (k : ℕ) (o : Option ℕ) → x ≡ is_some o → (t || x) ≡ is_some (if t then Some k else o)
on_held true x k o e = refl
on_held false x k o e = e

-- a press that takes a modifier, which is off
pub follows-hold : (r : List ResolvedEvent) (s : State) (k : ℕ) (b : Action) (i : Modifier) → Follows r s
    → taken_over (remembered k r) b ≡ act.Mod i → Follows (PressedAction k b ∷ r) (with_holder s i (Some k))
follows-hold r s k b i f e = record {
  on = λ j. rw (held-action (holding.Mod j) k b r, e) (on_held (same_modifier i j) _ k (s.holder j) (f.on j));
  locked = λ l other. rw (locked-action l k b r, e) (f.locked l other);
  holds = λ j n h. elim (cases_Bool (same_modifier i j)) [
    | inl t ↦
        let p : k ≡ n = same_Some k n (rw t at h) in
        rw (← p) (takes r k b (holding.Mod i) e ∙ ap (λ x. Some (act.Mod x)) (same_mods i j t))
    | inr t ↦
        remembered-action n k b r ∙ first_kept (remembered n r) _ (act.Mod j) (f.holds j n (rw t at h))
  ];
}

-- a modifier that has a holder already stays on
still_on : (i j : Modifier) (t : Bool) (x : Bool) (s : State) (n : ℕ) → same_modifier i j ≡ t → Holds s n i
    → x ≡ is_held s j → (t || x) ≡ is_held s j
still_on i j true x s n t h e = sym (ap (λ y. is_held s y) (sym (same_mods i j t)) ∙ ap (λ o. is_some o) h)
still_on i j false x s n t h e = e

-- a press that takes a modifier, which is on
pub follows-again : (r : List ResolvedEvent) (s : State) (k : ℕ) (b : Action) (i : Modifier) (n : ℕ) → Follows r s
    → taken_over (remembered k r) b ≡ act.Mod i → Holds s n i → Follows (PressedAction k b ∷ r) s
follows-again r s k b i n f e h = record {
  on = λ j. rw (held-action (holding.Mod j) k b r, e) (still_on i j (same_modifier i j) _ s n refl h (f.on j));
  locked = λ l other. rw (locked-action l k b r, e) (f.locked l other);
  holds = λ j p q. remembered-action p k b r ∙ first_kept (remembered p r) _ (act.Mod j) (f.holds j p q);
}

-- a lock doesn't turn where it is down
turned_never : (t d x y : Bool) → (t ≡ true → d ≡ true) → x ≡ y → (if t && not d then not x else x) ≡ y
turned_never true true x y f e = e
turned_never true false x y f e = absurd (true≢false (sym (f refl)))
turned_never false d x y f e = e

-- whether a lock is down is so of the same one
pub is_down : (l j : Lock) (r : List ResolvedEvent) (d : Bool) → held (holding.Lock l) r ≡ d → same_lock l j ≡ true
    → held (holding.Lock j) r ≡ d
is_down l j r d e t = rw (← same_locks l j t) e

-- the step of the next lemma, by whether the locks are the same
turned_by : (l j : Lock) (r : List ResolvedEvent) (y : Bool) (t : Bool) → same_lock l j ≡ t
    → held (holding.Lock l) r ≡ false → locked j r ≡ y
    → (if t && not (held (holding.Lock j) r) then not (locked j r) else locked j r) ≡ (if t then not y else y)
turned_by l j r y true t d e = rw (is_down l j r false d t) (ap not e)
turned_by l j r y false t d e = e

-- a press that turns a lock leads to the state with the lock turned
pub follows-turn : (r : List ResolvedEvent) (s : State) (k : ℕ) (b : Action) (l : Lock) → Follows r s
    → taken_over (remembered k r) b ≡ act.Lock l → held (holding.Lock l) r ≡ false
    → Follows (PressedAction k b ∷ r) (with_lock_turned s l)
follows-turn r s k b l f e d = record {
  on = λ i. rw (held-action (holding.Mod i) k b r, e) (f.on i);
  locked = λ j other. rw (locked-action j k b r, e)
      (turned_by l j r (s.is_locked j) (same_lock l j) refl d (f.locked j other));
  holds = λ i j h. remembered-action j k b r ∙ first_kept (remembered j r) _ (act.Mod i) (f.holds i j h);
}

-- a press that takes a lock, which is down, or the scroll lock
pub follows-down : (r : List ResolvedEvent) (s : State) (k : ℕ) (b : Action) (l : Lock) → Follows r s
    → taken_over (remembered k r) b ≡ act.Lock l
    → ((j : Lock) → j ≢ Scroll → same_lock l j ≡ true → held (holding.Lock j) r ≡ true)
    → Follows (PressedAction k b ∷ r) s
follows-down r s k b l f e down = record {
  on = λ i. rw (held-action (holding.Mod i) k b r, e) (f.on i);
  locked = λ j other. rw (locked-action j k b r, e)
      (turned_never (same_lock l j) _ (locked j r) _ (down j other) (f.locked j other));
  holds = λ i j h. remembered-action j k b r ∙ first_kept (remembered j r) _ (act.Mod i) (f.holds i j h);
}

-- releases
off_held : (t x : Bool) (o : Option ℕ) → x ≡ is_some o → (x && not t) ≡ is_some (if t then None else o)
off_held true x o e = and-false x
off_held false x o e = and-true x ∙ e

-- a release of a key that remembers a modifier
pub follows-let_go : (r : List ResolvedEvent) (s : State) (k : ℕ) (i : Modifier) → Follows r s
    → remembered k r ≡ Some (act.Mod i) → Follows (ReleasedKey k ∷ r) (with_holder s i None)
follows-let_go r s k i f e = record {
  on = λ j. rw (held-release (holding.Mod j) k r, e) (off_held (same_modifier i j) _ (s.holder j) (f.on j));
  locked = λ l other. locked-release l k r ∙ f.locked l other;
  holds = λ j n h. elim (cases_Bool (same_modifier i j)) [
    | inl t ↦ absurd (none-some n (rw t at h))
    | inr t ↦
        let q : remembered n r ≡ Some (act.Mod j) = f.holds j n (rw t at h) in
        elim (cases_Bool (k == n)) [
          | inl u ↦
              let p : i ≡ j = some_mods i j (sym e ∙ ap (λ x. remembered x r) (eqb-true k n u) ∙ q) in
              absurd (true≢false (sym (same_action-refl (act.Mod i)) ∙ ap (λ x. same_modifier i x) p ∙ t))
          | inr u ↦ rw (remembered-release n k r, u) q
        ]
  ];
}

-- a release of a key that remembers no modifier
pub follows-release : (r : List ResolvedEvent) (s : State) (k : ℕ) → Follows r s
    → ((i : Modifier) → is_this_action (remembered k r) (act.Mod i) ≡ false) → Follows (ReleasedKey k ∷ r) s
follows-release r s k f none = record {
  on = λ j. cc (held-release (holding.Mod j) k r, none j, and-true (held (holding.Mod j) r), f.on j);
  locked = λ l other. locked-release l k r ∙ f.locked l other;
  holds = λ j n h. elim (cases_Bool (k == n)) [
    | inl u ↦
        let q : remembered k r ≡ Some (act.Mod j) = ap (λ x. remembered x r) (eqb-true k n u) ∙ f.holds j n h in
        absurd (true≢false (sym (ap (λ o. is_this_action o (act.Mod j)) q ∙ same_action-refl (act.Mod j)) ∙ none j))
    | inr u ↦ rw (remembered-release n k r, u) (f.holds j n h)
  ];
}

pub some_of : (o : Option ℕ) → is_some o ≡ true → (k : ℕ) × (o ≡ Some k)
some_of None e = absurd (true≢false (sym e))
some_of (Some k) e = (k, refl)

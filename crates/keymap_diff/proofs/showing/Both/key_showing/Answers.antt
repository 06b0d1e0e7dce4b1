use Rattle.std.proofs.Common.{below_more, subst, sym, refl, arith, length, ◌<◌}
use Rattle.std.proofs.lemmas.List.{get_or_read_under}
use Rattle.console_states.specs.Searching.{state_of}
use Rattle.keymap_diff.specs.Inner.Showing.{ShowsNothing}
use Rattle.console_states.proofs.Shared.{read-below}
use Rattle.console_states.specs.Moves.{State}
use Rattle.std.proofs.Common.{ℕ, get_or, ◌+◌, ◌∙◌, ◌≡◌, List, Option}
use Rattle.keymap_diff.proofs.Common.{MapValue}
use Rattle.keymap_diff.proofs.showing.Both.key_showing.Goals.{then-shows+else-looks_plain, else-shows}
use Rattle.keymap_diff.specs.Inner.Showing.{AreShowing, NoneShows, Shows}
use Rattle.keymap_diff.proofs.CanShow.{found-or, more-none, none-of}
use Rattle.keymap_diff.proofs.showing.Both.key_showing.Goals as goal

-- one of the keys
key-within : (m n : MapValue) (p : Option ℕ) (keys : List ℕ) (j k : ℕ) → AreShowing m n p keys 128 → j < length keys
    → k ≡ get_or keys j k → k < 128
key-within m n p keys j k has lt is =
    subst (λ k. k < 128) (sym (get_or_read_under keys j (length keys) k 0 is lt refl))
    (read-below (λ k. (s : State) → ShowsNothing m n p s k) keys 128 j has lt)

pub loop-key-preserved : goal.loop-key-preserved
loop-key-preserved c =
    let m = c.args.self.now.old.now in
    let n = c.args.self.now.new.now in
    let p = c.args.minded in
    let keys = c.args.keys.now in
    let s = state_of c.args.held.now in
    let i = c.loop-key.key-index in
    let k = c.key-item.result in
    let P = λ (k : ℕ). (k < 128) × Shows m n p s k in
    let Q = (j : ℕ) → j < i → ShowsNothing m n p s (get_or keys j 0) in
    let R = (j : ℕ) → j < i + 1 → ShowsNothing m n p s (get_or keys j 0) in
    elim c.if-shows.branch [
      | then-shows+else-looks_plain w ↦
          found-or P Q R c.loop-key.found c.if-shows.found k (w.found-is ∙ w.or-found.ensures)
          (key-within m n p keys i k c.requires c.loop-key-test.true c.key-item.is, w.if-shows.ensures.shown refl)
          c.loop-key.invariant
      | else-shows w ↦
          rw w.found-is
          (more-none P Q R c.loop-key.found
          (λ none. below_more _ _ none
          (subst (λ k. ShowsNothing m n p s k)
          (get_or_read_under keys i (length keys) k 0 c.key-item.is c.loop-key-test.true refl)
          (w.if-shows.ensures.nothing refl)))
          c.loop-key.invariant)
    ]

pub returns : goal.returns
returns c =
    let m = c.args.self.now.old.now in
    let n = c.args.self.now.new.now in
    let keys = c.args.keys.now in
    let s = state_of c.args.held.now in
    more-none (λ (k : ℕ). (k < 128) × Shows m n c.args.minded s k)
    ((j : ℕ) → j < c.loop-key.key-index → ShowsNothing m n c.args.minded s (get_or keys j 0))
    (NoneShows m n c.args.minded s) c.loop-key.found
    (λ none. none-of m n c.args.minded keys s c.requires (λ j lt. none j (omega (arith, lt, c.loop-key-test.false))))
    c.loop-key.invariant

pub returns-then-looks_plain : goal.returns-then-looks_plain
returns-then-looks_plain c = (
  key-within c.args.self.now.old.now c.args.self.now.new.now c.args.minded c.args.keys.now c.loop-key.key-index
      c.key-item.result c.requires c.loop-key-test.true c.key-item.is,
  c.if-shows.ensures.shown refl,
)

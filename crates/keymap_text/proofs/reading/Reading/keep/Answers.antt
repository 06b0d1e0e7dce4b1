use Rattle.keymap_text.proofs.Common.{◌≡◌, ◌++◌, ◌+◌, ◌-◌, ℕ, List, [], ◌∷◌, length, refl, sym, ◌∙◌, ap, arith, inl}
use Rattle.keymap_text.proofs.Common.{eqb-true, judge}
use Rattle.keymap_text.proofs.Common.{tokens_after}
use Rattle.keymap_text.proofs.Scanning.{not_none}
use Rattle.keymap_text.proofs.Standing.{comment_kept, keeps, kept, is_nil}
use Rattle.keymap_text.proofs.Tails.{open_few}
use Rattle.keymap_text.proofs.reading.Reading.keep.Goals as goal

pub extend-requires : goal.extend-requires
extend-requires c =
    omega (arith, open_few c.args.tail.now c.requires.tail c.if-tail-eq35.false, ap length c.clear.ensures)

pub returns-then-tail-eq35 : goal.returns-then-tail-eq35
returns-then-tail-eq35 c =
    let tail = c.args.tail.now in
    let some = not_none _ (sym c.is_empty.ensures ∙ c.if-is_empty.false) in
    let is : c.push.new.self.items ≡ 35 ∷ [] =
    c.push.ensures.items ∙ ap (λ (p : List ℕ). p ++ 35 ∷ []) c.clear.ensures in
    keeps refl refl refl (omega (arith, some)) (rw is (inl (refl, refl))) (omega (arith, some, ap length is)) (λ s x.
    comment_kept s _ _ tail x some c.if-tail-eq35.true c.requires.tail refl
    ∙ ap (λ (t : List ℕ). judge s (tokens_after 0 (c.args.self.now.offset + (length tail - 1)) (t ++ x))) (sym is))

pub returns-then-is_empty : goal.returns-then-is_empty
returns-then-is_empty c =
    kept refl refl refl refl c.requires.tail
    (c.clear.ensures ∙ sym (is_nil c.args.tail.now (eqb-true _ _ (sym c.is_empty.ensures ∙ c.if-is_empty.true))))

pub returns : goal.returns
returns c = kept refl refl refl refl c.requires.tail
    (c.extend.ensures ∙ ap (λ (p : List ℕ). p ++ c.args.tail.now) c.clear.ensures)

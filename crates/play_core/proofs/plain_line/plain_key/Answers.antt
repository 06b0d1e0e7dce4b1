use Rattle.play_core.proofs.Common.{◌∷◌, [], get_or, refl, arith}
use Rattle.play_core.proofs.PlainLines.{bytes, key_at}
use Rattle.play_core.proofs.plain_line.plain_key.Goals as goal

pub returns-in_ok-key : goal.returns-in_ok-key
returns-in_ok-key c =
    let text = c.args.text.now in
    let b = bytes text c.requires in
    let x = c.in_ok-digit.ensures in
    let y = c.in_ok-digit-2.ensures in
    let key = c.in_ok-key.ensures in
    key_at text (get_or text 0 0 ∷ get_or text 1 0 ∷ []) 3 _ (cc) refl (
      (omega (arith, x.value, x.small), (omega (arith, y.value, y.small), tt)),
      omega (arith, x.value, y.value, key.same),
    ) (rw key.same (key.some.0 refl))

pub returns-in_ok-key-2 : goal.returns-in_ok-key-2
returns-in_ok-key-2 c =
    let text = c.args.text.now in
    let b = bytes text c.requires in
    let x = c.in_ok-digit-3.ensures in
    let key = c.in_ok-key-2.ensures in
    key_at text (get_or text 0 0 ∷ []) 2 _ (cc) refl
    ((omega (arith, x.value, x.small), tt), omega (arith, x.value, key.same)) (rw key.same (key.some.0 refl))

pub returns-in_ok-key-3 : goal.returns-in_ok-key-3
returns-in_ok-key-3 c =
    let text = c.args.text.now in
    let b = bytes text c.requires in
    let x = c.in_ok-digit-4.ensures in
    let y = c.in_ok-digit-5.ensures in
    let key = c.in_ok-key-3.ensures in
    key_at text (49 ∷ get_or text 1 0 ∷ get_or text 2 0 ∷ []) 4 _ (cc) refl (
      (omega arith, (omega (arith, x.value, x.small), (omega (arith, y.value, y.small), tt))),
      omega (arith, x.value, y.value, key.same),
    ) (rw key.same (key.some.0 refl))

use Rattle.keymap_text.proofs.Common.{ℕ, leb, cond, bit_and, refl, sym, zip2_splat, length-chunk, is_word}
use lib.Lanes.{chunk}
use Rattle.keymap_text.proofs.Vectors.{joined, splat_is, run_in}
use Rattle.keymap_text.proofs.token.word_run.Goals as goal

pub returns : goal.returns
returns c = λ short.
    let v = chunk 0 16 c.args.bytes.now in
    let long = length-chunk 0 16 c.args.bytes.now c.requires in
    sym (run_in is_word c.args.bytes.now _ _ c.requires c.type_inv.bytes c.first_set.ensures _
    (joined bit_and _ _ v
    (joined (λ a b. cond (leb a b) 255 0) _ _ v (splat_is v 16 26 long)
    (joined _ _ _ v (zip2_splat {Y = ℕ} _ v 16 32 long) (splat_is v 16 97 long)))
    (joined (λ a b. cond (leb a b) 255 0) _ _ v (splat_is v 16 10 long) (zip2_splat {Y = ℕ} _ v 16 48 long)))
    refl short)

use Rattle.kmap_c.proofs.Common.{arith, refl, []}
use Rattle.kmap_c.proofs.Said.{set-behind}
use Rattle.kmap_c.proofs.sentences.say.Goals as goal

pub returns-clause-said : goal.returns-clause-said
returns-clause-said c =
    let put = c.put-end.ensures.text [] c.args.words.now
    (record { count = refl; size = refl; text = λ room. refl }) in
    record {
      said = λ room. (refl, set-behind c.args.sentence.now c.args.words.now _ _ put room);
      no_room = λ few. absurd (omega (arith, few, c.if-words-sentence.false));
    }

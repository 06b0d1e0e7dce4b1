use Rattle.kmap_c.proofs.Common.{◌≡◌, ◌∙◌, ◌++◌, ap, sym, subst, refl, List, ℕ, Holding, IsSaid}
use Rattle.kmap_c.specs.Sentences.{finding_sentence}
use Rattle.kmap_c.specs.Statuses as status
use Rattle.kmap_c.proofs.Numbers.{one_holding}
use Rattle.kmap_c.proofs.sentences.kmap_finding_words.Goals as goal

pub returns-clause-said : goal.returns-clause-said
returns-clause-said c =
    λ a is.
    let sentence : c.as_slice.result.now ≡ finding_sentence a c.args.finding.now =
    c.as_slice.ensures.value ∙ c.push_finding_sentence.ensures
    ∙ ap (λ l. l ++ finding_sentence c.holding_of.result c.args.finding.now) c.new-line.ensures
    ∙ ap (λ (h : Holding). finding_sentence h c.args.finding.now)
    (one_holding c.holding_of.result a (c.holding_of.ensures ∙ sym is)) in
    let s : IsSaid (finding_sentence a c.args.finding.now) c.args.words.now c.say.result c.say.new.words =
    subst (λ (s : List ℕ). IsSaid s c.args.words.now c.say.result c.say.new.words) sentence c.say.ensures.said in
    record {
      said = λ room. let e : c.say.result ≡ status.done = (s.said room).0 in (rw e refl, (s.said room).1);
      no_room = λ few. let e : c.say.result ≡ status.no_room = (s.no_room few).0 in (rw e refl, (s.no_room few).1);
    }

use Rattle.keymap_places.proofs.Common.{sym, ◌∙◌, token_view, tokens_from, rules}
use Rattle.keymap_places.specs.Wanted.{row_place}
use Rattle.keymap_places.proofs.WantedPlace.{reached_end, reached_on, reached_fault}
use Rattle.keymap_places.proofs.wanted.wanted_at_fault.Goals as goal

pub loop-token-preserved : goal.loop-token-preserved
loop-token-preserved c =
    let text = c.args.text.now in
    let l = c.loop-token in
    let t = c.in-Some.token in
    let f = c.in-Some.ensures in
    record {
      within = f.within;
      place = c.in-Some-wanted_behind.ensures.place;
      reached =
          sym (reached_on (row_place l.wanted) (row_place c.in-Some-wanted_behind.next) l.definition
          c.definition_after-definition.result l.behind c.item_of-item.result (token_view text t) t.span
          (tokens_from text t.span.end) (tokens_from text l.behind) f.others c.item_of-item.ensures
          c.in-Some-wanted_behind.ensures.leads c.definition_after-definition.ensures f.span)
          ∙ l.invariant.reached;
    }

pub returns-in_default-wanted_behind : goal.returns-in_default-wanted_behind
returns-in_default-wanted_behind c =
    let text = c.args.text.now in
    let l = c.loop-token in
    let t = c.in-Some.token in
    let f = c.in-Some.ensures in
    sym (reached_fault (row_place l.wanted) l.definition l.behind c.item_of-item.result (token_view text t)
    (tokens_from text t.span.end) (tokens_from text l.behind) f.others c.item_of-item.ensures
    c.in_default-wanted_behind.ensures.leads)
    ∙ l.invariant.reached

pub returns-in_default : goal.returns-in_default
returns-in_default c = search (rules, reached_end)

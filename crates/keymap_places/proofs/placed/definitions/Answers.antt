use Rattle.keymap_places.proofs.Common.{◌≡◌, ℕ, ◌+◌, ◌++◌, All, subst, map, vec_len, refl, sym, ◌∙◌, ap, append-nil}
use Rattle.keymap_places.proofs.Common.{token_view, tokens, span_of, StandsAmong, begun, tokens_from, rules}
use Rattle.keymap_places.proofs.Placing.{spans_on, begun_on, begun_none}
use Rattle.keymap_places.proofs.RowPlaces.{spelled_by}
use Rattle.keymap_places.proofs.placed.definitions.Goals as goal

pub loop-token-preserved : goal.loop-token-preserved
loop-token-preserved c =
    let text = c.args.text.now in
    let at = c.loop-token.at in
    let t = c.in-Some.token in
    let f = c.in-Some.ensures in
    let grown : vec_len c.push.new.self ≡ c.len.result + 1 =
    c.in_ok-push.ensures.len ∙ ap (λ n. n + 1) (sym c.len.ensures) in
    record {
      within = f.within;
      spans =
          spans_on c.loop-token.spans.items c.push.new.self.items (map span_of (tokens text)) t.span text at t.span.end
          (token_view text t) c.in_ok-push.ensures.items f.span f.others c.loop-token.invariant.spans;
      begun =
          begun_on c.loop-token.definitions.items c.take.new.definitions.items (begun 0 0 (tokens text))
          c.loop-token.left c.in_ok-left.left (vec_len c.loop-token.spans) (vec_len c.push.new.self) c.len.result
          text at t.span.end (token_view text t) c.len.ensures c.in_ok-push.ensures.len f.others
          c.loop-token.invariant.begun
          (c.in_ok-left.ensures.begun (token_view text t) (tokens_from text t.span.end) refl refl);
      among =
          subst (λ (n : ℕ). All (StandsAmong n) c.take.new.definitions.items) (sym grown)
          (c.in_ok-left.ensures.among (subst (λ (n : ℕ). All (StandsAmong n) c.loop-token.definitions.items)
          (sym c.len.ensures) c.loop-token.invariant.among));
    }

pub returns-clause-spans : goal.returns-clause-spans
returns-clause-spans c = search (rules, append-nil)

pub returns-clause-definitions : goal.returns-clause-definitions
returns-clause-definitions c = λ m s.
    let xs = c.loop-token.definitions.items in
    let n = vec_len c.loop-token.spans in
    let r = spelled_by c.args.text.now m s in (
      r.0,
      r.1,
      sym (append-nil xs) ∙ ap (λ ys. xs ++ ys) (sym (begun_none c.loop-token.left n))
          ∙ ap (λ ts. xs ++ begun c.loop-token.left n ts) (sym c.in_default.ensures) ∙ c.loop-token.invariant.begun
          ∙ r.2,
    )

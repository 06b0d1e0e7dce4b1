-- A whole text, read into what takes its definitions.
use Rattle.keymap_text.proofs.Common.{◌≡◌, ℕ, ◌-◌, Bool, true, List, [], length, take, drop, sym, ◌∙◌, ap, ap₂, subst}
use Rattle.keymap_text.proofs.Common.{arith, append-nil, Ok, Err, MapValue, TextFaultKind, TextFault, Grammar, Stop}
use Rattle.keymap_text.proofs.Common.{tokens_after, line, Fault, start, at, judge, verdict, Faulty, Advances, Refuses}
use Rattle.keymap_text.proofs.Common.{Takes, grammar_view, place_view}
use Rattle.keymap_text.specs.ReadInto.{no_keys}
use Rattle.keymap_text.proofs.Splitting.{to_end}
use Rattle.keymap_text.proofs.Verdicts.{fault_from}
use Rattle.keymap_text.specs.declared.grammar.Place.TheVariants as places

-- the grammar begins where a definition is wanted
begun : (g : Grammar) → g.place ≡ places.Definition → at no_keys (grammar_view g) ≡ start
begun g h = ap (λ p. at no_keys (place_view p g.entry g.accent)) h

-- what was taken of a text leaves the verdict to the rest
pub taken_whole : {D : Type 0} {shows : D → MapValue → Type 0} {d d' : D} {g g' : Grammar} {text rest : List ℕ} {n : ℕ}
    → Takes shows d d' (Ok n) g g' text → rest ≡ take (length text - n) (drop n text) → g.place ≡ places.Definition
    → shows d no_keys
    → (m : MapValue) × shows d' m × (verdict text ≡ judge (at m (grammar_view g')) (tokens_after 0 n rest))
taken_whole {g = g} {g' = g'} {text = text} {n = n} t e place h =
    let s = t.took no_keys h in
    let a = subst (λ old. Advances old (at s.0 (grammar_view g')) text n) (begun g place) s.2 in (
      s.0,
      s.1,
      ap (λ t. judge start (tokens_after 0 0 t)) (sym (append-nil text)) ∙ a.takes 0 []
          ∙ ap₂ (λ q t. judge (at s.0 (grammar_view g')) (tokens_after 0 q t)) (omega arith)
          (append-nil (drop n text) ∙ sym (e ∙ to_end text n)),
    )

-- a fault in a text is its verdict
pub refused_whole : {D : Type 0} {shows : D → MapValue → Type 0} {d d' : D} {g g' : Grammar} {text : List ℕ} {f : Stop}
    → Takes shows d d' (Err f) g g' text → g.place ≡ places.Definition → shows d no_keys
    → verdict text ≡ Faulty f.kind f.at true
refused_whole {g = g} {text = text} {f = f} t place h =
    let r = subst (λ s. Refuses s text f.kind f.at) (begun g place) (t.took no_keys h) in
    ap (λ t. judge start (tokens_after 0 0 t)) (sym (append-nil text)) ∙ r.takes 0 []
    ∙ ap (λ q. Faulty f.kind q true) (omega arith)

-- the verdict is a fault
pub fault_by : (text : List ℕ) (f : TextFaultKind) (q : ℕ) (early : Bool) (e : TextFault)
    → verdict text ≡ Faulty f q early → e.kind ≡ f → e.offset ≡ q → e.line ≡ line text q → Fault text e
fault_by text f q early e h kind offset on = grind (arith, fault_from)

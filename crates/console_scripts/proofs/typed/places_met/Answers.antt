use Rattle.console_scripts.proofs.Common.{ap, false, start, subst, sym, true, true≢false, IsExploredFrom}
use Rattle.console_scripts.proofs.Choosing.{too-many}
use Rattle.console_scripts.proofs.Exploring.{start-returns}
use Rattle.console_scripts.specs.Inner.Places.{ArePlaces}
use Rattle.console_scripts.proofs.typed.places_met.Goals as goal

pub explore-requires : goal.explore-requires
explore-requires c = (ap (λ s. s.is_second) c.start.ensures, ap (λ s. s.is_pending) c.start.ensures)

pub returns : goal.returns
returns c =
    let m = c.args.map.now in
    let e = c.in_ok-explored.explored in
    let from = subst (λ s. IsExploredFrom m s e) c.start.ensures c.in_ok-explored.ensures in
    record {
      all = subst (λ n. ArePlaces n false e.is_complete c.in_ok-all.all) from.1 c.in_ok-all.ensures;
      plain = subst (λ n. ArePlaces n true e.is_complete c.in_ok-plain.plain) from.1 c.in_ok-plain.ensures;
      alike = λ no. absurd (true≢false (sym no));
      many = λ partial. too-many m start e from (start-returns m) partial;
    }

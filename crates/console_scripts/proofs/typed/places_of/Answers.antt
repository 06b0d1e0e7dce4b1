use Rattle.console_scripts.proofs.Common.{false, true, true≢false}
use Rattle.console_scripts.proofs.FewPlaces.{few-all}
use Rattle.console_scripts.proofs.typed.places_of.Goals as goal

pub returns : goal.returns
returns c =
    let m = c.args.map.now in
    let few = c.in_ok-few.few in
    let all = c.are_all_marked.ensures c.if-not-are_all_marked.false in
    record {
      all = few-all m false few c.in_ok-few.ensures all;
      plain = few-all m true few c.in_ok-few.ensures all;
      alike = λ e. few-all m false few c.in_ok-few.ensures all;
      many = λ no. absurd (true≢false no);
    }

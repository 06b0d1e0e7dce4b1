use Rattle.std.specs.Global.{Vec}
use Rattle.std.specs.Prelude.{ℕ}
use Rattle.kmap_runs.proofs.Compared.{so_if_ok}
use Rattle.kmap_runs.specs.Runs.{TellsDifferences}
use Rattle.script_text.specs.Diff.{IsBriefText, IsDiffText}
use Rattle.kmap_runs.proofs.diff_runs.differing.Goals as goal

pub returns-then-is_brief : goal.returns-then-is_brief
returns-then-is_brief c =
    let found = c.args.found.now in
    let telling = c.in_ok-telling.telling in
    so_if_ok c.brief_text.result (λ (text : Vec ℕ). IsBriefText telling found text.items)
    (λ (text : Vec ℕ). TellsDifferences c.args.is_brief c.args.old.now c.args.new.now text.items)
    (λ text so. (found, telling, so.0, c.requires, c.in_ok-telling.ensures, rw c.if-is_brief.true so.1))
    c.brief_text.ensures

pub returns : goal.returns
returns c =
    let found = c.args.found.now in
    let telling = c.in_ok-telling.telling in
    so_if_ok c.diff_text.result (λ (text : Vec ℕ). IsDiffText telling found text.items)
    (λ (text : Vec ℕ). TellsDifferences c.args.is_brief c.args.old.now c.args.new.now text.items)
    (λ text so. (found, telling, so.0, c.requires, c.in_ok-telling.ensures, rw c.if-is_brief.false so.1))
    c.diff_text.ensures

use Rattle.kmap_runs.proofs.Common.{Err, err_from_is_err_and, inr, Keeps-refl, moves, rules}
use Rattle.std.specs.Io.KnownBytes.{Keeps}
use Rattle.keymap_tables.specs.Fits.{IsFirstWide}
use Rattle.kmap_runs.specs.Runs.{CompilesNarrowly}
use Rattle.kmap_runs.specs.declared.fault_line.RunError.TheVariants.{TooWide}
use Rattle.kmap_runs.proofs.runs.compile_narrow_run.Goals as goal

pub returns-in_err-map-clause-run : goal.returns-in_err-map-clause-run
returns-in_err-map-clause-run g c = search (rules, err_from_is_err_and, Keeps-refl)

pub returns-in-Err-TooWide-clause-run : goal.returns-in-Err-TooWide-clause-run
returns-in-Err-TooWide-clause-run g c =
    let (wide, stays) : IsFirstWide c.in_ok-map.map c.in-Err-TooWide.wide
    × Keeps (g.W.Write.contents c.args.writer.now) (g.W.Write.contents c.write_narrow.new.writer) =
    rw c.in-Err-TooWide.field-0-is at c.in-Err-TooWide.ensures.bytes in
    let told : CompilesNarrowly
    (moves (g.R.Read.remaining c.args.reader.now) (g.R.Read.remaining c.read_text.new.reader))
    (moves (g.W.Write.contents c.args.writer.now) (g.W.Write.contents c.write_narrow.new.writer))
    (Err (TooWide c.in-Err-TooWide.wide)) = inr (inr (c.in_ok-map.map, c.in_ok-map.ensures.reads, wide), stays) in
    told

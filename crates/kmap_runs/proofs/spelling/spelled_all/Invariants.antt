use Rattle.kmap_runs.proofs.Common.{take}
use Rattle.kmap_runs.proofs.Spellings.{IsSheetSo}
use Rattle.kmap_runs.proofs.spelling.spelled_all.Given as goal

-- the characters so far are told
abbrev pub invariant-loop-c : goal.invariant-loop-c
invariant-loop-c l = IsSheetSo l.board l.map (take l.c-index l.c-items) l.each.items

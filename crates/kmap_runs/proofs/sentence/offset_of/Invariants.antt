use Rattle.kmap_runs.proofs.Common.{◌≡◌, length, take}
use Rattle.std.specs.Str.{encode_utf8_all}
use Rattle.kmap_runs.proofs.sentence.offset_of.Given as goal

-- the bytes of the characters so far
abbrev pub invariant-loop-c : goal.invariant-loop-c
invariant-loop-c l = l.offset ≡ length (encode_utf8_all (take l.c-index l.characters))

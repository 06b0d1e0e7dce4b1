-- The names of the kinds of faults.
use Rattle.std.specs.Prelude.{ℕ, List, codes}
use Rattle.keymap_text.specs.Types.{TextFaultKind}
use Rattle.keymap_text.specs.declared.fault.TextFaultKind.TheVariants as kinds

abbrev pub fault_name : TextFaultKind → List ℕ
fault_name kinds.BadByte = codes "BadByte"
fault_name kinds.BadLiteral = codes "BadLiteral"
fault_name kinds.BadWord = codes "BadWord"
fault_name kinds.Unexpected = codes "Unexpected"
fault_name kinds.KeyTooLarge = codes "KeyTooLarge"
fault_name kinds.BadChar = codes "BadChar"
fault_name kinds.BadFunction = codes "BadFunction"
fault_name kinds.TooManyPairs = codes "TooManyPairs"
fault_name kinds.ZeroBase = codes "ZeroBase"
fault_name kinds.Combined = codes "Combined"
fault_name kinds.EndInside = codes "EndInside"

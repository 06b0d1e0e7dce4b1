-- What a caller in C is told of a text that spells no keymap.
use Rattle.std.specs.Prelude.{◌≡◌, ℕ}
use Rattle.keymap_text.specs.declared.fault.TextFaultKind.{TextFaultKind}
use Rattle.keymap_text.specs.declared.fault.TextFaultKind.TheVariants as kind
use Rattle.keymap_text.specs.declared.fault.TextFault.{TextFault}
use Rattle.kmap_c.specs.declared.texts.KmapTextFault.{KmapTextFault}

abbrev pub text_kind_number : TextFaultKind → ℕ
text_kind_number kind.BadByte = 1
text_kind_number kind.BadLiteral = 2
text_kind_number kind.BadWord = 3
text_kind_number kind.Unexpected = 4
text_kind_number kind.KeyTooLarge = 5
text_kind_number kind.BadChar = 6
text_kind_number kind.BadFunction = 7
text_kind_number kind.TooManyPairs = 8
text_kind_number kind.ZeroBase = 9
text_kind_number kind.Combined = 10
text_kind_number kind.EndInside = 11

pub record IsToldFault (f : TextFault) (t : KmapTextFault) : Type 0 where
  pub offset : t.offset ≡ f.offset
  pub line : t.line ≡ f.line
  pub kind : t.kind ≡ text_kind_number f.kind

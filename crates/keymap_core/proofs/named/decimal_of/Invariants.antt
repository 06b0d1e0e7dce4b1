use Rattle.keymap_core.proofs.Common.{◌≡◌, min, take, true, list_all, is_ascii_digit, digits_value}
use Rattle.keymap_core.proofs.named.decimal_of.Given as goal

abbrev pub invariant-loop-digit : goal.invariant-loop-digit
invariant-loop-digit l = record {
  value : l.number ≡ min (digits_value (take l.digit-index l.digits)) 255;
  so_far : list_all is_ascii_digit (take l.digit-index l.digits) ≡ true;
}

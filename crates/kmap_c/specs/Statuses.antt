-- What a call answers, by the names of kmap.h without KMAP_.
use Rattle.std.specs.Prelude.{ℤ, pos, negsuc}

-- KMAP_OK
abbrev pub done : ℤ
done = pos 0

abbrev pub bad_length : ℤ
bad_length = negsuc 0

abbrev pub bad_event : ℤ
bad_event = negsuc 1

abbrev pub no_room : ℤ
no_room = negsuc 2

abbrev pub faulty : ℤ
faulty = negsuc 3

abbrev pub unsafe : ℤ
unsafe = negsuc 4

abbrev pub text_fault : ℤ
text_fault = negsuc 5

abbrev pub bad_holding : ℤ
bad_holding = negsuc 6

abbrev pub bad_kind : ℤ
bad_kind = negsuc 7

abbrev pub bad_code : ℤ
bad_code = negsuc 8

abbrev pub bad_place : ℤ
bad_place = negsuc 9

abbrev pub too_wide : ℤ
too_wide = negsuc 10

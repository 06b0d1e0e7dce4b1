-- Which characters a terminal doesn't show as they are, by Unicode's properties.
use Rattle.std.specs.Prelude.{ℕ, ◌==◌, nat_lt, Bool, ◌||◌, ◌&&◌}
use Rattle.keymap_core.specs.Actions.{within}

-- a control (Cc)
abbrev pub is_control : ℕ → Bool
is_control c = nat_lt c 32 || within 127 159 c

-- a separator of lines or paragraphs (Zl, Zp)
abbrev pub ends_line : ℕ → Bool
ends_line c = within 0x2028 0x2029 c

-- a sign that turns the direction of writing (Bidi_Control)
abbrev pub turns_direction : ℕ → Bool
turns_direction c = c == 0x61c || within 0x200e 0x200f c || within 0x202a 0x202e c || within 0x2066 0x2069 c

-- an ignorable character (Default_Ignorable_Code_Point), by its place: among the letters of scripts, among punctuation
-- and variants, and from the half-width forms on
abbrev pub is_ignorable_letter : ℕ → Bool
is_ignorable_letter c =
    c == 0xad || c == 0x34f || c == 0x61c || within 0x115f 0x1160 c || within 0x17b4 0x17b5 c
    || within 0x180b 0x180f c

abbrev pub is_ignorable_sign : ℕ → Bool
is_ignorable_sign c =
    within 0x200b 0x200f c || within 0x202a 0x202e c || within 0x2060 0x206f c || c == 0x3164
    || within 0xfe00 0xfe0f c || c == 0xfeff

abbrev pub is_ignorable_above : ℕ → Bool
is_ignorable_above c =
    c == 0xffa0 || within 0xfff0 0xfff8 c || within 0x1bca0 0x1bca3 c || within 0x1d173 0x1d17a c
    || within 0xe0000 0xe0fff c

-- a sign that sets a note between lines
abbrev pub annotates : ℕ → Bool
annotates c = within 0xfff9 0xfffb c

-- a character of these kinds above ASCII; those of ASCII are controls
abbrev pub is_unseen_above : ℕ → Bool
is_unseen_above c =
    ends_line c || turns_direction c || is_ignorable_letter c || is_ignorable_sign c || is_ignorable_above c
    || annotates c

abbrev pub is_unseen : ℕ → Bool
is_unseen c = is_control c || (nat_lt 127 c && is_unseen_above c)

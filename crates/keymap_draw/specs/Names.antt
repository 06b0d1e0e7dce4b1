-- The characters that nobody sees, by Unicode's names, and the short names that people know: each is the abbreviation
-- that Unicode gives as an alias of the name.
use Rattle.std.specs.Prelude.{◌≡◌, ℕ, List, [], ◌∷◌, codes, map}
use Rattle.keymap_draw.specs.declared.tables.TheConstants.{UNSEEN_NAMES}
use Rattle.keymap_draw.specs.Legends.{unfilled, character_legend}

-- NO-BREAK SPACE, SOFT HYPHEN, ARABIC LETTER MARK; ZERO WIDTH SPACE, NON-JOINER, JOINER; LEFT-TO-RIGHT and
-- RIGHT-TO-LEFT MARK, EMBEDDING, POP DIRECTIONAL FORMATTING, OVERRIDE; NARROW NO-BREAK SPACE, WORD JOINER;
-- LEFT-TO-RIGHT, RIGHT-TO-LEFT, FIRST STRONG ISOLATE, POP DIRECTIONAL ISOLATE; BYTE ORDER MARK
abbrev pub unseen_names : List (ℕ × List ℕ)
unseen_names =
    (0xa0, codes "nbsp") ∷ (0xad, codes "shy") ∷ (0x61c, codes "alm") ∷ (0x200b, codes "zwsp")
    ∷ (0x200c, codes "zwnj") ∷ (0x200d, codes "zwj") ∷ (0x200e, codes "lrm") ∷ (0x200f, codes "rlm")
    ∷ (0x202a, codes "lre") ∷ (0x202b, codes "rle") ∷ (0x202c, codes "pdf") ∷ (0x202d, codes "lro")
    ∷ (0x202e, codes "rlo") ∷ (0x202f, codes "nnbsp") ∷ (0x2060, codes "wj") ∷ (0x2066, codes "lri")
    ∷ (0x2067, codes "rli") ∷ (0x2068, codes "fsi") ∷ (0x2069, codes "pdi") ∷ (0xfeff, codes "bom") ∷ []

-- The legend of each of these characters is its name.
abbrev pub LegendsAreNames : Type 0
LegendsAreNames =
    map (λ (p : ℕ × List ℕ). character_legend p.0) unseen_names ≡ map (λ (p : ℕ × List ℕ). p.1) unseen_names

-- No other character has a name.
abbrev pub NoOthersAreNamed : Type 0
NoOthersAreNamed = map (λ row. (row.0, unfilled row.1)) UNSEEN_NAMES ≡ unseen_names

use Rattle.keymap_text.proofs.Common.{◌≡◌, ℕ, List, Bool, true, false, cond, sym, ◌∙◌, ap, ap₂, slice_index, decoded}
use Rattle.keymap_text.proofs.Common.{literal, is_lone, quoted, Literal, Found}
use Rattle.keymap_text.proofs.token.literal_front.Goals as goal

-- what is quoted, by whether that is a lone byte
by_lone : (bytes : List ℕ) (lone : Bool) → is_lone bytes ≡ lone
    → cond lone (Found (Literal (slice_index bytes 0)) 2) (quoted (decoded bytes) bytes) ≡ literal bytes
unfolding literal
by_lone bytes lone e =
    ap (λ b. cond b (Found (Literal (slice_index bytes 0)) 2) (quoted (decoded bytes) bytes)) (sym e)

pub returns-then-is_lone_byte-clause-value : goal.returns-then-is_lone_byte-clause-value
returns-then-is_lone_byte-clause-value c =
    by_lone c.args.bytes.now true (sym c.is_lone_byte.ensures ∙ c.if-is_lone_byte.true)

pub returns-clause-value : goal.returns-clause-value
returns-clause-value c =
    c.character_front.ensures.value
    ∙ ap₂ (λ o n. quoted (record { char = o; size = n }) c.args.bytes.now) c.decode-character.ensures.char
    c.decode-character.ensures.size
    ∙ by_lone c.args.bytes.now false (sym c.is_lone_byte.ensures ∙ c.if-is_lone_byte.false)

use Rattle.keymap_tables.proofs.Common.{◌≡◌, List, [], ap, ◌∙◌, MapValue, Entry, rules, made_of}
use Rattle.keymap_tables.proofs.Images.{first-content}
use Rattle.keymap_tables.proofs.read.read_file.Goals as goal

-- a map without entries and accents is the one made of none
none_made : (m : MapValue) → m.entries ≡ [] → m.accents ≡ [] → m ≡ made_of [] []
none_made m entries accents =
    ap (λ (es : List Entry). made_of es m.accents) entries ∙ ap (made_of []) accents

pub returns-in-Ok-read_content : goal.returns-in-Ok-read_content
returns-in-Ok-read_content c = search (rules, none_made)

pub returns-in-Err-read_content : goal.returns-in-Err-read_content
returns-in-Err-read_content c =
    first-content c.args.layout c.args.bytes.now _ c.in-Ok.ensures.whole c.in-Err-read_content.ensures.fault

-- The verdict of the reader's machine is what the definitions say.
use Rattle.keymap_text.proofs.Common.{take-append-le, ◌≡◌, ◌⊎◌, inl, inr, ℕ, Bool, true, zero, suc, ◌+◌, rules}
use Rattle.keymap_text.proofs.Common.{◌≤◌, length, take, drop, arith, count_by, List, [], ◌∷◌, ◌++◌, map, refl, sym}
use Rattle.keymap_text.proofs.Common.{◌∙◌, ap, subst, Result, Ok, Err, Option, Some, None, TextFaultKind, Item}
use Rattle.keymap_text.proofs.Common.{TextFault, TokenValue, Tokens, Ends, Stops, Then, tokens_after, front_of, Front}
use Rattle.keymap_text.proofs.Common.{Skipped, Refused, Unfinished, token_before, MapValue, GrammarState, accept}
use Rattle.keymap_text.proofs.Common.{at_end, start, empty_map, RowPlace, AtDefinition, may_end, Definition, IsRow}
use Rattle.keymap_text.proofs.Common.{line, list_of, ending_of_tokens, item_of, items, FaultInText, fault_of, Spells}
use Rattle.keymap_text.proofs.Common.{Fault, Early, found_in, place_after, judge, verdict, Verdict, Spelled, Faulty}
use Rattle.keymap_text.proofs.Common.{ended, none-some, same_Some}
use Rattle.keymap_text.proofs.Splitting.{split_one, split_skipped, split_found, split_refused, split_unfinished}
use Rattle.keymap_text.proofs.Splitting.{split_nil}
use Rattle.keymap_text.proofs.Prefixes.{early_from}
use Rattle.keymap_text.proofs.Steps.{judge_then, judge_refused, judge_stops, judge_ends}
use Rattle.keymap_text.proofs.Faults.{found_of, fault_is, same_fault}
use Rattle.keymap_text.proofs.Folded.{puts, puts_are}
use Rattle.keymap_text.proofs.Row.{steps, stands_after, stands_first, row_at_end, ok_is, err_ok}
use Rattle.keymap_text.proofs.RowTaken.{row_defined}
use Rattle.keymap_text.specs.Lexical as lexical

abbrev pub items_of : Tokens → List Item
items_of ts = map item_of (list_of ts)

-- a fault is no map
faulty : (f : TextFaultKind) (q : ℕ) (e : Bool) (m : MapValue) → Faulty f q e ≡ Spelled m → ⊥
faulty f q e m h = cc

-- equal maps
spelled_is : (m m' : MapValue) → Spelled m ≡ Spelled m' → m ≡ m'
spelled_is m m' h = cc

-- the text ends with this map
ended_is : (o : Option MapValue) (q : ℕ) (m : MapValue) → ended o q ≡ Spelled m → o ≡ Some m
ended_is o q m h = grind (arith, faulty, spelled_is)

-- what a spelled map says of the machine
record Runs (s : GrammarState) (ts : Tokens) (m : MapValue) : Type 0 where
  last : GrammarState
  end : ℕ
  steps : steps s (items_of ts) ≡ Ok last
  whole : ending_of_tokens ts ≡ Ok end
  map : at_end last ≡ Some m

-- what the machine spells it went through
runs : (s : GrammarState) (ts : Tokens) (m : MapValue) → judge s ts ≡ Spelled m → Runs s ts m
unfolding list_of ending_of_tokens
runs s (Ends q) m h =
    record { last = s; end = q; steps = refl; whole = refl; map = ended_is (at_end s) q m (sym (judge_ends s q) ∙ h) }
runs s (Stops f q) m h = absurd (faulty _ _ _ _ (sym (judge_stops s f q) ∙ h))
runs s (Then t ts) m h = go (accept s (item_of t)) refl (λ s'. runs s' ts m)
  where
    go : (r : Result GrammarState TextFaultKind) → accept s (item_of t) ≡ r
        → ((s' : GrammarState) → judge s' ts ≡ Spelled m → Runs s' ts m) → Runs s (Then t ts) m
    go (Ok s') e ih =
        let r = ih s' (sym (judge_then s s' t ts e) ∙ h) in
        record { last = r.last; end = r.end; steps = rw e r.steps; whole = r.whole; map = r.map }
    go (Err f) e ih = absurd (faulty _ _ _ _ (sym (judge_refused s f t ts e) ∙ h))

-- what the machine goes through it spells
judged : (s : GrammarState) (ts : Tokens) (m : MapValue) → Runs s ts m → judge s ts ≡ Spelled m
unfolding list_of ending_of_tokens
judged s (Ends q) m r = judge_ends s q ∙ ap (λ o. ended o q) (ap at_end (ok_is _ _ r.steps) ∙ r.map)
judged s (Stops f q) m r = absurd (let h = r.whole in cc)
judged s (Then t ts) m r = go (accept s (item_of t)) refl (λ s'. judged s' ts m)
  where
    go : (a : Result GrammarState TextFaultKind) → accept s (item_of t) ≡ a
        → ((s' : GrammarState) → Runs s' ts m → judge s' ts ≡ Spelled m) → judge s (Then t ts) ≡ Spelled m
    go (Ok s') e ih =
        let on : Runs s' ts m =
        record { last = r.last; end = r.end; steps = rw e at r.steps; whole = r.whole; map = r.map } in
        judge_then s s' t ts e ∙ ih s' on
    go (Err f) e ih = absurd (err_ok f r.last (rw e at r.steps))

-- a text begins with the empty map
starts : at_end start ≡ Some empty_map
unfolding at_end
starts = refl

-- what the machine spells is what the definitions spell
pub spells_from : (text : List ℕ) (m : MapValue) → verdict text ≡ Spelled m → Spells text m
spells_from text m h =
    let r = runs start (tokens_after 0 0 text) m h in
    let row = row_at_end (items text) r.last.map r.last.place m
    (stands_after [] (items text) start r.last stands_first r.steps) r.map in
    record { definitions = row.0; row = row.1; end = r.end; whole = r.whole; map = row.2 ∙ puts_are row.0 }

-- what the definitions spell is what the machine spells
pub spells_to : (text : List ℕ) (m : MapValue) → Spells text m → verdict text ≡ Spelled m
spells_to text m s =
    let r = row_defined start empty_map (items text) s.definitions s.row starts in
    let map = r.2 ∙ ap Some (puts_are s.definitions ∙ sym s.map) in
    judged start (tokens_after 0 0 text) m
    (record { last = r.0; end = s.end; steps = r.1; whole = s.whole; map = map })

-- the machine's fault is that of the definitions
pub fault_from : (text : List ℕ) (f : TextFaultKind) (q : ℕ) (e : Bool) → verdict text ≡ Faulty f q e
    → fault_of text ≡ Some (record { kind = f; offset = q; early = e })
fault_from text f q e h = sym (fault_is text) ∙ ap found_of h

-- the fault of the definitions is that of the machine
pub fault_to : (text : List ℕ) (f : TextFaultKind) (q : ℕ) (e : Bool)
    → fault_of text ≡ Some (record { kind = f; offset = q; early = e }) → verdict text ≡ Faulty f q e
fault_to text f q e h = go (verdict text) (fault_is text ∙ h)
  where
    go : (v : Verdict) → found_of v ≡ Some (record { kind = f; offset = q; early = e }) → v ≡ Faulty f q e
    go (Spelled m) k = absurd (none-some _ k)
    go (Faulty f' q' e') k = ap (λ (x : FaultInText). Faulty x.kind x.offset x.early) (same_Some _ _ k)

-- exactly one of the two
pub fault_or_map : (text : List ℕ) (m : MapValue) → Spells text m → fault_of text ≡ None
fault_or_map text m s = sym (fault_is text) ∙ ap found_of (spells_to text m s)

-- tokens up to the end of a text
tokens_then : List TokenValue → Tokens
tokens_then [] = Ends 0
tokens_then (t ∷ ts) = Then t (tokens_then ts)

-- tokens of a list
listed : (ts : List TokenValue) → list_of (tokens_then ts) ≡ ts
unfolding tokens_then list_of
listed [] = refl
listed (t ∷ ts) = ap (λ ts. t ∷ ts) (listed ts)

-- nothing stands behind the tokens of a list
behind_is : (ts : List TokenValue) → ending_of_tokens (tokens_then ts) ≡ Ok 0
unfolding tokens_then ending_of_tokens
behind_is [] = refl
behind_is (t ∷ ts) = behind_is ts

-- what the end of a list of tokens answers
ended_at : (ts : List TokenValue)
    → found_of (judge start (tokens_then ts)) ≡ found_in (place_after AtDefinition ts) (Ok 0)
ended_at ts = grind (arith, behind_is, listed, same_fault)

-- tokens that lead to a place where a text may end are a row
pub row_of : (ts : List TokenValue) (p : RowPlace) → place_after AtDefinition ts ≡ Ok p → may_end p ≡ true
    → (ds : List Definition) × IsRow (map item_of ts) ds
row_of ts p h e = go (judge start (tokens_then ts)) refl
  where
    none : found_of (judge start (tokens_then ts)) ≡ None
    none = search (rules, ended_at)

    go : (v : Verdict) → judge start (tokens_then ts) ≡ v → (ds : List Definition) × IsRow (map item_of ts) ds
    go (Spelled m) k =
        let r = runs start (tokens_then ts) m k in
        let row = row_at_end (items_of (tokens_then ts)) r.last.map r.last.place m
        (stands_after [] (items_of (tokens_then ts)) start r.last stands_first r.steps) r.map in
        (row.0, subst (λ (ts : List TokenValue). IsRow (map item_of ts) row.0) (listed ts) row.1)
    go (Faulty f q b) k = absurd (none-some _ (sym none ∙ ap found_of k))

-- a row leads to a place where a text may end
pub accepted_of : (ts : List TokenValue) (ds : List Definition) → IsRow (map item_of ts) ds
    → (p : RowPlace) × (place_after AtDefinition ts ≡ Ok p) × (may_end p ≡ true)
accepted_of ts ds row =
    let r = row_defined start empty_map (map item_of ts) ds row starts in
    let m = judged start (tokens_then ts) (puts empty_map ds)
    (record { last = r.0; end = 0; steps = rw listed r.1; whole = behind_is ts; map = r.2 }) in
    go (place_after AtDefinition ts) refl (sym (ended_at ts) ∙ ap found_of m)
  where
    go : (l : Result RowPlace (TextFaultKind × TokenValue)) → place_after AtDefinition ts ≡ l → found_in l (Ok 0) ≡ None
        → (p : RowPlace) × (place_after AtDefinition ts ≡ Ok p) × (may_end p ≡ true)
    go (Ok p) e h = search (rules, none-some)
    go (Err (f, t)) e h = absurd (none-some _ (sym h))

-- a text spells one map at most
pub one_map : (text : List ℕ) (m n : MapValue) → Spells text m → Spells text n → m ≡ n
one_map text m n s t = spelled_is m n (sym (spells_to text m s) ∙ spells_to text n t)

-- no text spells a map and has a fault
pub not_both : (text : List ℕ) (m : MapValue) (f : TextFault) → Spells text m → Fault text f → ⊥
not_both text m f s (e, h) = none-some _ (sym (fault_or_map text m s) ∙ h.0)

-- a text has one fault at most
pub one_fault : (text : List ℕ) (f g : TextFault) → Fault text f → Fault text g
    → (f.kind ≡ g.kind) × (f.offset ≡ g.offset) × (f.line ≡ g.line)
one_fault text f g (e, h) (d, k) = grind arith

-- a text spells a map or has a fault
pub one_of_them : (text : List ℕ) → ((m : MapValue) × Spells text m) ⊎ ((f : TextFault) × Fault text f)
one_of_them text = go (verdict text) refl
  where
    go : (v : Verdict) → verdict text ≡ v → ((m : MapValue) × Spells text m) ⊎ ((f : TextFault) × Fault text f)
    go (Spelled m) h = inl (m, spells_from text m h)
    go (Faulty f q e) h =
        inr (record { offset = q; line = line text q; kind = f }, (e, (fault_from text f q e h, refl)))

-- equal faults have one place
same_offset : (f f' : TextFaultKind) (o o' : ℕ) (e e' : Bool) → Faulty f o e ≡ Faulty f' o' e' → o ≡ o'
same_offset f f' o o' e e' h = cc

-- a fault stands within the text
within : (o : Option MapValue) (q r : ℕ) (f : TextFaultKind) (o' : ℕ) (e : Bool) → q ≤ r → ended o q ≡ Faulty f o' e
    → o' ≤ r
within o q r f o' e l h = grind (arith, faulty, same_offset)

-- a fault stands in the bytes or at their end
fits : (bytes : List ℕ) (s : GrammarState) (k q : ℕ) (f : TextFaultKind) (o : ℕ) (e : Bool)
    → judge s (tokens_after k q bytes) ≡ Faulty f o e → o ≤ q + length bytes
fits [] s k q f o e h =
    within (at_end s) q (q + 0) f o e (omega arith) (sym (judge_ends s q) ∙ sym (ap (judge s) (split_nil k q)) ∙ h)
fits (c ∷ bytes) s (suc k) q f o e h = let i =
    fits bytes s k (q + 1) f o e (sym (ap (judge s) (split_one k q c bytes)) ∙ h) in omega (arith, i)
fits (c ∷ bytes) s zero q f o e h = go (front_of c bytes) refl (fits bytes)
  where
    go : (r : Front) → front_of c bytes ≡ r → ((s : GrammarState) (k q : ℕ) (f : TextFaultKind) (o : ℕ) (e : Bool)
        → judge s (tokens_after k q bytes) ≡ Faulty f o e → o ≤ q + length bytes) → o ≤ q + suc (length bytes)
    go (Skipped n) a ih = let i =
        ih s n (q + 1) f o e (sym (ap (judge s) (split_skipped q c n bytes a)) ∙ h) in omega (arith, i)
    go (lexical.Found kind n) a ih = token (accept s (item_of t)) refl
      where
        t : TokenValue
        t = token_before kind (c ∷ take n bytes) q (drop n bytes)

        here : judge s (Then t (tokens_after n (q + 1) bytes)) ≡ Faulty f o e
        here = sym (ap (judge s) (split_found q c n kind bytes a)) ∙ h

        token : (r : Result GrammarState TextFaultKind) → accept s (item_of t) ≡ r → o ≤ q + suc (length bytes)
        token (Ok s') b = let i = ih s' n (q + 1) f o e (sym (judge_then s s' t _ b) ∙ here) in omega (arith, i)
        token (Err g) b = let i : q ≡ o =
            same_offset _ _ _ _ _ _ (sym (judge_refused s g t _ b) ∙ here) in omega (arith, i)
    go (Refused g) a ih = search (rules, same_offset, judge_stops, split_refused)
    go Unfinished a ih = search (rules, same_offset, judge_stops, split_unfinished)

-- a fault stands in the text or at its end
pub fault_within : (text : List ℕ) (f : TextFaultKind) (o : ℕ) (e : Bool) → verdict text ≡ Faulty f o e
    → o ≤ length text
fault_within text f o e h = omega (arith, fits text start 0 0 f o e h)

-- more bytes behind change no line before
pub line_stays : (text more : List ℕ) (o : ℕ) → o ≤ length text → line text o ≡ line (text ++ more) o
line_stays text more o h = grind (arith, count_by, take-append-le)

-- an early fault stays in every text that begins so
pub early_stays_in : (text more : List ℕ) (f : TextFault) → Early text f → Early (text ++ more) f
early_stays_in text more f (h, l) =
    let v : verdict text ≡ Faulty f.kind f.offset true = fault_to text f.kind f.offset true h in (
      fault_from (text ++ more) f.kind f.offset true (early_from text more f.kind f.offset v),
      l
          ∙ line_stays text more f.offset (fault_within text f.kind f.offset true v),
    )

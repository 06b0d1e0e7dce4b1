-- The lines of a script, one after another.
use Rattle.play_core.proofs.Common.{zero, suc, ◌≡◌, ℕ, ◌+◌, ◌<◌, ◌≤◌, true, false, Bool, cond, eqb, List, [], ◌∷◌, ◌++◌}
use Rattle.play_core.proofs.Common.{length, take, drop, get_or, map, Option, None, Some, refl, sym, ap, subst, ◌∙◌}
use Rattle.play_core.proofs.Common.{append-nil, ◌-◌, arith, drop-cons, take-append-drop, slice_split, rules}
use Rattle.play_core.proofs.Common.{onto_first, position, position_or_len, take_more, length-map, filter-append}
use Rattle.play_core.proofs.Common.{count_by-le-length, unwrap_or, position-Some, What, Down, Repeat, Up, Reset, Load}
use Rattle.play_core.proofs.Common.{Sent, ScriptFault, is_there, parts_of, words_of, lines_of, AreEvents, IsEvent}
use Rattle.play_core.proofs.Common.{Sends, Tells, mark_of, IsScriptFault, IsFaultOf, IsReadTo, BeginsWithEvent}
use Rattle.play_core.proofs.Common.{IsScript}
use Rattle.std.proofs.Common.{◌==◌, Bor, add-one, length-take-le, take_all, length-drop}
use Rattle.std.proofs.lemmas.List.{get_or-map, drop-drop}
use Rattle.std.proofs.lemmas.List.Splits.{length-slice_split, slice_split_first, slice_split_none}
use Rattle.std.proofs.lemmas.List.Sums.{fails_before_first, length-filter}
use Rattle.std.proofs.lemmas.Slice.Zip.{all_zipped_more, AllZip-long}
use Rattle.std.specs.Option.{MatchOption}
use Rattle.play_core.proofs.LineWords.{unwrap_position}
use Rattle.play_core.specs.Scripts.{RunsOut}

-- the part at a place is the line there
pub record IsPart (script text : List ℕ) (n : ℕ) : Type 0 where
  pub within : n < length (parts_of script)
  pub same : text ≡ get_or (parts_of script) n text

-- a script has at most one line more than bytes
pub few_lines : (script : List ℕ) → length (parts_of script) ≤ length script + 1
unfolding parts_of
few_lines script =
    rw (length-slice_split (λ b. eqb b 10) script) (omega (arith, count_by-le-length (λ b. eqb b 10) script))

module _ {script text : List ℕ} {n : ℕ} (part : IsPart script text n) where
  -- the line is one of the script's
  within_lines : n < length (lines_of script)
  unfolding lines_of
  within_lines = subst (λ k. n < k) (sym (length-map (parts_of script) words_of)) part.within

  -- the line of that number has the words of the text
  line_is : get_or (lines_of script) n (words_of text) ≡ words_of text
  unfolding lines_of
  line_is = get_or-map words_of (parts_of script) n text (words_of text) part.within ∙ ap words_of (sym part.same)

  -- the lines so far, with this line
  pub lines_more : take (n + 1) (lines_of script) ≡ take n (lines_of script) ++ words_of text ∷ []
  lines_more =
      take_more (lines_of script) n (words_of text) within_lines ∙ ap (λ w. take n (lines_of script) ++ w ∷ []) line_is

  -- the lines before this one, this one, and those behind
  lines_split : lines_of script ≡ take n (lines_of script) ++ words_of text ∷ drop (suc n) (lines_of script)
  lines_split =
      sym (take-append-drop n (lines_of script))
      ∙ ap (λ l. take n (lines_of script) ++ l) (drop-cons (lines_of script) n (words_of text) within_lines)
      ∙ ap (λ w. take n (lines_of script) ++ w ∷ drop (suc n) (lines_of script)) line_is

  -- as many lines stand before this one as its number
  length_before : length (take n (lines_of script)) ≡ n
  length_before = length-take-le n (lines_of script) (omega (arith, within_lines))

-- a command has a word
command_there : (command : List (List ℕ)) (w : What) → Tells command w → is_there command ≡ true
command_there command (Down k) h = ap is_there h.1
command_there command (Repeat k) h = ap is_there h.1
command_there command (Up k) h = ap is_there h.1
command_there command Reset h = ap is_there h
command_there command Load h = ap is_there h

-- a command with its mark has a word
marked_there : (s : Sent) (lost : Bool) (command : List (List ℕ)) → is_there command ≡ true
    → is_there (mark_of lost ++ command) ≡ true
marked_there s true command h = refl
marked_there s false command h = h

-- the words of an event have a word
pub event_there : (words : List (List ℕ)) (s : Sent) → Sends words s → is_there words ≡ true
event_there words s h = ap is_there h.1 ∙ marked_there s s.lost h.0 (command_there h.0 s.what h.2)

-- a line without a word
pub blank_more : (lines : List (List (List ℕ))) (words : List (List ℕ)) (sent : List Sent) → AreEvents lines sent
    → words ≡ []
    → AreEvents (lines ++ words ∷ []) sent
blank_more lines words sent h e = search (rules, filter-append, append-nil)

-- a line that is an event
pub event_more : (lines : List (List (List ℕ))) (words : List (List ℕ)) (sent : List Sent) (s : Sent)
    → AreEvents lines sent → IsEvent words s
    → AreEvents (lines ++ words ∷ []) (sent ++ s ∷ [])
event_more lines words sent s h event = search (rules, event_there, filter-append, all_zipped_more)

-- the fault of a line whose lines before it are events
pub fault_at : (script text : List ℕ) (n : ℕ) (sent : List Sent) (fault : ScriptFault) → IsPart script text n
    → AreEvents (take n (lines_of script)) sent
    → IsFaultOf (words_of text) (n + 1) fault → IsScriptFault script fault
fault_at script text n sent fault part events first = record {
  before = take n (lines_of script);
  line = words_of text;
  after = drop (suc n) (lines_of script);
  split = lines_split part;
  sent = sent;
  events = events;
  first = subst (λ k. IsFaultOf (words_of text) (k + 1) fault) (sym (length_before part)) first;
}

-- an event that can't be kept leaves a script that runs out of memory
pub out_at : (script text : List ℕ) (n : ℕ) (sent : List Sent) (unkept : Sent) → IsPart script text n
    → AreEvents (take n (lines_of script)) sent
    → IsEvent (words_of text) unkept → RunsOut script
out_at script text n sent unkept part events event = record {
  before = take n (lines_of script);
  line = words_of text;
  after = drop (suc n) (lines_of script);
  split = lines_split part;
  sent = sent;
  events = events;
  unkept = unkept;
  event = event;
}

-- ---- the parts that are left

-- the lines that are left
abbrev pub parts_left : Option (Bor (List ℕ)) → List (List ℕ)
parts_left None = []
parts_left (Some rest) = parts_of rest.now

-- the number of bytes that are left
abbrev pub bytes_left : Option (Bor (List ℕ)) → ℕ
bytes_left None = 0
bytes_left (Some rest) = length rest.now + 1

-- no line feed is left
pub last_part : (text : List ℕ) → None ≡ position (λ b. b == 10) text → parts_of text ≡ text ∷ []
unfolding parts_of
last_part text e =
    let end = sym (unwrap_position (λ b. eqb b 10) text) ∙ ap (λ o. unwrap_or o (length text)) (sym e) in
    slice_split_none (λ b. eqb b 10) text (λ k d lt. fails_before_first (λ b. eqb b 10) text k d (omega arith))

-- the part before the first line feed
pub first_part : (text : List ℕ) (end : ℕ) → position (λ b. b == 10) text ≡ Some end
    → parts_of text ≡ take end text ∷ parts_of (drop 1 (drop end text))
unfolding parts_of
first_part text end e =
    let found = position-Some (λ b. eqb b 10) text end 0 e in
    let same : end ≡ position_or_len (λ b. eqb b 10) text =
    ap (λ o. unwrap_or o (length text)) (sym e) ∙ unwrap_position (λ b. eqb b 10) text in
    slice_split_first (λ b. eqb b 10) text 0 (omega arith)
    ∙ ap (λ n. take n text ∷ parts_of (drop (n + 1) text)) (sym same)
    ∙ ap (λ l. take end text ∷ parts_of l) (sym (drop-drop 1 end text))

-- what is left begins with the element of that index
drop_is : {A : Type 0} (xs : List A) (n : ℕ) (y : A) (ys : List A) → drop n xs ≡ y ∷ ys
    → (n < length xs) × (y ≡ get_or xs n y) × (drop (suc n) xs ≡ ys)
drop_is [] zero y ys e = cc
drop_is [] (suc n) y ys e = cc
drop_is (x ∷ xs) zero y ys e = (omega arith, cc, cc)
drop_is (x ∷ xs) (suc n) y ys e = let rest = drop_is xs n y ys e in (omega arith, rest.1, rest.2)

-- the next part, and those behind it
pub next_part : (script line : List ℕ) (n : ℕ) (rest : List (List ℕ)) → drop n (parts_of script) ≡ line ∷ rest
    → IsPart script line n × (drop (n + 1) (parts_of script) ≡ rest)
next_part script line n rest e = search (rules, drop_is, add-one)

-- no part is left
pub no_part : (script : List ℕ) (n : ℕ) → drop n (parts_of script) ≡ [] → take n (lines_of script) ≡ lines_of script
unfolding lines_of
no_part script n e =
    take_all n (map words_of (parts_of script))
    (let none = ap length e in let cut = length-drop n (parts_of script) in
    subst (λ k. k ≤ n) (sym (length-map (parts_of script) words_of)) (omega arith))

-- ---- lines that are read

-- some part is there, whether the first byte separates or not
parts_by : {X : Type 0} (t : Bool) (x : X) (parts : List (List X))
    → is_there (cond t ([] ∷ parts) (onto_first x parts)) ≡ true
parts_by true x parts = refl
parts_by false x [] = refl
parts_by false x (part ∷ parts) = refl

-- a list has a part
pub parts_there : {X : Type 0} (p : X → Bool) (xs : List X) → is_there (slice_split p xs) ≡ true
parts_there p [] = refl
parts_there p (x ∷ xs) = parts_by (p x) x (slice_split p xs)

-- a line is left
read-within : {script rest : List ℕ} {number : ℕ} {sent : List Sent} → IsReadTo script number sent rest
    → number < length (parts_of script)
unfolding parts_of
read-within {script} {rest} {number} read =
    let left = ap length read.parts in
    let cut = length-drop number (slice_split (λ b. eqb b 10) script) in
    let some = some-part (slice_split (λ b. eqb b 10) rest) (parts_there (λ b. eqb b 10) rest) in
    omega arith
  where
    some-part : (parts : List (List ℕ)) → is_there parts ≡ true → 0 < length parts
    some-part [] e = cc
    some-part (part ∷ parts) e = omega arith

-- fewer lines were read than a number of 64 bits counts
pub read-few : (script rest : List ℕ) (number : ℕ) (sent : List Sent) → IsReadTo script number sent rest
    → number ≤ length script
read-few script rest number sent read = omega (arith, read-within read, few_lines script)

-- a further line was read
pub read-more : (script text rest : List ℕ) (number : ℕ) (sent : List Sent) (what : What)
    → IsReadTo script number sent text → BeginsWithEvent text what rest
    → IsReadTo script (number + 1) (sent ++ (record { lost = false; what = what }) ∷ []) rest
read-more script text rest number sent what read told =
    let next = next_part script told.0 number (parts_of rest) (read.parts ∙ told.1) in
    record {
      events = rw (lines_more next.0)
          (event_more (take number (lines_of script)) (words_of told.0) sent (record { lost = false; what = what })
          read.events told.2);
      parts = next.1;
    }

-- memory is refused for the next line
pub read-out : (script text rest : List ℕ) (number : ℕ) (sent : List Sent) (what : What)
    → IsReadTo script number sent text → BeginsWithEvent text what rest → RunsOut script
read-out script text rest number sent what read told =
    let next = next_part script told.0 number (parts_of rest) (read.parts ∙ told.1) in
    out_at script told.0 number sent (record { lost = false; what = what }) next.0 read.events told.2

-- what was read further, where the number of lines is counted by the events
pub read-on : (script text rest : List ℕ) (number before after : ℕ) (sent sent' : List Sent)
    (left : Option (Bor (List ℕ)))
    → AreEvents (take number (lines_of script)) sent → drop number (parts_of script) ≡ parts_left left
    → parts_left left ≡ parts_of text
    → (IsReadTo script number sent text → IsReadTo script (number + (length sent' - length sent)) sent' rest)
    → after ≡ length sent' → before ≡ length sent → IsReadTo script (number + (after - before)) sent' rest
read-on script text rest number before after sent sent' left events parts same further a b =
    rw (a, b) (further (record { events = events; parts = parts ∙ same }))

-- what splitting off a line leaves
after_split : (text line : List ℕ) (following : Option (Bor (List ℕ)))
    → MatchOption following (parts_of text ≡ line ∷ []) (λ rest. parts_of text ≡ line ∷ parts_of rest.now)
    → parts_of text ≡ line ∷ parts_left following
after_split text line None h = h
after_split text line (Some rest) h = h

-- the line that is split off is the next one, and what is left follows it
pub split-next : (script text line : List ℕ) (number : ℕ) (sent : List Sent) (following : Option (Bor (List ℕ)))
    → IsReadTo script number sent text
    → MatchOption following (parts_of text ≡ line ∷ []) (λ rest. parts_of text ≡ line ∷ parts_of rest.now)
    → IsPart script line number × (drop (number + 1) (parts_of script) ≡ parts_left following)
split-next script text line number sent following read split =
    next_part script line number _ (read.parts ∙ after_split text line following split)

-- ---- how many events a script has

-- a script has at most one line more than bytes
lines_few : (script : List ℕ) → length (lines_of script) ≤ length script + 1
unfolding lines_of
lines_few script = let lines = few_lines script in rw length-map lines

-- a script has at most one event more than bytes
pub events_few : (script : List ℕ) (sent : List Sent) → IsScript script sent → length sent ≤ length script + 1
events_few script sent h = search (rules, AllZip-long, length-filter, count_by-le-length, lines_few)

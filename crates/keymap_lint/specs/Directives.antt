-- Directives: comments of a text that name kinds of diagnostics; which definition each is for, what it keeps back, and
-- what is said of it.
use Rattle.std.specs.Prelude.{ℕ, ◌+◌, ◌-◌, ◌==◌, Bool, true, false, ◌&&◌, ◌||◌, not, if◌then◌else◌, nat_lt, nat_le}
use Rattle.std.specs.Prelude.{List, [], ◌∷◌, ◌++◌, length, map, take, drop, reverse, find, count_by, codes, slice_index}
use Rattle.std.specs.Prelude.{slice_index_or, Option, Some, None, nat_eq}
use Rattle.std.specs.List.{filter, flat_map, list_any, position, starts_with, suffix_len}
use Rattle.std.specs.Option.{is_none, option_map, option_to_list, unwrap_or}
use Rattle.std.specs.Str.{bytes_eq}
use Rattle.bstr.specs.Find.{FindsNeedle}
use Rattle.keymap_core.specs.Below.{first_below, gathered}
use Rattle.keymap_places.specs.LineOf.{rest_of_line}
use Rattle.keymap_text.specs.Lexical.{is_space, leading}
use Rattle.keymap_lint.specs.Types.{Span, Diagnostic, Kind, Placed}
use Rattle.keymap_lint.specs.declared.diagnostic.BadIgnore.TheVariants as bad
use Rattle.keymap_lint.specs.declared.diagnostic.Kind.TheVariants as kinds
use Rattle.keymap_lint.specs.declared.directives.Directive.{Directive}
use Rattle.keymap_lint.specs.declared.directives.Ignored.{Ignored}
use Rattle.keymap_lint.specs.declared.directives.Scope.{Scope}
use Rattle.keymap_lint.specs.declared.directives.Scope.TheVariants as scopes
use Rattle.keymap_lint.specs.declared.directives.Standing.{Standing}
use Rattle.keymap_lint.specs.declared.directives.Standing.TheVariants as standings
use Rattle.keymap_lint.specs.KindNames.{kind_name, may_be_ignored, is_never_ignored}
use Rattle.keymap_lint.specs.Kinds.{at, is_the}
use Rattle.keymap_lint.specs.Severities.{severity_of, is_error}
use Rattle.keymap_lint.specs.Spelled.{Spelled, bytes_at, offset_at, span_at}

-- ---- what a comment says

-- the bytes without the spaces at their end
unfoldable pub trimmed : List ℕ → List ℕ
trimmed bytes = take (length bytes - suffix_len is_space bytes) bytes

-- the bytes of the line from a place on, without the spaces at its end
abbrev pub comment_at : List ℕ → ℕ → List ℕ
comment_at text place = trimmed (rest_of_line text place)

-- what stands between words
abbrev pub is_between : ℕ → Bool
is_between c = is_space c || c == 44

-- how many bytes a word has that stands first
abbrev pub word_length : List ℕ → ℕ
word_length bytes = unwrap_or (position is_between bytes) (length bytes)

-- `#` and the spaces behind it
abbrev pub lead : List ℕ → ℕ
lead comment = 1 + leading is_space (drop 1 comment)

-- the bytes begin with `#`, spaces or none, and `kmap:`
abbrev pub is_marked : List ℕ → Bool
is_marked comment = slice_index comment 0 == 35 && starts_with nat_eq (drop (lead comment) comment) (codes "kmap:")

-- `kmap:` stands nowhere in the text
abbrev pub HasNoMark : List ℕ → Type 0
HasNoMark text = FindsNeedle text (codes "kmap:") 0 None

-- the bytes before two hyphens
abbrev pub is_dashes : List ℕ → ℕ → Bool
is_dashes bytes k = slice_index bytes k == 45 && slice_index bytes (k + 1) == 45

unfoldable pub before_dashes : List ℕ → List ℕ
before_dashes bytes = take (unwrap_or (first_below (is_dashes bytes) (length bytes)) (length bytes)) bytes

-- whether the word is for the whole text, if it is one of the two
abbrev pub is_for_text : List ℕ → Option Bool
is_for_text word =
    if bytes_eq word (codes "ignore") then Some false
    else if bytes_eq word (codes "ignore-text") then Some true else None

-- ---- where a comment stands

-- how many tokens begin before a place, and where the last of them ends
abbrev pub tokens_before : List Span → ℕ → ℕ
tokens_before spans place = count_by (λ (s : Span). nat_lt s.start place) spans

abbrev pub end_before : List Span → ℕ → ℕ
end_before spans n = if n == 0 then 0 else (span_at spans (n - 1)).end

-- A comment begins where spaces alone stand behind a token or the text's beginning, or behind a line end. So the last
-- byte that is none, of the bytes before it, is a line end or missing.
abbrev pub standing_by : ℕ → Option ℕ → Standing
standing_by n None = if n == 0 then standings.Alone else standings.Beside
standing_by n (Some c) = if c == 10 then standings.Alone else standings.Within

abbrev pub last_other : List ℕ → Option ℕ
last_other bytes = find (λ c. not (is_space c)) (reverse bytes)

abbrev pub standing_behind : List ℕ → ℕ → ℕ → ℕ → Standing
standing_behind text from place n =
    if nat_lt place from then standings.Within else standing_by n (last_other (take (place - from) (drop from text)))

unfoldable pub stands_at : List ℕ → Spelled → ℕ → Standing
stands_at text t place =
    standing_behind text (end_before t.spans (tokens_before t.spans place)) place (tokens_before t.spans place)

-- ---- what a directive is for

-- how many definitions begin up to a place: the number of the one that the place is in, counted from 1
abbrev pub definition_at : Spelled → ℕ → ℕ
definition_at t place = count_by (λ (p : Placed). nat_le (offset_at t p.first) place) t.definitions

-- the definition of the next token, where n stand before; 0 where there is none
abbrev pub next_definition : Spelled → ℕ → ℕ
next_definition t n = if nat_lt n (length t.spans) then definition_at t (offset_at t n) else 0

-- Behind a token of its line a directive is for the definition of that token; alone in its line for that of the next.
abbrev pub target : Spelled → ℕ → Standing → ℕ
target t place standings.Beside = definition_at t place
target t place other = next_definition t (tokens_before t.spans place)

abbrev pub scope_by : Spelled → ℕ → Standing → Option Bool → Option Scope
scope_by t place stands None = None
scope_by t place stands (Some true) = Some scopes.Text
scope_by t place stands (Some false) = Some (scopes.Definition (target t place stands))

-- ---- the directives of a text

-- where the first word of what is said ends, and the word
abbrev pub verb_end : List ℕ → ℕ
verb_end said = leading is_space said + word_length (drop (leading is_space said) said)

abbrev pub verb : List ℕ → List ℕ
verb said = take (word_length (drop (leading is_space said) said)) (drop (leading is_space said) said)

-- The directive whose `#` stands at a place, where this is said from another place on: behind the first word kinds.
abbrev pub directive_saying : Spelled → ℕ → Standing → ℕ → List ℕ → Directive
directive_saying t place stands from said = record {
  place = place;
  scope = scope_by t place stands (is_for_text (verb said));
  kinds = record { start = from + verb_end said; end = from + length said };
}

abbrev pub directive_by : Spelled → ℕ → Standing → ℕ → List ℕ → Option Directive
directive_by t place standings.Within from said = None
directive_by t place stands from said = Some (directive_saying t place stands from said)

-- how many bytes a comment has up to what it says, if it is marked
abbrev pub said_from : List ℕ → Option ℕ
said_from comment = if is_marked comment then Some (lead comment + 5) else None

-- the directive whose `#` begins these bytes at a place
abbrev pub directive_behind : List ℕ → Spelled → ℕ → List ℕ → Option ℕ → Option Directive
directive_behind text t place comment (Some n) =
    directive_by t place (stands_at text t place) (place + n) (before_dashes (drop n comment))
directive_behind text t place comment None = None

unfoldable pub directive_at : List ℕ → Spelled → ℕ → List Directive
directive_at text t place =
    option_to_list
    (directive_behind text t place (comment_at text place) (said_from (comment_at text place)))

abbrev pub directives : List ℕ → Spelled → List Directive
directives text t = gathered (directive_at text t) (length text)

-- ---- the kinds that they name

-- a word begins in some bytes
abbrev pub begins_word : List ℕ → ℕ → Bool
begins_word bytes k = not (is_between (slice_index bytes k)) && is_between (slice_index bytes (k - 1))

abbrev pub word_in : List ℕ → Scope → ℕ → ℕ → Ignored
word_in bytes scope start k =
    record { scope = scope; word = record { start = start + k; end = start + k + word_length (drop k bytes) } }

abbrev pub word_at : List ℕ → Scope → ℕ → ℕ → List Ignored
word_at bytes scope start k = if begins_word bytes k then word_in bytes scope start k ∷ [] else []

abbrev pub words_in : List ℕ → Scope → ℕ → List Ignored
words_in bytes scope start = gathered (word_at bytes scope start) (length bytes)

abbrev pub words_by : List ℕ → Span → Option Scope → List Ignored
words_by text s None = []
words_by text s (Some scope) = words_in (bytes_at text s) scope s.start

unfoldable pub words_of : List ℕ → Directive → List Ignored
words_of text d = words_by text d.kinds d.scope

abbrev pub words : List ℕ → Spelled → List Ignored
words text t = flat_map (words_of text) (directives text t)

-- ---- what is kept back

-- the definition that the place of a diagnostic is in, if it has one
abbrev pub definition_of : Spelled → Diagnostic → Option ℕ
definition_of t d = option_map (definition_at t) d.place

abbrev pub is_within : Scope → Option ℕ → Bool
is_within scopes.Text o = true
is_within (scopes.Definition n) o = is_the n o

-- A word keeps back a warning of its kind that is in its definition, or any of its kind.
unfoldable pub keeps : List ℕ → Bool → Option ℕ → Kind → Ignored → Bool
keeps text never o kind w =
    not (is_error (severity_of never kind))
    && (is_within w.scope o && bytes_eq (bytes_at text w.word) (kind_name kind))

-- the number of the first word that keeps it back
abbrev pub keeper : List ℕ → Spelled → Bool → List Ignored → Diagnostic → Option ℕ
keeper text t never ws d = position (keeps text never (definition_of t d) d.kind) ws

abbrev pub is_told : List ℕ → Spelled → Bool → List Ignored → Diagnostic → Bool
is_told text t never ws d = is_none (keeper text t never ws d)

-- ---- what is said of directives

abbrev pub wrong_by : List ℕ → ℕ → Option Scope → Option Diagnostic
wrong_by bytes place None = Some (at place (kinds.BadIgnore bad.NoWord))
wrong_by bytes place (Some scope) =
    if list_any (λ c. not (is_between c)) bytes then None else Some (at place (kinds.BadIgnore bad.NoKinds))

abbrev pub wrong : List ℕ → Directive → List Diagnostic
wrong text d = option_to_list (wrong_by (bytes_at text d.kinds) d.place d.scope)

-- what is said of a word, by its bytes and whether it keeps something back
abbrev pub of_word : Span → List ℕ → Bool → Option Diagnostic
of_word word bytes is_used =
    if may_be_ignored bytes then (if is_used then None else Some (at word.start (kinds.UnusedIgnore word)))
    else if is_never_ignored bytes then Some (at word.start (kinds.BadIgnore (bad.NotIgnored word)))
    else Some (at word.start (kinds.BadIgnore (bad.NoKind word)))

-- the word with this number, where the first words that keep something back have these
abbrev pub word_span : List Ignored → ℕ → Span
word_span ws j = (slice_index_or ws j (record { scope = scopes.Text; word = record { start = 0; end = 0 } })).word

abbrev pub of_number : List ℕ → List Ignored → List (Option ℕ) → ℕ → List Diagnostic
of_number text ws keepers j =
    option_to_list
    (of_word (word_span ws j) (bytes_at text (word_span ws j)) (list_any (is_the j) keepers))

abbrev pub of_words : List ℕ → List Ignored → List (Option ℕ) → List Diagnostic
of_words text ws keepers = gathered (of_number text ws keepers) (length ws)

-- ---- all that is told

abbrev pub told_with : List ℕ → Spelled → Bool → List Directive → List Ignored → List Diagnostic → List Diagnostic
told_with text t never ds ws said =
    (filter (is_told text t never ws) said ++ flat_map (wrong text) ds)
    ++ of_words text ws (map (keeper text t never ws) said)

-- what is told of a text of which this would be said without directives
abbrev pub told : List ℕ → Spelled → Bool → List Diagnostic → List Diagnostic
told text t never said = told_with text t never (directives text t) (words text t) said

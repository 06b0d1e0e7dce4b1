-- Directives that are the same but for places keep back the same, and the same is said of them.
use Rattle.keymap_lint.proofs.Common.{◌≡◌, ℕ, ◌+◌, ◌<◌, ◌≤◌, Bool, true, false, ◌&&◌, not, cond, List, [], ◌∷◌, length}
use Rattle.keymap_lint.proofs.Common.{refl, sym, ◌∙◌, ap, subst, arith, Option, Some, None, map, get_or, take}
use Rattle.keymap_lint.proofs.Common.{Diagnostic, Spelled, gathered}
use Rattle.std.proofs.Common.{◌-◌, drop, inl, inr}
use Rattle.std.specs.List.{list_any}
use Rattle.std.specs.Option.{is_none, option_map, option_to_list}
use Rattle.std.specs.Str.{bytes_eq}
use Rattle.std.proofs.lemmas.Bool.{and_parts, cases_lt}
use Rattle.std.proofs.lemmas.List.{drop-drop, drop-take, length-drop}
use Rattle.keymap_lint.specs.Types.{Kind, Span}
use Rattle.keymap_lint.specs.Directives.{begins_word, definition_at, definition_of, directives, is_between, is_told}
use Rattle.keymap_lint.specs.Directives.{is_within, keeper, keeps, of_number, of_word, of_words, told, word_at, word_in}
use Rattle.keymap_lint.specs.Directives.{word_length, words, words_in, words_by, words_of, wrong, wrong_by}
use Rattle.keymap_lint.specs.KindNames.{is_never_ignored, kind_name, may_be_ignored}
use Rattle.keymap_lint.specs.Kinds.{at, is_the}
use Rattle.keymap_lint.specs.Same.{IsSame, Pairwise, no_pair, one_pair, sized, unplaced}
use Rattle.keymap_lint.specs.Severities.{is_error, severity_of}
use Rattle.keymap_lint.specs.Spelled.{bytes_at}
use Rattle.keymap_lint.specs.declared.diagnostic.BadIgnore.TheVariants as bad
use Rattle.keymap_lint.specs.declared.diagnostic.Kind.TheVariants as kinds
use Rattle.keymap_lint.specs.declared.directives.Directive.{Directive}
use Rattle.keymap_lint.specs.declared.directives.Ignored.{Ignored}
use Rattle.keymap_lint.specs.declared.directives.Scope.{Scope}
use Rattle.keymap_lint.specs.declared.directives.Scope.TheVariants as scopes
use Rattle.keymap_lint.proofs.Pairs.{pairs_append, pairs_at, pairs_equal, pairs_filter, pairs_flat_related}
use Rattle.keymap_lint.proofs.Pairs.{pairs_gathered, pairs_heads, pairs_length, pairs_one, pairs_position}
use Rattle.keymap_lint.proofs.Pairs.{pairs_unless}
use Rattle.keymap_lint.proofs.Told.{front_there, take_take, word_fits}

-- ---- kinds

-- what a kind weighs and its name don't hang on places
weight_of_unplaced : (never : Bool) (k : Kind) → severity_of never (unplaced k) ≡ severity_of never k
weight_of_unplaced never (kinds.BadIgnore (bad.NoKind word)) = refl
weight_of_unplaced never (kinds.BadIgnore (bad.NotIgnored word)) = refl
weight_of_unplaced never (kinds.BadIgnore bad.NoKinds) = refl
weight_of_unplaced never (kinds.BadIgnore bad.NoWord) = refl
weight_of_unplaced never k = refl

name_of_unplaced : (k : Kind) → kind_name (unplaced k) ≡ kind_name k
unfolding kind_name
name_of_unplaced (kinds.BadIgnore (bad.NoKind word)) = refl
name_of_unplaced (kinds.BadIgnore (bad.NotIgnored word)) = refl
name_of_unplaced (kinds.BadIgnore bad.NoKinds) = refl
name_of_unplaced (kinds.BadIgnore bad.NoWord) = refl
name_of_unplaced k = refl

-- ---- bytes

-- what stands in bytes of the text stands in the text
pub part_there : (text bytes : List ℕ) (s k n : ℕ) → take (length bytes) (drop s text) ≡ bytes → n ≤ length bytes - k
    → take n (drop (s + k) text) ≡ take n (drop k bytes)
part_there text bytes s k n there few = elim (cases_lt k (length bytes)) [
  | inl low ↦
      let m : ℕ = length bytes - k in
      let size : k + m ≡ length bytes = omega (arith, low) in
      let rest : take m (drop (s + k) text) ≡ drop k bytes =
      ap (take m) (sym (drop-drop k s text)) ∙ sym (drop-take k m (drop s text))
      ∙ ap (λ i. drop k (take i (drop s text))) size ∙ ap (drop k) there in
      sym (take_take n m (drop (s + k) text) few) ∙ ap (take n) rest
  | inr none ↦
      let zero : n ≡ 0 = omega (arith, few, none) in
      ap (λ i. take i (drop (s + k) text)) zero ∙ sym (ap (λ i. take i (drop k bytes)) zero)
]

not_true : (b : Bool) → not b ≡ true → b ≡ false
not_true false e = refl
not_true true e = absurd (cc)

-- ---- words and directives

-- The words have the same bytes and begin at the same place, and are for the same definition or the whole text.
pub record IsSameWord (P : ℕ → ℕ → Type 0) (text other : List ℕ) (w v : Ignored) : Type 0 where
  pub scope : w.scope ≡ v.scope
  pub bytes : bytes_at text w.word ≡ bytes_at other v.word
  pub size : w.word.end - w.word.start ≡ v.word.end - v.word.start
  pub start : P w.word.start v.word.start

-- The directives stand at the same place, are for the same definition or the whole text, and have the same words.
pub record IsSameDirective (P : ℕ → ℕ → Type 0) (text other : List ℕ) (d e : Directive) : Type 0 where
  pub place : P d.place e.place
  pub scope : d.scope ≡ e.scope
  pub kinds : bytes_at text d.kinds ≡ bytes_at other e.kinds
  pub words : (k : ℕ) → k < length (bytes_at text d.kinds) → is_between (get_or (bytes_at text d.kinds) k 0) ≡ false
      → P (d.kinds.start + k) (e.kinds.start + k)

module _ (P : ℕ → ℕ → Type 0) (text other : List ℕ) where
  abbrev R : Diagnostic → Diagnostic → Type 0
  R = IsSame P

  abbrev S : Ignored → Ignored → Type 0
  S = IsSameWord P text other

  abbrev D : Directive → Directive → Type 0
  D = IsSameDirective P text other

  abbrev nowhere : Ignored
  nowhere = record { scope = scopes.Text; word = record { start = 0; end = 0 } }

  words_in_same : (bytes : List ℕ) (scope : Scope) (s q : ℕ) → take (length bytes) (drop s text) ≡ bytes
      → take (length bytes) (drop q other) ≡ bytes
      → ((k : ℕ) → k < length bytes → is_between (get_or bytes k 0) ≡ false → P (s + k) (q + k))
      → Pairwise S (words_in bytes scope s) (words_in bytes scope q)
  words_in_same bytes scope s q here there along =
      pairs_gathered S (word_at bytes scope s) (word_at bytes scope q) (length bytes)
      (λ k low. one k low (begins_word bytes k) refl)
    where
      one : (k : ℕ) → k < length bytes → (b : Bool) → begins_word bytes k ≡ b
          → Pairwise S (cond b (word_in bytes scope s k ∷ []) []) (cond b (word_in bytes scope q k ∷ []) [])
      one k low false e = no_pair
      one k low true e =
          let n : ℕ = word_length (drop k bytes) in
          let few : n ≤ length bytes - k = omega (arith, word_fits (drop k bytes), length-drop k bytes) in
          let size : s + k + n - (s + k) ≡ n = omega arith in
          let its : q + k + n - (q + k) ≡ n = omega arith in
          pairs_one S (word_in bytes scope s k) (word_in bytes scope q k) (record {
            scope = refl;
            bytes =
                ap (λ i. take i (drop (s + k) text)) size ∙ part_there text bytes s k n here few
                ∙ sym (ap (λ i. take i (drop (q + k) other)) its ∙ part_there other bytes q k n there few);
            size = size ∙ sym its;
            start =
                along k low (not_true (is_between (get_or bytes k 0))
                (and_parts (not (is_between (get_or bytes k 0))) (is_between (get_or bytes (k - 1) 0)) e).0);
          })

  words_same : (d e : Directive) → D d e → Pairwise S (words_of text d) (words_of other e)
  unfolding words_of
  words_same d e r =
      subst (λ o. Pairwise S (words_by text d.kinds d.scope) (words_by other e.kinds o)) r.scope (go d.scope)
    where
      bytes : List ℕ
      bytes = bytes_at text d.kinds

      there : take (length bytes) (drop e.kinds.start other) ≡ bytes
      there =
          subst (λ (bytes : List ℕ). take (length bytes) (drop e.kinds.start other) ≡ bytes) (sym r.kinds)
          (front_there (e.kinds.end - e.kinds.start) (drop e.kinds.start other))

      go : (o : Option Scope) → Pairwise S (words_by text d.kinds o) (words_by other e.kinds o)
      go None = no_pair
      go (Some scope) =
          subst (λ its. Pairwise S (words_in bytes scope d.kinds.start) (words_in its scope e.kinds.start)) r.kinds
          (words_in_same bytes scope d.kinds.start e.kinds.start
          (front_there (d.kinds.end - d.kinds.start) (drop d.kinds.start text)) there r.words)

  -- ---- what is said of them

  wrong_same : (d e : Directive) → D d e → Pairwise R (wrong text d) (wrong other e)
  wrong_same d e r =
      subst (λ (its : List ℕ × Option Scope). Pairwise R (wrong text d)
      (option_to_list (wrong_by its.0 e.place its.1))) (λ i. (r.kinds i, r.scope i)) (go d.scope)
    where
      go : (o : Option Scope) → Pairwise R (option_to_list (wrong_by (bytes_at text d.kinds) d.place o))
          (option_to_list (wrong_by (bytes_at text d.kinds) e.place o))
      go None =
          pairs_one R _ _ (record { kind = refl; place = one_pair r.place no_pair; within = no_pair })
      go (Some scope) =
          pairs_unless R (list_any (λ c. not (is_between c)) (bytes_at text d.kinds)) _ _
          (record { kind = refl; place = one_pair r.place no_pair; within = no_pair })

  word_same : (w v : Ignored) → S w v → (is_used : Bool)
      → Pairwise R (option_to_list (of_word w.word (bytes_at text w.word) is_used))
      (option_to_list (of_word v.word (bytes_at other v.word) is_used))
  word_same w v s is_used =
      subst (λ bytes. Pairwise R (option_to_list (of_word w.word (bytes_at text w.word) is_used))
      (option_to_list (of_word v.word bytes is_used))) s.bytes
      (go (may_be_ignored (bytes_at text w.word)) (is_never_ignored (bytes_at text w.word)) is_used)
    where
      its : sized w.word ≡ sized v.word
      its = ap (λ n. record { start = 0; end = n }) s.size

      start : Pairwise P (w.word.start ∷ []) (v.word.start ∷ [])
      start = one_pair s.start no_pair

      of : Span → Bool → Bool → Bool → List Diagnostic
      of word may never used =
          option_to_list (cond may (cond used None (Some (at word.start (kinds.UnusedIgnore word))))
          (cond never (Some (at word.start (kinds.BadIgnore (bad.NotIgnored word))))
          (Some (at word.start (kinds.BadIgnore (bad.NoKind word))))))

      go : (may never used : Bool) → Pairwise R (of w.word may never used) (of v.word may never used)
      go true never true = no_pair
      go true never false =
          pairs_one R _ _ (record { kind = ap kinds.UnusedIgnore its; place = start; within = start })
      go false true used =
          pairs_one R _ _
          (record { kind = ap (λ word. kinds.BadIgnore (bad.NotIgnored word)) its; place = start; within = start })
      go false false used =
          pairs_one R _ _
          (record { kind = ap (λ word. kinds.BadIgnore (bad.NoKind word)) its; place = start; within = start })

  of_words_same : (ks : List (Option ℕ)) {ws vs : List Ignored} → Pairwise S ws vs
      → Pairwise R (of_words text ws ks) (of_words other vs ks)
  of_words_same ks {ws = ws} {vs = vs} same =
      subst (λ n. Pairwise R (of_words text ws ks) (gathered (of_number other vs ks) n)) (pairs_length S same)
      (pairs_gathered R (of_number text ws ks) (of_number other vs ks) (length ws) (λ j low.
      word_same (get_or ws j nowhere) (get_or vs j nowhere) (pairs_at S same j nowhere nowhere low)
      (list_any (is_the j) ks)))

  -- ---- what is kept back

  module _ (t u : Spelled) (defined : (p q : ℕ) → P p q → definition_at t p ≡ definition_at u q) (never : Bool) where
    of_places : (o s : Option ℕ) → Pairwise P (option_to_list o) (option_to_list s)
        → option_map (definition_at t) o ≡ option_map (definition_at u) s
    of_places None None h = refl
    of_places (Some p) (Some q) h = ap Some (defined p q (pairs_heads P h).0)
    of_places None (Some q) h = absurd (omega (arith, pairs_length P h))
    of_places (Some p) None h = absurd (omega (arith, pairs_length P h))

    keeps_same : (d e : Diagnostic) → R d e → (w v : Ignored) → S w v
        → keeps text never (definition_of t d) d.kind w ≡ keeps other never (definition_of u e) e.kind v
    unfolding keeps
    keeps_same d e r w v s =
        let weight : severity_of never d.kind ≡ severity_of never e.kind =
        sym (weight_of_unplaced never d.kind) ∙ ap (severity_of never) r.kind ∙ weight_of_unplaced never e.kind in
        let name : kind_name d.kind ≡ kind_name e.kind =
        sym (name_of_unplaced d.kind) ∙ ap kind_name r.kind ∙ name_of_unplaced e.kind in
        let place = of_places d.place e.place r.place in
        λ i. not (is_error (weight i)) && (is_within (s.scope i) (place i) && bytes_eq (s.bytes i) (name i))

    keeper_same : {ws vs : List Ignored} → Pairwise S ws vs → (d e : Diagnostic) → R d e
        → keeper text t never ws d ≡ keeper other u never vs e
    keeper_same same d e r =
        pairs_position S (keeps text never (definition_of t d) d.kind) (keeps other never (definition_of u e) e.kind)
        (keeps_same d e r) same

    -- all that is told of the two
    pub told_same : {said theirs : List Diagnostic} → Pairwise R said theirs
        → Pairwise D (directives text t) (directives other u)
        → Pairwise R (told text t never said) (told other u never theirs)
    told_same {said = said} {theirs = theirs} alike ds =
        pairs_append R (pairs_append R
        (pairs_filter R (is_told text t never ws) (is_told other u never vs)
        (λ d e r. ap is_none (keeper_same same d e r)) alike)
        (pairs_flat_related R D (wrong text) (wrong other) wrong_same ds))
        (subst (λ ks. Pairwise R (of_words text ws (map (keeper text t never ws) said)) (of_words other vs ks))
        (pairs_equal R (keeper text t never ws) (keeper other u never vs) (keeper_same same) alike)
        (of_words_same (map (keeper text t never ws) said) same))
      where
        ws : List Ignored
        ws = words text t

        vs : List Ignored
        vs = words other u

        same : Pairwise S ws vs
        same = pairs_flat_related S D (words_of text) (words_of other) words_same ds

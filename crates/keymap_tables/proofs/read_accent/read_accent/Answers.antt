use Rattle.keymap_tables.proofs.Common.{arith, ◌≡◌, ◌+◌, ◌*◌, ◌<◌, ◌≤◌, ◌∙◌, None, Some, sym, refl, ap, subst}
use Rattle.keymap_tables.proofs.Common.{rules, length, flat_map, ℕ, take, List, append-nil, mul-zero, IsScalar}
use Rattle.keymap_tables.proofs.Common.{All-nil, All-cons, All-same, All-push, length_push, AccentValue, IsPair}
use Rattle.keymap_tables.proofs.Common.{number_at, char_fault, number_fault, zero_fault, accent_fault, pairs_in}
use Rattle.keymap_tables.proofs.Common.{IsFirstFault, AccentFits, number_bytes, numbers_of, HasNoFault, number_width}
use Rattle.keymap_tables.proofs.Common.{number_size, accent_size, NotEmpty, Layout, TableFault}
use Rattle.keymap_tables.proofs.AccentImages.{pair-read, pair-fits, length-numbers}
use Rattle.keymap_tables.proofs.Lifting.{number-passes, number-fails, first-past, row-past, upto}
use Rattle.keymap_tables.proofs.Numbers.{AreBytes, number-read, number-fits, drop-zeros}
use Rattle.keymap_tables.proofs.Outcomes.{err_passed, OnOk-at}
use Rattle.keymap_tables.proofs.Rows.{rows-whole}
use Rattle.keymap_tables.proofs.Sizes.{row-inside, some-number}
use Rattle.keymap_tables.proofs.read_accent.read_accent.Goals as goal

-- The numbers up to the last pair.
module _ (l : Layout) (bytes : List ℕ) (i : ℕ) (used : i < 1 + 2 * pairs_in l bytes)
    (before : HasNoFault (accent_fault l bytes) (number_size l * i)) where
  passes : (j : ℕ) → i + 1 ≡ j → char_fault (number_at l bytes (number_size l * i)) ≡ None
      → HasNoFault (accent_fault l bytes) (number_size l * j)
  passes j next clean =
      upto (accent_fault l bytes) (number_size l) (i + 1) j next
      (number-passes (number_width l) (λ k. char_fault) (number_size l) (1 + 2 * pairs_in l bytes)
      (zero_fault NotEmpty bytes) bytes i used before clean)

  fails : pairs_in l bytes ≤ 52 → (f : TableFault) → f.offset ≡ number_size l * i
      → char_fault (number_at l bytes (number_size l * i)) ≡ Some f.kind
      → IsFirstFault (accent_fault l bytes) f × (f.offset < accent_size l)
  fails few f at bad = (
    number-fails (number_width l) (λ k. char_fault) (number_size l) (1 + 2 * pairs_in l bytes)
        (zero_fault NotEmpty bytes) bytes i f (some-number l) used at before bad,
    omega (arith, at, row-inside (number_size l) 105 i (omega arith), some-number l),
  )

pub returns-in_err-read_char-clause-fault : goal.returns-in_err-read_char-clause-fault
returns-in_err-read_char-clause-fault c =
    err_passed _ _ _ c.from_residual.ensures.1
    (fails c.args.layout c.args.bytes.now 0 (omega arith)
    (λ p below. absurd (omega (arith, below, mul-zero (number_size c.args.layout))))
    (omega (arith, c.count_pairs-pairs.ensures)) _
    c.in_err-read_char.ensures.fault.0 c.in_err-read_char.ensures.fault.1)

pub loop-pair-init : goal.loop-pair-init
loop-pair-init c =
    let l = c.args.layout in
    let bytes = c.args.bytes.now in
    let own = c.new-accent.ensures.own ∙ c.in_ok-read_char.ensures.number in
    let none = c.new-accent.ensures.pairs in
    let small : AreBytes c.args.bytes.now = λ i. omega (arith, c.type_inv.bytes i) in
    let start : number_size l * 0 ≡ 0 = mul-zero (number_size l) in
    let once : number_size l ≡ number_size l * 1 = omega arith in
    let inside = row-inside (number_size l) 105 0 (omega arith) in
    record {
      bytes = search (rules, append-nil, number-read);
      count = rw none refl;
      character = rw c.new-accent.ensures.own c.in_ok-read_char.ensures.known;
      known = All-same IsPair _ _ none (All-nil IsPair);
      fits = search (rules, All-cons, number-fits, All-nil);
      sound = search (rules, passes);
    }

pub returns-in_err-base-clause-fault : goal.returns-in_err-base-clause-fault
returns-in_err-base-clause-fault c =
    err_passed _ _ _ c.from_residual-in_err-base.ensures.1
    (fails c.args.layout c.args.bytes.now (1 + 2 * c.loop-pair.pair) (omega arith) c.loop-pair.invariant.sound
    (omega (arith, c.count_pairs-pairs.ensures)) _ c.in_err-base.ensures.fault.0 c.in_err-base.ensures.fault.1)

pub returns-in_err-composed-clause-fault : goal.returns-in_err-composed-clause-fault
returns-in_err-composed-clause-fault c =
    let few = c.count_pairs-pairs.ensures.few in
    let counted = c.count_pairs-pairs.ensures.value in
    let i = c.loop-pair.pair in
    err_passed _ _ _ c.from_residual-in_err-composed.ensures.1
    (fails c.args.layout c.args.bytes.now (2 + 2 * i) (omega arith)
    (passes c.args.layout c.args.bytes.now (1 + 2 * i) (omega arith) c.loop-pair.invariant.sound (2 + 2 * i)
    (omega arith) c.in_ok-base.ensures.sound)
    (omega (arith, few, counted)) _ c.in_err-composed.ensures.fault.0 c.in_err-composed.ensures.fault.1)

pub loop-pair-preserved : goal.loop-pair-preserved
loop-pair-preserved c =
    let l = c.args.layout in
    let bytes = c.args.bytes.now in
    let i = c.loop-pair.pair in
    let small : AreBytes c.args.bytes.now = λ k. omega (arith, c.type_inv.bytes k) in
    let few = c.count_pairs-pairs.ensures.few in
    let counted = c.count_pairs-pairs.ensures.value in
    let base = c.in_ok-base.ensures.number in
    let composed = c.in_ok-composed.ensures.number in
    let some =
    λ (none : c.in_ok-base.base ≡ 0). c.count_pairs-pairs.ensures.bases i (omega arith) (sym base ∙ none) in
    let pushed = OnOk-at _ _ _ c.unwrap.ensures c.push_pair.ensures.ok in
    let own = ap (λ (a : AccentValue). a.own) pushed in
    let pairs = ap (λ (a : AccentValue). a.pairs) pushed in
    record {
      bytes =
          ap (λ (a : AccentValue). flat_map (number_bytes c.args.layout) (numbers_of a)) pushed
          ∙ pair-read l bytes _ _ i _ _ small c.requires (omega (arith, few)) c.loop-pair.invariant.bytes base composed;
      count = ap length pairs ∙ length_push _ _ ∙ ap (λ (k : ℕ). k + 1) c.loop-pair.invariant.count;
      character = subst IsScalar (sym own) c.loop-pair.invariant.character;
      known =
          All-same IsPair _ _ pairs
          (All-push IsPair _ _ c.loop-pair.invariant.known
          (c.in_ok-base.ensures.known, some, c.in_ok-composed.ensures.known));
      fits =
          subst (AccentFits l) (sym pushed)
          (pair-fits l _ _ _ c.loop-pair.invariant.fits
          (rw base (number-fits l bytes (number_size l * (1 + 2 * i)) small))
          (rw composed (number-fits l bytes (number_size l * (2 + 2 * i)) small)));
      sound =
          passes l bytes (2 + 2 * i) (omega arith)
          (passes l bytes (1 + 2 * i) (omega arith) c.loop-pair.invariant.sound (2 + 2 * i) (omega arith)
          c.in_ok-base.ensures.sound)
          (1 + 2 * (i + 1)) (omega arith) c.in_ok-composed.ensures.sound;
    }

pub returns-in_err-check_zeros-clause-fault : goal.returns-in_err-check_zeros-clause-fault
returns-in_err-check_zeros-clause-fault c =
    let l = c.args.layout in
    let bytes = c.args.bytes.now in
    let n = c.count_pairs-pairs.result in
    let last : c.loop-pair.pair ≡ n = omega arith in
    let place = ap (λ (k : ℕ). k * (1 + 2 * n)) c.number.ensures in
    let counted = ap (λ (k : ℕ). number_size c.args.layout * (1 + 2 * k)) c.count_pairs-pairs.ensures.value in
    let so_far =
    upto (accent_fault l bytes) (number_size l) _ (1 + 2 * n) (ap (λ (k : ℕ). 1 + 2 * k) last)
    c.loop-pair.invariant.sound in
    err_passed _ _ _ c.from_residual-in_err-check_zeros.ensures.1 (
      first-past NotEmpty (accent_fault l bytes) bytes _ (accent_size l) _
          (λ p past inside. row-past (λ k. number_fault (number_width l) char_fault) (number_size l)
          (1 + 2 * pairs_in l bytes) (zero_fault NotEmpty bytes) bytes p (some-number l)
          (omega (arith, past, place, counted)))
          (λ p below. so_far p (omega (arith, below, place))) (omega arith) c.in_err-check_zeros.ensures.first,
      omega (arith, c.in_err-check_zeros.ensures.first.inside),
    )

pub returns-clause-image : goal.returns-clause-image
returns-clause-image c =
    let l = c.args.layout in
    let bytes = c.args.bytes.now in
    let n = c.count_pairs-pairs.result in
    let last : c.loop-pair.pair ≡ n = omega arith in
    let place = ap (λ (k : ℕ). k * (1 + 2 * n)) c.number.ensures in
    rows-whole (number_bytes l) (number_size l) 105 (1 + 2 * n) bytes (numbers_of c.loop-pair.accent)
    (omega (arith, length-numbers c.loop-pair.accent, c.loop-pair.invariant.count)) c.requires
    (c.loop-pair.invariant.bytes ∙ ap (λ (i : ℕ). take (number_size c.args.layout * (1 + 2 * i)) c.args.bytes.now) last)
    (drop-zeros bytes (number_size l * (1 + 2 * n))
    (λ p past. c.in_ok-check_zeros.ensures.none p (omega (arith, past, place))))

pub returns-clause-known : goal.returns-clause-known
returns-clause-known c = search rules

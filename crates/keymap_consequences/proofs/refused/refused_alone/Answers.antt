use Rattle.keymap_consequences.proofs.Common.{◌≡◌, ◌∙◌, arith, subst, sym}
use Rattle.keymap_consequences.proofs.Listing.{stand-all, stand-none, stand-push, stand-skip}
use Rattle.keymap_consequences.proofs.Refusals.{found-finding, unsafe-alone, unsafe-both}
use Rattle.keymap_consequences.specs.Consequences.{IsRefused, IsUnsafeAlone}
use Rattle.keymap_consequences.specs.declared.refused.Refused.{Refused}
use Rattle.keymap_consequences.proofs.refused.refused_alone.Goals.{in-Some+in_ok-push, in_default}
use Rattle.keymap_consequences.proofs.refused.refused_alone.Goals as goal

pub loop-key-init : goal.loop-key-init
loop-key-init c = λ m are. rw (c.new-refused.ensures.items) (stand-none _ _ _)

pub named-requires : goal.named-requires
named-requires c =
    found-finding c.args.map.now c.args.findings.now c.in-Some.finding c.requires c.in-Some.ensures.0

pub loop-key-preserved : goal.loop-key-preserved
loop-key-preserved c = elim c.match-finding_alone.branch [
  | in-Some+in_ok-push w ↦
      rw (w.refused-is, w.in_ok-push.ensures.items)
      (λ m others.
      let n = c.args.map.now in
      let f = w.in-Some.finding in
      let (has, key, none) = w.in-Some.ensures in
      let alone : IsUnsafeAlone m n f.key =
      unsafe-alone m n c.args.findings.now c.args.others.now f others c.requires has
      (λ g there same. none g there (same ∙ key)) in
      stand-push (λ (r : Refused). r.key) (λ r. IsRefused n r × IsUnsafeAlone m n r.key) (IsUnsafeAlone m n)
      c.loop-key.key c.loop-key.refused.items w.named.result (c.loop-key.invariant m others)
      (w.named.ensures.key ∙ key)
      (w.named.ensures.named, subst (IsUnsafeAlone m n) (sym w.named.ensures.key) alone))
  | in_default w ↦
      rw w.refused-is
      (λ m others.
      let n = c.args.map.now in
      stand-skip (λ (r : Refused). r.key) (λ r. IsRefused n r × IsUnsafeAlone m n r.key) (IsUnsafeAlone m n)
      c.loop-key.key c.loop-key.refused.items (c.loop-key.invariant m others)
      (unsafe-both m n c.args.findings.now c.args.others.now c.loop-key.key others c.requires w.in_default.ensures))
]

pub returns : goal.returns
returns c = λ m others.
    let n = c.args.map.now in
    stand-all (λ (r : Refused). r.key) (λ r. IsRefused n r × IsUnsafeAlone m n r.key) (IsUnsafeAlone m n)
    c.loop-key.key c.loop-key.refused.items (c.loop-key.invariant m others)
    (λ i wanted. let lt = wanted.0 in omega (arith, lt, c.loop-key-test.false))

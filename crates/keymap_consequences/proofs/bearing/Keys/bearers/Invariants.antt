-- the bearers below this key are listed
use Rattle.keymap_consequences.proofs.Holders.{IsHolder}
use Rattle.keymap_consequences.proofs.Listing.{StandBelow}
use Rattle.keymap_consequences.proofs.bearing.Keys.bearers.Given as goal

abbrev pub invariant-loop-code : goal.invariant-loop-code
invariant-loop-code l =
    StandBelow (λ k. k) (IsHolder l.self.map.now l.holding) (IsHolder l.self.map.now l.holding) l.code l.keys.items

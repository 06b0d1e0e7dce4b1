-- What is told of each sight is so.
use Rattle.std.proofs.Common.{rules}
use Rattle.std.proofs.Common.{◌≡◌, Bool, true, false, refl, sym, ◌∙◌, if◌then◌else◌}
use Rattle.std.proofs.lemmas.Bool.{true≢false}
use Rattle.console_states.specs.AllowedSights.{AllowedSightsAreReachable, IsReachableUnder}
use Rattle.console_states.specs.Sights.{SeesAlong}
use Rattle.keymap_cover.specs.SeenSights.{has_seen}
use Rattle.keymap_cover.specs.declared.parts.Verdict.TheVariants.{Seen as SeenVerdict, LeftOut, Never}
use Rattle.keyboard_cover.specs.Covering.{IsVerdict, VerdictsAreSo, history}
use Rattle.keyboard_cover.specs.Sights.{under}

pub verdicts_are_so : AllowedSightsAreReachable → VerdictsAreSo
verdicts_are_so reachable p m c covers x = by (has_seen c.script.seen x) refl
  where
    unseen : has_seen c.script.seen x ≡ false → SeesAlong m (history c) x → ⊥
    unseen e along = true≢false (sym ((covers.script.seen x).1 along) ∙ e)

    hidden : has_seen c.sights.can x ≡ false → IsReachableUnder (under p m) x → ⊥
    hidden e can = true≢false (sym ((covers.sights.can x).1 can) ∙ e)

    otherwise : has_seen c.script.seen x ≡ false → (t : Bool) → has_seen c.sights.can x ≡ t
        → IsVerdict p m c x (if t then LeftOut else Never)
    otherwise e true f = (unseen e, (covers.sights.can x).0 f)
    otherwise e false f = search (rules, unseen, hidden)

    by : (t : Bool) → has_seen c.script.seen x ≡ t
        → IsVerdict p m c x (if t then SeenVerdict else (if has_seen c.sights.can x then LeftOut else Never))
    by true e = (covers.script.seen x).0 e
    by false e = otherwise e (has_seen c.sights.can x) refl

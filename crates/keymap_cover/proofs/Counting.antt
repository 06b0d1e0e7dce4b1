-- The verdicts that are counted are those that are told.
use Rattle.std.proofs.Common.{rules}
use Rattle.keymap_cover.proofs.Common.{◌≡◌, Bool, true, false, [], ◌∷◌, refl, sym, ◌∙◌, true≢false, IsTold}
use Rattle.keymap_cover.proofs.Common.{if◌then◌else◌, MapValue, Sight, SeesAlong, IsReachable, has_seen}
use Rattle.std.proofs.lemmas.List.Elements.{All-head, All-tail}
use Rattle.console_states.specs.Returning.{NoTurnIsOneWay}
use Rattle.console_states.specs.Sights.{can_see}
use Rattle.console_states.proofs.Shared.{all-seen, sees-all, sights_are_reachable}
use Rattle.console_scripts.proofs.Shared.{seen_can_be_visited}
use Rattle.keymap_cover.specs.declared.parts.Cover.{Cover}
use Rattle.keymap_cover.specs.declared.parts.Verdict.{Verdict}
use Rattle.keymap_cover.specs.declared.parts.Verdict.TheVariants.{Seen, LeftOut, Never}
use Rattle.keymap_cover.specs.Covering.{Covers, CountsAreOfVerdicts, NothingIsLeftOut, IsVerdict, history, verdict_of}
use Rattle.keymap_cover.specs.Covering.{is_verdict}
use Rattle.keymap_cover.proofs.Scripts.{never-forgets}

pub counts_are_of_verdicts : CountsAreOfVerdicts
counts_are_of_verdicts m c covers x = by (has_seen c.seen x) refl
  where
    unseen : has_seen c.seen x ≡ false → SeesAlong m (history c) x → ⊥
    unseen e along = true≢false (sym (covers.all_seen x along) ∙ e)

    hidden : can_see m c.sights x ≡ false → IsReachable m x → ⊥
    hidden e can = true≢false (sym (all-seen m c.sights covers.sights x can) ∙ e)

    otherwise : has_seen c.seen x ≡ false → (t : Bool) → can_see m c.sights x ≡ t
        → IsVerdict m c x (if t then LeftOut else Never)
    otherwise e true f =
        (unseen e, sees-all m c.sights covers.sights x f, (λ told can. unseen e (covers.complete x told can)))
    otherwise e false f = search (rules, unseen, hidden, sights_are_reachable, never-forgets)

    by : (t : Bool) → has_seen c.seen x ≡ t
        → IsVerdict m c x (if t then Seen else (if can_see m c.sights x then LeftOut else Never))
    by true e = covers.seen x e
    by false e = otherwise e (can_see m c.sights x) refl

-- where all that can be seen can be visited, nothing that is told of is left out
never-left_out : (m : MapValue) (c : Cover) → Covers m c → NoTurnIsOneWay m → (x : Sight) → IsTold m x
    → is_verdict LeftOut (verdict_of m c x) ≡ false
never-left_out m c covers steady x told = by (verdict_of m c x) (counts_are_of_verdicts m c covers x)
  where
    by : (v : Verdict) → IsVerdict m c x v → is_verdict LeftOut v ≡ false
    by Seen is = refl
    by LeftOut (unseen, can, none) = absurd (none told ((seen_can_be_visited m x).1 steady can))
    by Never is = refl

pub nothing_is_left_out : NothingIsLeftOut
nothing_is_left_out m c covers steady [] told = refl
nothing_is_left_out m c covers steady (x ∷ xs) told =
    rw (never-left_out m c covers steady x (All-head (IsTold m) x xs told))
    (nothing_is_left_out m c covers steady xs (All-tail (IsTold m) x xs told))

-- Histories where loads change nothing.
use Rattle.console_core.proofs.Common.{◌≡◌, Bool, true, false, ◌&&◌, List, [], ◌∷◌, refl, ap, subst, sym, ◌∙◌}
use Rattle.console_core.proofs.Common.{if◌then◌else◌, true≢false, All-head, All-tail, Lock, Event, Press}
use Rattle.console_core.proofs.Common.{Release, Reset, Load, MapValue, count_where, count_since, is_odd, is_borne}
use Rattle.console_core.proofs.Common.{ResolvedEvent, resolve, locked, answer_resolved, Maps, between}
use Rattle.console_core.proofs.Common.{in_force, is_second_in_force, resolved, resolved_event, answer_to}
use Rattle.console_core.proofs.Common.{answers_to, HasKey, HasKeys, IsNoLoad, HasNoLoads, WasReset, WasLoaded, turns_at}
use Rattle.console_core.proofs.Common.{unlocks_at, rules}
use Rattle.std.proofs.lemmas.List.Elements.{All-cons}
use Rattle.console_core.specs.Loads.{WithoutLoads, LoadsOfOneMapAreResets, as_reset, loads_as_resets}
use Rattle.console_core.proofs.OneMore.{one_map, resolved-start, resolved-more, held-reset, held-load, locked-reset}
use Rattle.console_core.proofs.OneMore.{locked-load, remembered-reset, remembered-load, pending-reset, pending-load}
use Rattle.console_core.proofs.Borne.{AllLooked, locked-borne, resolved-looked}
use Rattle.console_core.proofs.FreshPresses.{no_loads-first}
use Rattle.console_core.proofs.Alike.{Same, same-resolve, same-step, same-answer_resolved, resolve-key}
use Rattle.console_core.proofs.Readings.{locked-count}
use Rattle.keymap_core.specs.declared.action.Holding.TheVariants as holding

-- without loads
pub first_in_force : (ms : Maps) (h : List Event) → HasNoLoads h → in_force ms h ≡ ms.first
first_in_force ms h none = ap (λ b. if b then ms.second else ms.first) (no_loads-first h none)

-- an event that is no load is resolved in the first map alone
same_event : (ms : Maps) (e : Event) (h : List Event) → IsNoLoad e → in_force ms h ≡ ms.first
    → in_force (between ms.first ms.first) h ≡ ms.first → resolved ms h ≡ resolved (between ms.first ms.first) h
    → resolved_event ms h e ≡ resolved_event (between ms.first ms.first) h e
same_event ms (Press k) h no_load f g same = rw (f, g, same) refl
same_event ms (Release k) h no_load f g same = refl
same_event ms Reset h no_load f g same = refl
same_event ms Load h no_load f g same = absurd (true≢false no_load)

-- without loads the events are resolved in the first map alone
resolved_first : (ms : Maps) (h : List Event) → HasNoLoads h → resolved ms h ≡ resolved (between ms.first ms.first) h
resolved_first ms [] none = resolved-start ms ∙ sym (resolved-start (between ms.first ms.first))
resolved_first ms (e ∷ h) none =
    let rest : HasNoLoads h = All-tail IsNoLoad e h none in
    let same : resolved ms h ≡ resolved (between ms.first ms.first) h = resolved_first ms h rest in
    resolved-more ms h e
    ∙ ap (λ x. x ∷ resolved ms h)
    (same_event ms e h (All-head IsNoLoad e h none) (first_in_force ms h rest)
    (first_in_force (between ms.first ms.first) h rest) same)
    ∙ ap (λ r. resolved_event (between ms.first ms.first) h e ∷ r) same
    ∙ sym (resolved-more (between ms.first ms.first) h e)

-- only a load unlocks
never_unlocks : (ms : Maps) (l : Lock) (e : Event) (h : List Event) → IsNoLoad e → unlocks_at ms l e h ≡ false
never_unlocks ms l (Press k) h no_load = refl
never_unlocks ms l (Release k) h no_load = refl
never_unlocks ms l Reset h no_load = refl
never_unlocks ms l Load h no_load = absurd (true≢false no_load)

-- without loads all turns of a lock count
all_turns : (ms : Maps) (l : Lock) (h : List Event) → HasNoLoads h
    → count_since (unlocks_at ms l) (turns_at ms l) h ≡ count_where (turns_at ms l) h
all_turns ms l [] none = refl
all_turns ms l (e ∷ h) none =
    rw (never_unlocks ms l e h (All-head IsNoLoad e h none), all_turns ms l h (All-tail IsNoLoad e h none)) refl

-- without loads a lock is on after an odd number of turns, and the first map is in force
pub without_loads : WithoutLoads
without_loads ms h none =
    (first_in_force ms h none, resolved_first ms h none, (λ l. locked-count ms l h ∙ ap is_odd (all_turns ms l h none)))

-- between two maps that are the same, that map is in force
pub one_in_force : (m : MapValue) (h : List Event) → in_force (between m m) h ≡ m
one_in_force m h = one_map m (is_second_in_force h)

-- a lock that is on is borne
unborne : (b x : Bool) → (x ≡ true → b ≡ true) → (b && x) ≡ x
unborne true x f = refl
unborne false true f = f refl
unborne false false f = refl

-- an event between two maps that are the same is resolved in that map
under_one : (m : MapValue) (h : List Event) (e : Event)
    → resolved_event (between m m) h e ≡ resolve m m (resolved (between m m) h) e
under_one m h e = cc (one_in_force m h, one_in_force m (Load ∷ h))

-- a further event, resolved in the one map
more_under_one : (m : MapValue) (h : List Event) (e : Event)
    → resolved (between m m) (e ∷ h) ≡ resolve m m (resolved (between m m) h) e ∷ resolved (between m m) h
more_under_one m h e = resolved-more (between m m) h e ∙ ap (λ x. x ∷ resolved (between m m) h) (under_one m h e)

-- all presses look up cells of their keys in the one map
looked_under_one : (m : MapValue) (h : List Event) → HasKeys h → AllLooked m (resolved (between m m) h)
looked_under_one m h keys = search (rules, one_in_force, resolved-looked)

-- a load of the same map leaves what a reset leaves
load_as_reset : (m : MapValue) (r s : List ResolvedEvent) → AllLooked m r → Same m r s
    → Same m (WasLoaded m ∷ r) (WasReset ∷ s)
load_as_reset m r s all same = record {
  held = λ a. held-load a m r ∙ sym (held-reset a s);
  locked =
      λ l. locked-load l m r ∙ unborne (is_borne m (holding.Lock l)) (locked l r) (locked-borne m l r all)
      ∙ same.locked l ∙ sym (locked-reset l s);
  remembered = λ k lt. remembered-load k m r ∙ sym (remembered-reset k s);
  pending = pending-load m m r ∙ sym (pending-reset m s);
}

-- a further event, where loads count as resets
same_as_reset : (m : MapValue) (e : Event) (r s : List ResolvedEvent) → HasKey e → AllLooked m r → Same m r s
    → Same m (resolve m m r e ∷ r) (resolve m m s (as_reset e) ∷ s)
same_as_reset m (Press k) r s key all same =
    subst (λ x. Same m (resolve m m r (Press k) ∷ r) (x ∷ s)) (same-resolve m m r s (Press k) same)
    (same-step m r s (resolve m m r (Press k)) (resolve-key m m r (Press k) key) same)
same_as_reset m (Release k) r s key all same =
    same-step m r s (resolve m m r (Release k)) (resolve-key m m r (Release k) key) same
same_as_reset m Reset r s key all same = same-step m r s WasReset tt same
same_as_reset m Load r s key all same = load_as_reset m r s all same

-- events between two maps that are the same leave what they leave with loads as resets
same_resets : (m : MapValue) (h : List Event) → HasKeys h
    → Same m (resolved (between m m) h) (resolved (between m m) (loads_as_resets h))
same_resets m [] keys = record { held = λ a. refl; locked = λ l. refl; remembered = λ k lt. refl; pending = refl }
same_resets m (e ∷ h) keys =
    let rest : HasKeys h = All-tail HasKey e h keys in
    rw (more_under_one m h e, more_under_one m (loads_as_resets h) (as_reset e))
    (same_as_reset m e (resolved (between m m) h) (resolved (between m m) (loads_as_resets h))
    (All-head HasKey e h keys) (looked_under_one m h rest) (same_resets m h rest))

-- the answer to an event in the one map
answer_under_one : (m : MapValue) (h : List Event) (e : Event)
    → answer_to (between m m) h e
    ≡ answer_resolved m (resolve m m (resolved (between m m) h) e) (resolved (between m m) h)
answer_under_one m h e = cc (one_in_force m h, under_one m h e)

-- the answer to an event, where loads count as resets
answer_as_reset : (m : MapValue) (e : Event) (r s : List ResolvedEvent) → HasKey e → Same m r s
    → answer_resolved m (resolve m m r e) r ≡ answer_resolved m (resolve m m s (as_reset e)) s
answer_as_reset m (Press k) r s key same =
    same-answer_resolved m r s (resolve m m r (Press k)) (resolve-key m m r (Press k) key) same
    ∙ ap (λ x. answer_resolved m x s) (same-resolve m m r s (Press k) same)
answer_as_reset m (Release k) r s key same =
    same-answer_resolved m r s (resolve m m r (Release k)) (resolve-key m m r (Release k) key) same
answer_as_reset m Reset r s key same = refl
answer_as_reset m Load r s key same = refl

-- the answers to events, where loads count as resets
answers_as_resets : (m : MapValue) (h later : List Event) → HasKeys h → HasKeys later
    → answers_to (between m m) h later ≡ answers_to (between m m) (loads_as_resets h) (loads_as_resets later)
answers_as_resets m h [] keys later_keys = refl
answers_as_resets m h (e ∷ later) keys later_keys =
    let key : HasKey e = All-head HasKey e later later_keys in
    let first : answer_to (between m m) h e ≡ answer_to (between m m) (loads_as_resets h) (as_reset e) =
    answer_under_one m h e
    ∙ answer_as_reset m e (resolved (between m m) h) (resolved (between m m) (loads_as_resets h)) key
    (same_resets m h keys)
    ∙ sym (answer_under_one m (loads_as_resets h) (as_reset e)) in
    rw (first, answers_as_resets m (e ∷ h) later (All-cons HasKey e h key keys) (All-tail HasKey e later later_keys))
    refl

-- loads between two maps that are the same are resets
pub loads_of_one_map : LoadsOfOneMapAreResets
loads_of_one_map m h keys =
    let same : Same m (resolved (between m m) h) (resolved (between m m) (loads_as_resets h)) =
    same_resets m h keys in (
      (λ i. same.held (holding.Mod i)),
      same.locked,
      cc (one_in_force m h, same.pending, one_in_force m (loads_as_resets h)),
      (λ later later_keys. answers_as_resets m h later keys later_keys),
    )

-- What writing a part of what a console keeps leaves, and what each kind of event leaves. Mirrors the methods of
-- `Store` of src/store.rt, `next_pending` and `pending_after_dead_key` of src/rules.rt, and the steps of
-- src/machine.rt.
use Rattle.std.specs.Prelude.{ℕ, ◌==◌, Bool, false, not, Option, None, Some, ◌&&◌, ◌||◌, if◌then◌else◌}
use Rattle.std.specs.Option.{option_or}
use Rattle.console_core.specs.Types.{Action, Holding, Lock}
use Rattle.keymap_core.specs.declared.action.Holding.TheVariants as holding
use Rattle.keymap_core.specs.Actions.{same_lock, same_action, holding_index, holding_action}
use Rattle.keymap_core.specs.Borne.{is_borne}
use Rattle.keymap_core.specs.Maps.{MapValue}
use Rattle.console_core.specs.Agrees.{Kept}
use Rattle.console_core.specs.Answers.{is_pending}
use Rattle.console_core.specs.Resolved.{unless_nop, taken_over, is_this_action, keeps_taken, usable_dead_key}

abbrev pub with_mark : Holding → Bool → Kept → Kept
with_mark a on k = record k { mark = λ b. if holding_index a == holding_index b then on else k.mark b }

abbrev pub with_turned : Lock → Kept → Kept
with_turned l k = record k { lock = λ m. if same_lock l m then not (k.lock m) else k.lock m }

abbrev pub with_memory : ℕ → Option Action → Kept → Kept
with_memory key action k = record k { memory = λ j. if key == j then action else k.memory j }

abbrev pub with_pending : Option ℕ → Kept → Kept
with_pending index k = record k { pending = index }

-- what a reset leaves: the locks, and which map is in force
abbrev pub after_reset : Kept → Kept
after_reset k = record k {
  mark = λ a. false;
  memory = λ j. None;
  pending = None;
}

-- the other map is in force
abbrev pub exchanged : Kept → Kept
exchanged k = record k { is_second = not k.is_second }

-- the action is remembered for the key, where none was and it isn't nop
abbrev pub with_offered : ℕ → Action → Kept → Kept
with_offered key action k =
    record k { memory = λ j. option_or (k.memory j) (if key == j then unless_nop action else None) }

-- the lock that the action is, if it is one, is turned where it isn't down
abbrev pub with_lock_taken : Action → Kept → Kept
with_lock_taken taken k = record k {
  lock = λ l. if same_action taken (holding_action (holding.Lock l)) && not (k.mark (holding.Lock l)) then not
      (k.lock l)
      else k.lock l;
}

-- the holding action that the action is, if it is one, is marked
abbrev pub with_taken : Action → Kept → Kept
with_taken taken k = record k { mark = λ a. same_action taken (holding_action a) || k.mark a }

-- the holding action that the action is, if it is one, isn't marked
abbrev pub with_released : Action → Kept → Kept
with_released released k = record k { mark = λ a. k.mark a && not (same_action released (holding_action a)) }

-- what is pending after a press that takes the action, by what was before
abbrev pub pending_after_dead_key : Option ℕ → Option ℕ → Option ℕ
pending_after_dead_key None p = None
pending_after_dead_key (Some i) p = if is_pending i p then None else Some i

abbrev pub next_pending : MapValue → Option ℕ → Action → Option ℕ
next_pending m p a = if keeps_taken a then p else pending_after_dead_key (usable_dead_key m a) p

-- what a press of the key leaves, where its look is a character
abbrev pub after_character : ℕ → Kept → Kept
after_character key k = with_pending None (with_memory key None k)

-- what a press of the key leaves, where its look is the action
abbrev pub after_taken : MapValue → ℕ → Action → Action → Kept → Kept
after_taken m key action taken k =
    with_taken taken (with_lock_taken taken (with_pending (next_pending m k.pending taken) (with_offered key action k)))

abbrev pub after_action : MapValue → ℕ → Action → Kept → Kept
after_action m key action k = after_taken m key action (taken_over (k.memory key) action) k

-- what a release of the key leaves
abbrev pub after_release : ℕ → Kept → Kept
after_release key k = record (with_memory key None k) {
  mark = λ a. k.mark a && not (is_this_action (k.memory key) (holding_action a));
}

-- the lock is off where no key of the map bears it
abbrev pub with_lock_borne : MapValue → Lock → Kept → Kept
with_lock_borne m l k =
    record k { lock = λ i. if same_lock l i then is_borne m (holding.Lock l) && k.lock i else k.lock i }

-- what a load of the map leaves
abbrev pub after_load : MapValue → Kept → Kept
after_load m k = record (exchanged (after_reset k)) { lock = λ l. is_borne m (holding.Lock l) && k.lock l }

-- The codes of actions.
use Rattle.std.proofs.Common.{arith, ◌<◌}
use Rattle.keymap_core.specs.Actions.{IsAction, code_of}
use Rattle.keymap_core.specs.declared.action.Action.{Action}
use Rattle.keymap_core.specs.declared.action.Action.TheVariants as act
use Rattle.keymap_core.specs.declared.action.Lock.TheVariants as lock
use Rattle.keymap_core.specs.declared.action.Modifier.TheVariants as modifier

pub code-small : (b : Action) → IsAction b → code_of b < 256
code-small (act.Screen n) is = omega (arith, is.1)
code-small (act.Function n) is = omega (arith, is.1)
code-small (act.DeadKey n) is = omega (arith, is)
code-small (act.Mod modifier.LeftShift) is = omega arith
code-small (act.Mod modifier.RightShift) is = omega arith
code-small (act.Mod modifier.LeftControl) is = omega arith
code-small (act.Mod modifier.RightControl) is = omega arith
code-small (act.Mod modifier.LeftAlt) is = omega arith
code-small (act.Mod modifier.RightAlt) is = omega arith
code-small (act.Mod modifier.AltShift) is = omega arith
code-small (act.Mod modifier.Meta) is = omega arith
code-small (act.Lock lock.Caps) is = omega arith
code-small (act.Lock lock.Num) is = omega arith
code-small (act.Lock lock.Scroll) is = omega arith
code-small (act.Lock lock.Alt) is = omega arith
code-small _ is = omega arith

-- When what a packed console keeps is what a list of events leaves.
use Rattle.std.specs.Prelude.{List}
use Rattle.console_core.specs.Types.{Event}
use Rattle.console_core.specs.declared.word_store.WordStore.{WordStore}
use Rattle.console_core.specs.Agrees.{StandsAt}
use Rattle.console_core.specs.History.{Maps}
use Rattle.console_core.specs.PackedWord.{kept_in_word}

abbrev pub KeptAt : Maps → List Event → WordStore → Type 0
KeptAt ms h s = StandsAt ms h (kept_in_word s.word s.codes)

-- What the run that prints it wrote to test a console is a script of its events, and what it does when it is played.
use Rattle.kmap_runs.proofs.Common.{◌≡◌, ℕ, List, [], Option, Some, Ok, sym, subst, ◌∙◌, MapValue, Spells, IsScript}
use Rattle.kmap_runs.proofs.Common.{Plays, moves, one_list}
use Rattle.play_core.specs.declared.show.Show.{Show}
use Rattle.script_text.proofs.Shared.{cover-sends, shows-cover}
use Rattle.script_text.specs.Replayed.{ShowsCover, events_sent}
use Rattle.kmap_runs.specs.Replayed.{PlaysCover}
use Rattle.kmap_runs.specs.Runs.{CoversText, IsCovered}
use Rattle.kmap_runs.proofs.Replayed.{taken-whole, same-map}

pub covers-shown : (m : MapValue) (script : List ℕ) → IsCovered m tt script → ShowsCover m script
covers-shown m script (c, covers, e) = shows-cover m c script covers e

pub covers-played : (show : Show) (text script told : List ℕ) (t u v : Option (List ℕ))
    → CoversText (moves (Some text) t) (moves (Some []) (Some script)) (Ok tt)
    → Plays show (moves (Some text) u) (moves (Some script) v) (moves (Some []) (Some told)) (Ok tt)
    → PlaysCover show text told
covers-played show text script told t u v (m, printed, read, (c, covers, e), appends)
    ((n, bytes), played, (read_again, taken), (sent, is_script, same_shown), appended) =
    let text_is : bytes ≡ printed = sym (taken-whole script bytes v taken) ∙ appends in
    let same : m ≡ n = same-map text t u m n read read_again in
    let sent_are : sent ≡ events_sent c =
    one_list printed sent (events_sent c) (subst (λ x. IsScript x sent) text_is is_script)
    (cover-sends m c printed e covers.keys) in (
      m,
      c,
      subst (λ x. Spells x m) (sym (taken-whole text read.0 t read.1)) read.2,
      covers,
      cc (appended, same_shown, same, sent_are),
    )

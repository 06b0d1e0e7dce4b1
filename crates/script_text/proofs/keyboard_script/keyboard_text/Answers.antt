use Rattle.script_text.proofs.Common.{subst}
use Rattle.script_text.specs.Keyboard.{AddsSeen}
use Rattle.script_text.proofs.keyboard_script.keyboard_text.Goals as goal

pub returns : goal.returns
returns c =
    let comments = c.push_seen.new.text.items in
    let head = rw (c.new-text.ensures.items, c.as_slice.ensures.value) at c.in_ok-push_said.ensures in
    record {
      told = c.in_ok-told.told.items;
      comments = comments;
      adds_seen =
          subst (λ old. AddsSeen c.args.map.now c.args.cover.now old comments) head c.in_ok-push_seen.ensures;
      titles = c.in_ok-sending.sending.titles.items;
      events = c.sent_events-events.result.now;
      whole = c.sent_events-events.ensures;
      spelled = rw c.as_slice-2.ensures.value at c.in_ok-push_titled.ensures;
    }

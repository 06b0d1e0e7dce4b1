use Rattle.script_text.proofs.cover.settings.Goals as goal

pub returns : goal.returns
returns c =
    let a = rw (c.new-text.ensures.items, c.setting.ensures) at c.in_ok-extend_from_slice.ensures.items in
    let b = rw (a, c.setting-2.ensures) at c.in_ok-extend_from_slice-2.ensures.items in
    let d = rw (b, c.setting-3.ensures) at c.in_ok-extend_from_slice-3.ensures.items in
    rw (d, c.setting-4.ensures) at c.in_ok-extend_from_slice-4.ensures.items

-- `hour::record` meets its contract: a record's part in the hourly layout.
use mathlib.Core.Path.{◌∙◌, ap}
use Rattle.rules.specs.declared.Layout.{Layout}
use Rattle.rules.proofs.Layouts.{hourly_fits}
use Rattle.blocks.specs.Part.{record_part}
use Rattle.hour.proofs.record.Goals as goal

pub record-requires : goal.record-requires
record-requires c = rw c.hourly.ensures (hourly_fits, c.requires)

pub returns : goal.returns
returns c =
    let called = c in
    let at = called.args in
    c.record.ensures ∙ ap (λ (l : Layout). record_part l at.file.now at.i) called.hourly.ensures

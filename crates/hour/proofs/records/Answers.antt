-- `hour::records` meets its contract: the count in the hourly layout.
use mathlib.Core.Path.{sym, ◌∙◌, ap}
use Rattle.rules.specs.declared.Layout.{Layout}
use Rattle.rules.specs.HourFile.{hourly, record_count}
use Rattle.rules.proofs.Layouts.{hourly_fits}
use Rattle.rules.proofs.Words.{record_count_lem}
use Rattle.hour.proofs.records.Goals as goal

pub records-requires : goal.records-requires
records-requires c = rw c.hourly.ensures hourly_fits

pub returns : goal.returns
returns c =
    let called = c in
    let s = called.args.file.now in
    c.records.ensures ∙ ap (λ (l : Layout). record_count l s) called.hourly.ensures ∙ sym (record_count_lem hourly s)

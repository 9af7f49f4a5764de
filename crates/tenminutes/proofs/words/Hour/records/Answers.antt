-- `tenminutes::words::Hour::records` meets its contract: the count in the layout of ten-minute files.
use mathlib.Core.Path.{sym, ◌∙◌, ap}
use Rattle.rules.specs.declared.Layout.{Layout}
use Rattle.rules.specs.HourFile.{ten_minutes, record_count}
use Rattle.rules.proofs.Words.{record_count_lem}
use Rattle.tenminutes.proofs.words.Hour.records.Goals as goal

pub returns : goal.returns
returns c =
    let s = c.args.self.now.file.now in
    c.records.ensures ∙ ap (λ (l : Layout). record_count l s) c.ten_minutes.ensures ∙ sym (record_count_lem ten_minutes s)

-- `tenminutes::words::Hour::record` meets its contract: a record's part in the layout of ten-minute files.
use Rattle.rules.proofs.Layouts.{ten_minutes_fits}
use Rattle.tenminutes.proofs.Inside.{record_inside}
use Rattle.tenminutes.proofs.words.Hour.record.Goals as goal

pub record-requires : goal.record-requires
record-requires c = rw c.ten_minutes.ensures (ten_minutes_fits, record_inside c.args.self.now.kept c.requires)

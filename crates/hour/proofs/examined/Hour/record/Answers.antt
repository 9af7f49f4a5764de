-- `Hour::record` meets its contract: a record of an hour that keeps its ranges lies whole.
use Rattle.hour.proofs.Inside.{record_inside, record_length}
use Rattle.hour.proofs.examined.Hour.record.Goals as goal

pub record-requires : goal.record-requires
record-requires c = record_inside c.args.self.now.kept c.requires

pub invariant_of-result : goal.invariant_of-result
invariant_of-result c = record { is_whole = record_length c.args.self.now.kept c.requires c.record.ensures }

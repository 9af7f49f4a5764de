use Rattle.std.proofs.Common.{sym, ◌∙◌}
use Rattle.rules.proofs.Words.{record_count_lem}
use Rattle.examine.proofs.words.FileHourHourWords.count.Goals as goal

pub records-requires : goal.records-requires
records-requires g c = rw c.layout.ensures g.met.F.Form.laws.fits

pub returns : goal.returns
returns g c = c.records.ensures ∙ rw c.layout.ensures (sym (record_count_lem _ _))

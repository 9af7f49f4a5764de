use Rattle.examine.proofs.Cut.{block_there, record_length, record_says}
use Rattle.examine.proofs.words.FileHourHourWords.record.Goals as goal

pub record-requires : goal.record-requires
record-requires g c = let fit = g.met.F.Form.laws.fits in
    rw c.layout.ensures (fit, block_there c.args.self.now.whole fit c.args.i c.requires)

pub returns-clause-whole : goal.returns-clause-whole
returns-clause-whole g c =
    rw (c.record.ensures, c.layout.ensures) (record_length c.args.self.now.whole g.met.F.Form.laws.fits c.args.i c.requires)

pub returns-clause-says : goal.returns-clause-says
returns-clause-says g c =
    rw (c.record.ensures, c.layout.ensures) (record_says c.args.self.now.whole g.met.F.Form.laws.fits c.args.i c.requires)

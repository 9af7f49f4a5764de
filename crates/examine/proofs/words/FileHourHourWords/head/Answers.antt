use Rattle.examine.proofs.Cut.{head_length, head_says}
use Rattle.examine.proofs.words.FileHourHourWords.head.Goals as goal

pub returns-clause-whole : goal.returns-clause-whole
returns-clause-whole g c = rw (c.body.ensures, c.layout.ensures) (head_length c.args.self.now.whole)

pub returns-clause-says : goal.returns-clause-says
returns-clause-says g c = rw (c.body.ensures, c.layout.ensures) (head_says c.args.self.now.whole)

-- `examine::words::ListHour::record` meets its contract: a record that the list counts ends inside it.
use Rattle.std.proofs.Common.{ap, rules}
use Rattle.rules.specs.declared.Layout.{Layout}
use Rattle.examine.proofs.Cut.{ends_inside, list_length, list_says}
use Rattle.examine.proofs.words.ListHourHourWords.record.Goals as goal

pub overflow_mul-from : goal.overflow_mul-from
overflow_mul-from g c =
    let there = ends_inside g.met.F.Form.laws.fits c.args.self.now.head.now c.args.self.now.records.now (ap (λ (l : Layout). l.words) c.layout-size.ensures) c.requires in
    search rules

pub overflow_add-to : goal.overflow_add-to
overflow_add-to g c =
    let there = ends_inside g.met.F.Form.laws.fits c.args.self.now.head.now c.args.self.now.records.now (ap (λ (l : Layout). l.words) c.layout-size.ensures) c.requires in
    search rules

pub offset_bounds-self-from : goal.offset_bounds-self-from
offset_bounds-self-from g c =
    let there = ends_inside g.met.F.Form.laws.fits c.args.self.now.head.now c.args.self.now.records.now (ap (λ (l : Layout). l.words) c.layout-size.ensures) c.requires in
    search rules

pub slice_bounds-result-end : goal.slice_bounds-result-end
slice_bounds-result-end g c =
    let there = ends_inside g.met.F.Form.laws.fits c.args.self.now.head.now c.args.self.now.records.now (ap (λ (l : Layout). l.words) c.layout-size.ensures) c.requires in
    search rules

pub returns-clause-whole : goal.returns-clause-whole
returns-clause-whole g c =
    list_length g.met.F.Form.laws.fits c.args.self.now.head.now c.args.self.now.records.now (ap (λ (l : Layout). l.words) c.layout-size.ensures) c.requires

pub returns-clause-says : goal.returns-clause-says
returns-clause-says g c =
    list_says g.met.F.Form.laws.fits c.args.self.now.head.now c.args.self.now.records.now (ap (λ (l : Layout). l.words) c.layout-size.ensures) c.requires

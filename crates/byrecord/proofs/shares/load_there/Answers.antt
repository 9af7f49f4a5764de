-- `byrecord::shares::load_there` meets its contract: the kind is asked where the area is the one asked for.
use mathlib.Core.Path.{sym, ◌∙◌, ap}
use borrow.Author.Tests.{eq-eqb, ne_eqb}
use Rattle.rules.specs.Record.{is_load}
use Rattle.rules.specs.Ufe.{in_area}
use Rattle.hour.proofs.Rows.{PartOf, part_area, part_kind}
use Rattle.byrecord.proofs.shares.load_there.Goals as goal
use Rattle.byrecord.proofs.shares.load_there.Goals.{After-record-record}

own : (c : goal.After-record-record) → PartOf c.args.hour.now.file.now c.args.i c.record-record.result.words.now
own c = record { kept = c.args.hour.now.kept; there = c.requires; part = c.record-record.ensures }

-- the area is the one asked for
pub returns-then-area-a : goal.returns-then-area-a
unfolding in_area
returns-then-area-a c =
    let part = own (goal.at.returns-then-area-a c).After-record-record in
    rw (eq-eqb _ _ (sym (c.area.ensures ∙ part_area part) ∙ c.if-area-a.true))
    (c.is_load.ensures ∙ ap is_load (c.kind.ensures ∙ part_kind part))

-- it is another
pub returns-else-area-a : goal.returns-else-area-a
unfolding in_area
returns-else-area-a c =
    let part = own (goal.at.returns-else-area-a c).After-record-record in
    rw (ne_eqb _ _ (λ e. c.if-area-a.false (c.area.ensures ∙ part_area part ∙ e)), ne_eqb _ _ c.if-area-a.false)

-- Line 1 with the file's own numbers, and the members' lines after it.
use native.Mathlib.Omega.{arith}
use Rattle.rules.specs.Record.{hour_number, members}
use Rattle.rules.specs.Statement.{first_line, sheet_of}
use Rattle.rules.specs.HourFile.{hourly, hour_in}
use Rattle.rules.proofs.Stated.{hour_number_most, first_line_most}
use Rattle.printing.specs.Page.{Adds}
use Rattle.printing.proofs.Pages.{adds_on, adds_as, adds_short, adds_within}
use Rattle.report.proofs.Settled.{charges_bounded, finals_bounded, lines_are}
use Rattle.report.proofs.statement.put_accepted.Goals as goal
use Rattle.report.proofs.statement.put_accepted.Goals.{After-put_first_line}

-- the numbers that were read are the hour's
line-1 : (c : goal.After-put_first_line) → let h = hour_in c.args.file.now in
    Adds c.args.page.now c.put_first_line.new.page 39 (first_line (hour_number h) (members h) h.count)
line-1 c =
    let h = hour_in c.args.file.now in
    let kept = c.requires.0.kept.hour_kept in
    let most = first_line_most h 2 (omega (arith, kept.members_most)) (omega (arith, kept.count_most))
    (hour_number_most hourly c.args.file.now (λ i. (c.type_inv.file i).fits)) in
    adds_short {m = 84} 39 (omega (arith, most)) (rw (← c.head_word-hour.ensures, ← c.head_word-members.ensures, ← c.records-records.ensures) c.put_first_line.ensures)

pub put_members-requires : goal.put_members-requires
put_members-requires c =
    let line = line-1 (goal.at.put_members-requires c).After-put_first_line in
    let all = c.head_word-members.ensures in (
      charges_bounded c.requires.0 all,
      finals_bounded c.requires.0 all,
      omega (arith, line.within, line.room, all, c.requires.0.kept.hour_kept.members_most, c.requires.1),
    )

pub returns : goal.returns
unfolding sheet_of
returns c =
    let line = line-1 (goal.at.returns c).After-put_first_line in
    let all = c.head_word-members.ensures in
    adds_within _ (omega (arith, all, c.requires.0.kept.hour_kept.members_most)) (adds_on line (adds_as (lines_are c.requires.0 all) c.put_members.ensures))

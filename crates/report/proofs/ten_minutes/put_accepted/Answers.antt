-- Line 1 with the file's own numbers, and the members' lines after it.
use mathlib.Core.Path.{◌≡◌, sym, ◌∙◌, ap}
use native.Mathlib.Omega.{arith}
use Rattle.rules.specs.declared.Layout.{Layout}
use Rattle.rules.specs.Record.{hour_number, members}
use Rattle.rules.specs.HourFile.{ten_minutes, record_count}
use Rattle.rules.specs.TenMinutes.{ten_minutes_in}
use Rattle.rules.specs.Statement.{first_line, sheet_of}
use Rattle.rules.proofs.Layouts.{ten_minutes_fits}
use Rattle.rules.proofs.Words.{record_count_lem}
use Rattle.rules.proofs.Stated.{hour_number_most, first_line_most}
use Rattle.printing.specs.Page.{Adds}
use Rattle.printing.proofs.Pages.{adds_on, adds_as, adds_short, adds_within}
use Rattle.report.proofs.TenMinutes.{charges_bounded, lines_are}
use Rattle.report.proofs.ten_minutes.put_accepted.Goals as goal
use Rattle.report.proofs.ten_minutes.put_accepted.Goals.{After-put_first_line}

-- the numbers that were read are the file's
line-1 : (c : goal.After-put_first_line) → let h = ten_minutes_in c.args.file.now in
    (c.head_word-members.result ≡ members h) × Adds c.args.page.now c.put_first_line.new.page 38 (first_line (hour_number h) (members h) h.count)
line-1 c =
    let file = c.args.file.now in
    let h = ten_minutes_in file in
    let kept = c.requires.0.kept.hour_kept in
    let members-are : c.head_word-members.result ≡ members h = c.head_word-members.ensures ten_minutes in
    let records-are : c.records-records.result ≡ h.count = c.records-records.ensures
    ∙ ap (λ (l : Layout). record_count l file) c.ten_minutes.ensures ∙ sym (record_count_lem ten_minutes file) in
    let hour = hour_number_most ten_minutes file (λ i. (c.type_inv.file i).fits) in
    let most = first_line_most h 1 (omega (arith, kept.members_most)) (omega (arith, kept.count_most)) hour in
    (members-are, adds_short {m = 84} 38 (omega (arith, most)) (rw (← c.head_word-hour.ensures ten_minutes, ← members-are, ← records-are) c.put_first_line.ensures))

pub records-records-requires : goal.records-records-requires
records-records-requires c = rw c.ten_minutes.ensures ten_minutes_fits

pub put_charges-requires : goal.put_charges-requires
put_charges-requires c =
    let read = line-1 (goal.at.put_charges-requires c).After-put_first_line in (
      charges_bounded c.requires.0 read.0,
      omega (arith, read.1.within, read.1.room, read.0, c.requires.0.kept.hour_kept.members_most, c.requires.1),
    )

pub returns : goal.returns
unfolding sheet_of
returns c =
    let read = line-1 (goal.at.returns c).After-put_first_line in
    adds_within _ (omega (arith, read.0, c.requires.0.kept.hour_kept.members_most)) (adds_on read.1 (adds_as (lines_are c.requires.0 read.0) c.put_charges.ensures))

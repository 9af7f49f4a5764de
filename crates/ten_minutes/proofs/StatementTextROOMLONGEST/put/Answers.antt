-- What was put is the statement, whole.
use Rattle.rules.specs.Statement.{ten_minutes_statement}
use Rattle.printing.specs.Shown.{HasShown}
use Rattle.printing.proofs.Showing.{count_within, whole_text}
use Rattle.ten_minutes.proofs.StatementTextROOMLONGEST.put.Goals as goal

pub returns : goal.returns
returns c =
    let put : HasShown 614 (ten_minutes_statement c.args.file.now) c.args.room.now c.put_ten_minutes_statement.result c.put_ten_minutes_statement.new.out =
    record { count_is = c.put_ten_minutes_statement.ensures.count; out_is = c.put_ten_minutes_statement.ensures.out } in
    record { within = count_within put; are = whole_text put c.requires }

-- What was put is the statement, whole.
use Rattle.rules.specs.Statement.{statement}
use Rattle.printing.specs.Shown.{HasShown}
use Rattle.printing.proofs.Showing.{count_within, whole_text}
use Rattle.statement.proofs.StatementTextROOMLONGEST.put.Goals as goal

pub returns : goal.returns
returns c =
    let put : HasShown 1095 (statement c.args.file.now) c.args.room.now c.put_statement.result c.put_statement.new.out =
    record { count_is = c.put_statement.ensures.count; out_is = c.put_statement.ensures.out } in
    record { within = count_within put; are = whole_text put c.requires }

-- The writer put the file, or the line of its refusal is put where nothing was changed.
use Rattle.report.proofs.Input.{file_put, line_put}
use Rattle.report.proofs.written.put_hour.Goals as goal

pub returns-in-Ok : goal.returns-in-Ok
returns-in-Ok c =
    let e = c.write_hour.ensures in
    file_put c.args.words.now c.requires.1 (record { verdict_is = e.verdict; length_is = e.length; file_is = e.file }) c.in-Ok.length c.in-Ok.is

pub returns-in-Err : goal.returns-in-Err
returns-in-Err c =
    let e = c.write_hour.ensures in
    line_put c.args.words.now c.requires.1 (record { verdict_is = e.verdict; length_is = e.length; file_is = e.file }) c.in-Err.refusal c.in-Err.is c.put_refusal.ensures

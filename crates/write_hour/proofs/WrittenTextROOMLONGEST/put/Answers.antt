-- What was put is the file or the line of its refusal, whole.
use Rattle.rules.specs.RawHour.{raw_written}
use Rattle.printing.specs.Shown.{HasShown}
use Rattle.printing.proofs.Showing.{count_within, whole_text}
use Rattle.write_hour.proofs.WrittenTextROOMLONGEST.put.Goals as goal

pub returns : goal.returns
returns c =
    let put : HasShown 13312 (raw_written c.args.input.now) c.args.room.now c.put_written_hour.result c.put_written_hour.new.out =
    record { count_is = c.put_written_hour.ensures.count; out_is = c.put_written_hour.ensures.out } in
    record { within = count_within put; are = whole_text put c.requires }

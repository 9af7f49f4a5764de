-- `report::written::put_written_hour` meets its contract: refused for want of room, or put whole.
use mathlib.Core.Path.{sym, ◌∙◌}
use native.Mathlib.Omega.{arith}
use lib.Seq.{length-take-le}
use Rattle.rules.specs.RawHour.{raw_written}
use Rattle.rules.proofs.Raw.{raw_fits}
use Rattle.printing.proofs.Putting.{put_as}
use Rattle.printing.proofs.Showing.{no_room, put_shown}
use Rattle.report.proofs.Input.{bad_length_lem, words_fit}
use Rattle.report.proofs.written.put_written_hour.Goals as goal

-- return 0
pub returns-then-out-lt-LONGEST : goal.returns-then-out-lt-LONGEST
returns-then-out-lt-LONGEST c =
    let shown = no_room (raw_written c.args.input.now) (omega (arith, c.if-out-lt-LONGEST.true)) in
    record { count = shown.0; out = shown.1 }

-- return put_refusal(Answer::BadLength, out)
pub returns-then-input_bad : goal.returns-then-input_bad
returns-then-input_bad c =
    let s = c.args.input.now in
    let shown = put_shown c.if-out-lt-LONGEST.false (raw_fits s)
    (put_as (sym (bad_length_lem s (sym c.input_bad.ensures ∙ c.if-input_bad.true))) c.put_refusal.ensures) in
    record { count = shown.0; out = shown.1 }

-- &mut words[..n]
pub slice_bounds-words-end : goal.slice_bounds-words-end
slice_bounds-words-end c = words_fit c.args.input.now (sym c.input_bad.ensures ∙ c.if-input_bad.false)

pub slice_bounds-put_input-end : goal.slice_bounds-put_input-end
slice_bounds-put_input-end c =
    sym (length-take-le _ _ (words_fit c.args.input.now (sym c.input_bad.ensures ∙ c.if-input_bad.false)))

pub put_input-requires : goal.put_input-requires
put_input-requires c =
    let good = sym c.input_bad.ensures ∙ c.if-input_bad.false in
    (good, length-take-le _ _ (words_fit c.args.input.now good), c.if-out-lt-LONGEST.false)

-- put_input(input, &mut words[..n], out)
pub returns : goal.returns
returns c =
    let shown = put_shown c.if-out-lt-LONGEST.false (raw_fits c.args.input.now) c.put_input.ensures in
    record { count = shown.0; out = shown.1 }

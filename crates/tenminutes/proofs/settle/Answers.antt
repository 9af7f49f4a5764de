-- `tenminutes::settle` meets its contract: refused, nothing is touched; accepted, every member has its charge.
use mathlib.Core.Path.{sym, ◌∙◌, ap}
use native.Mathlib.Omega.{arith}
use Rattle.std.proofs.lemmas.Result.{err_from_is_err_and}
use Rattle.whole.specs.Below.{replacing_first}
use Rattle.rules.specs.Record.{members}
use Rattle.rules.specs.TenMinutes.{ten_minutes_in, ten_minutes_charge}
use Rattle.tenminutes.proofs.Settled.{file_refused, kept, too_short, all_charged}
use Rattle.tenminutes.proofs.settle.Goals as goal

-- rows 1 to 5
pub returns-in_err-examine_ten_minutes : goal.returns-in_err-examine_ten_minutes
returns-in_err-examine_ten_minutes c =
    let as_told = file_refused c.args.file.now c.args.charges.now _ c.in_err-examine_ten_minutes.ensures in
    let p = err_from_is_err_and c.from_residual.result c.from_residual.ensures.1 in
    rw (p.1, p.2) (record { verdict = as_told.verdict_is; charges = as_told.charges_are })

pub new-hour-requires : goal.new-hour-requires
new-hour-requires c = kept c.args.file.now c.args.charges.now (sym c.in_ok-examine_ten_minutes.ensures)

-- Err(Refusal::TooShort)
pub returns-then-charges-hour : goal.returns-then-charges-hour
returns-then-charges-hour c =
    let members_are = c.new-hour.result.members_are ∙ ap (λ s. members (ten_minutes_in s)) c.new-hour.ensures in
    let as_told = too_short c.args.file.now c.args.charges.now (sym c.in_ok-examine_ten_minutes.ensures)
    (omega (arith, members_are, c.if-charges-hour.true)) in
    record { verdict = as_told.verdict_is; charges = as_told.charges_are }

-- Ok(())
pub returns : goal.returns
returns c =
    let members_are = c.new-hour.result.members_are ∙ ap (λ s. members (ten_minutes_in s)) c.new-hour.ensures in
    let put = c.put_charges.ensures
    ∙ ap (λ s. replacing_first (ten_minutes_charge (ten_minutes_in s)) (members (ten_minutes_in s)) c.args.charges.now) c.new-hour.ensures in
    let as_told = all_charged c.args.file.now c.args.charges.now (sym c.in_ok-examine_ten_minutes.ensures)
    (omega (arith, members_are, c.if-charges-hour.false)) put in
    record { verdict = as_told.verdict_is; charges = as_told.charges_are }

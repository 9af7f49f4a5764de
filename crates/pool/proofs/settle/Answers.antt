-- Refused, no buffer is touched; accepted, each is filled, in an order in which every figure that is needed is there.
use mathlib.Core.Path.{◌≡◌, refl, sym, ◌∙◌, ap, subst}
use mathlib.Core.List.{List}
use native.Mathlib.Omega.{arith}
use Prim.Native.Nat.{ℕ}
use lib.IntN.{ℤ}
use Rattle.std.specs.Prelude.{Result, Ok, Err}
use Rattle.std.proofs.lemmas.Result.{err_from_is_err_and}
use Rattle.rules.specs.declared.Refusal.{Refusal}
use Rattle.rules.specs.Refusals.{file_rows, Buffers}
use Rattle.rules.specs.Promised.Demands.{Fits}
use Rattle.rules.proofs.Kept.{file_kept}
use Rattle.rules.proofs.Rows.{accepts_when_whole, file_numbered, form_whole}
use Rattle.pool.specs.AsSettled.{Says}
use Rattle.pool.specs.Buffers.{buffers}
use Rattle.pool.proofs.Answers.{file_refused, unchanged, room, can-share, can-put-lines, as-many, lines-there, can-put-charges}
use Rattle.pool.proofs.Answers.{can-put-finals, all_filled}
use Rattle.pool.proofs.settle.Goals as goal
use Rattle.pool.proofs.settle.Goals.{In_ok-figures, After-answered}

-- ---- rows 1 to 5 and 14

pub returns-in_err-examine : goal.returns-in_err-examine
returns-in_err-examine c =
    let p = err_from_is_err_and c.from_residual.result c.from_residual.ensures.1 in
    rw (p.1, p.2) (unchanged c.args.file.now _ (file_refused c.args.file.now _ c.in_err-examine.field-0.0 c.in_err-examine.ensures))

-- they are passed
pub of-hour-requires : goal.of-hour-requires
of-hour-requires c =
    let s = c.args.file.now in
    file_kept s (form_whole s ((accepts_when_whole (file_rows s) (file_numbered s)).0 (sym c.in_ok-examine.ensures)))

-- ---- rows 6, 12 and 11

-- the answer is given, of the buffers as they were lent
module _ (c : goal.After-answered) where
  abbrev lent : Buffers
  lent = buffers c.args.charges.now c.args.finals.now c.args.shares.now c.args.deviations.now c.args.lines.now

  said : Says c.of-hour.result.file.now lent c.answered.result
  said = c.answered.ensures.says lent
      (record { of_charges = refl; of_finals = refl; of_lines = refl; of_shares = refl; of_deviations = refl })

-- the hour was read from the file
from_file : {s t : List ℕ} {b after : Buffers} {r : Result (List ℤ) Refusal} → s ≡ t → Fits s b r after → Fits t b r after
from_file {b = b} {after = after} {r = r} e fits = subst (λ s. Fits s b r after) e fits

pub returns-in_err-figures : goal.returns-in_err-figures
returns-in_err-figures c =
    let p = err_from_is_err_and c.from_residual-in_err-figures.result c.from_residual-in_err-figures.ensures.1 in
    let a = (goal.at.returns-in_err-figures c).After-answered in
    rw (p.1, p.2) (from_file c.of-hour.ensures (unchanged c.of-hour.result.file.now (lent a) (subst (Says c.of-hour.result.file.now (lent a)) c.in_err-figures.was (said a))))

-- ---- accepted: the buffers are filled

module _ (c : goal.In_ok-figures) where
  abbrev before : Buffers
  before = buffers c.args.charges.now c.args.finals.now c.args.shares.now c.args.deviations.now c.args.lines.now

  accepts : Says c.of-hour.result.file.now before (Ok c.in_ok-figures.figures)
  accepts = subst (Says c.of-hour.result.file.now before) c.in_ok-figures.was (c.answered.ensures.says before
      (record { of_charges = refl; of_finals = refl; of_lines = refl; of_shares = refl; of_deviations = refl }))

pub put_deviations-requires : goal.put_deviations-requires
put_deviations-requires c =
    let a = (goal.at.put_deviations-requires c).In_ok-figures in
    (room c.of-hour.result.file.now (before a) (accepts a)).deviations_room

pub put_shares-requires : goal.put_shares-requires
put_shares-requires c =
    let a = (goal.at.put_shares-requires c).In_ok-figures in
    can-share c.of-hour.result.file.now (before a) (accepts a)

pub put_lines-requires : goal.put_lines-requires
put_lines-requires c =
    let a = (goal.at.put_lines-requires c).In_ok-figures in
    can-put-lines c.of-hour.result.file.now (before a) (accepts a) c.put_deviations.ensures c.put_shares.ensures

-- &lines[..hour.members]
pub slice_bounds-put_charges-end : goal.slice_bounds-put_charges-end
slice_bounds-put_charges-end c =
    let a = (goal.at.slice_bounds-put_charges-end c).In_ok-figures in
    lines-there c.of-hour.result.file.now (before a) (accepts a) c.put_deviations.ensures c.put_shares.ensures c.put_lines.ensures
    c.of-hour.result.members_are

-- its length
pub slice_bounds-put_charges-end-2 : goal.slice_bounds-put_charges-end-2
slice_bounds-put_charges-end-2 c =
    let a = (goal.at.slice_bounds-put_charges-end-2 c).In_ok-figures in
    sym (as-many c.of-hour.result.file.now (before a) (accepts a) c.put_deviations.ensures c.put_shares.ensures c.put_lines.ensures
    c.of-hour.result.members_are)

pub put_charges-requires : goal.put_charges-requires
put_charges-requires c =
    let a = (goal.at.put_charges-requires c).In_ok-figures in
    can-put-charges c.of-hour.result.file.now (before a) (accepts a) c.put_deviations.ensures c.put_shares.ensures c.put_lines.ensures
    c.of-hour.result.members_are

pub put_finals-requires : goal.put_finals-requires
put_finals-requires c =
    let a = (goal.at.put_finals-requires c).In_ok-figures in
    can-put-finals c.of-hour.result.file.now (before a) (accepts a) c.put_deviations.ensures c.put_shares.ensures c.put_lines.ensures
    c.of-hour.result.members_are c.put_charges.ensures

pub returns : goal.returns
returns c =
    let a = (goal.at.returns c).In_ok-figures in
    from_file c.of-hour.ensures
    (all_filled c.of-hour.result.file.now (before a) (accepts a) c.put_deviations.ensures c.put_shares.ensures c.put_lines.ensures
    c.of-hour.result.members_are c.put_charges.ensures c.put_finals.ensures)

-- A head's line comes behind those before it.
use mathlib.Core.Path.{ap}
use native.Mathlib.Numerals.{add-one}
use native.Mathlib.Omega.{arith}
use Prim.Native.Nat.{◌+◌, ◌≤◌}
use lib.ListN.{length}
use Rattle.rules.specs.Explanation.{head_name, head_line, head_at}
use Rattle.whole.proofs.Machine.{element_fits, read_back}
use Rattle.printing.proofs.Pages.{no_lines, line_on, adds_as, adds_within}
use Rattle.printing.proofs.Heads.{heads_room}
use Rattle.printing.proofs.explanation.put_heads.Goals as goal

pub loop-place-init : goal.loop-place-init
loop-place-init c = no_lines (λ k. head_line k (head_at c.args.heads k)) c.args.page.now

pub loop-place-preserved : goal.loop-place-preserved
loop-place-preserved c =
    let place = c.loop-place.place in
    let line = adds_as (ap (head_line place) (read_back (element_fits c.args.heads _ place c.well_formed.1.0.1.1))) c.put_head.ensures in
    let lines = line_on (λ k. head_line k (head_at c.args.heads k)) place c.loop-place.invariant line in
    let same : heads_room place + (length (head_name place) + 23) ≤ heads_room (place + 1) = rw (add-one place) (omega arith) in
    adds_within _ same lines

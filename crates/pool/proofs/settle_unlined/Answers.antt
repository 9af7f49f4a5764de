-- Lines are made and lent to `settle`, whose answer this is; what it left in them is let go.
use mathlib.Core.Path.{◌≡◌}
use mathlib.Core.List.{List}
use Prim.Native.Nat.{ℕ}
use lib.IntN.{ℤ}
use lib.ListN.{replicate}
use Rattle.rules.specs.declared.Line.{Line}
use Rattle.std.specs.Prelude.{Result}
use Rattle.rules.specs.declared.Refusal.{Refusal}
use Rattle.rules.specs.Settling.{empty_line}
use Rattle.rules.specs.Promised.Demands.{Fits}
use Rattle.pool.specs.Unlined.{Unlined, with_lines, FitsUnlined}
use Rattle.pool.proofs.settle_unlined.Goals as goal

-- each of the lines is empty
unseen : {s : List ℕ} {b after : Unlined} {r : Result (List ℤ) Refusal} {l : Line} {lines : List Line} →
    l ≡ empty_line → Fits s (with_lines b (replicate 32 l)) r (with_lines after lines) → FitsUnlined s b r after
unseen {lines = lines} e fits = record { lines = lines; fits = rw e at fits }

pub returns : goal.returns
returns c = unseen {lines = c.settle.new.lines} c.empty_line-lines.ensures c.settle.ensures

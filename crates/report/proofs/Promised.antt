-- What the contract of `statement` says by itself, whatever code meets it.
use mathlib.Core.Path.{◌≡◌, ◌∙◌}
use mathlib.Core.List.{List}
use Prim.Native.Nat.{ℕ, ◌≤◌}
use lib.ListN.{length, take}
use Rattle.rules.specs.Statement.{statement}
use Rattle.rules.proofs.Stated.{cut_input_same}
use Rattle.printing.proofs.Showing.{whole_text}
use Rattle.report.specs.Stated.{HasStated}

-- a reader that stops one byte past the longest file prints the statement of its whole input
pub cut_input_stated : (s : List ℕ) {out after : List ℕ} {n : ℕ} → 1095 ≤ length out → HasStated (take 13313 s) out n after →
    take n after ≡ statement s
cut_input_stated s room f = whole_text f room ∙ cut_input_same s

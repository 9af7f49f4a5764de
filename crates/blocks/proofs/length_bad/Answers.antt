-- `blocks::length_bad` meets its contract: whole blocks over the most, by their count or by their bytes.
use Rattle.std.proofs.Common.{◌≡◌, ℕ, ◌*◌, ◌/◌, ◌%◌, ltb, arith}
use Rattle.std.proofs.lemmas.Bool.Decides.{nat_tests}
use Rattle.rules.specs.HourFile.{length_bad}
use Rattle.blocks.proofs.length_bad.Goals as goal
use Rattle.blocks.proofs.length_bad.Goals.{then-n-eq0, else-n-eq0}

-- whole blocks over the most: by their count, or by their bytes
over : (most n : ℕ) → n % 512 ≡ 0 → ltb most (n / 512) ≡ ltb (512 * most) n
over most n whole = grind (arith, nat_tests)

pub returns-then-n-ne0 : goal.returns-then-n-ne0
unfolding length_bad
returns-then-n-ne0 c = grind (arith, nat_tests)

pub returns-else-n-ne0 : goal.returns-else-n-ne0
unfolding length_bad
returns-else-n-ne0 c = grind (arith, nat_tests, over)

-- `blocks::records` meets its contract: the count by the number of blocks. Blocks are so few, for any length, and
-- records to a block, that the count fits.
use Rattle.std.proofs.Common.{◌≡◌, ℕ, ◌+◌, ◌-◌, ◌*◌, ◌≤◌, leb, sym, ap, ◌∙◌, mul-le-mul_right, arith, le-leb}
use borrow.Author.Tests.{lt-leb}
use Rattle.rules.specs.HourFile.{blocks, block_word, record_count}
use Rattle.rules.proofs.Layouts.{few_to_a_block}
use Rattle.blocks.proofs.records.Goals as goal
use Rattle.blocks.proofs.records.Goals.{Else-n-le1}

few : (c : goal.Else-n-le1) →
    let n = c.count-n.result in c.args.layout.records * (n - 2) ≤ 120 * (n - 2)
few c = mul-le-mul_right (c.count-n.result - 2) (few_to_a_block c.requires)

-- return 0
pub returns-then-n-le1 : goal.returns-then-n-le1
unfolding record_count
returns-then-n-le1 c = simp (ap (λ (n : ℕ). leb n 1) (sym c.count-n.ensures) ∙ le-leb _ _ c.if-n-le1.true)

-- layout.records * (n - 2)
pub overflow_mul-result : goal.overflow_mul-result
unfolding blocks
overflow_mul-result c = omega (arith, few (goal.at.overflow_mul-result c).Else-n-le1)

-- layout.records * (n - 2) + (block_word(file, n - 1, 2) as usize)
pub overflow_add-result : goal.overflow_add-result
unfolding blocks
overflow_add-result c = omega (arith, few (goal.at.overflow_add-result c).Else-n-le1)

-- layout.records * (n - 2) + (block_word(file, n - 1, 2) as usize)
pub returns : goal.returns
unfolding record_count
returns c =
    let counted = c in
    let at = counted.args in
    let s = at.file.now in
    let full = at.layout.records in
    let n = counted.count-n.result in
    let e : n ≡ blocks s = counted.count-n.ensures in
    ap (λ (v : ℕ). full * (n - 2) + v) c.block_word.ensures
    ∙ ap (λ (m : ℕ). full * (m - 2) + block_word s (m - 1) 2) e
    ∙ simp (ap (λ (m : ℕ). leb m 1) (sym e) ∙ lt-leb _ _ c.if-n-le1.false)

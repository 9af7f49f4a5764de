-- `blocks::block_bad` meets its contract: the words in front first; then nothing more of the first block, and of another the zeros past
-- its records.
use Rattle.std.proofs.Common.{◌≡◌, ℕ, ◌+◌, ◌*◌, ◌≤◌, eqb, not, List, refl, sym, ap, ◌∙◌, mul-le-mul_right, arith, eq-eqb, rules}
use borrow.Author.Tests.{tests}
use Rattle.whole.proofs.Chains.{any_first, any_below}
use Rattle.rules.specs.declared.Layout.{Layout}
use Rattle.rules.specs.HourFile.{word}
use Rattle.rules.specs.Ranges.{keeps, block_rule, first_broken}
use Rattle.rules.specs.Refusals.{is_broken}
use Rattle.rules.proofs.Layouts.{few_to_a_record}
use Rattle.rules.proofs.Faults.{front_broken, first_block_whole, past_front}
use Rattle.blocks.specs.Broken.{broken_below}
use Rattle.blocks.proofs.Broken.{found_broken}
use Rattle.blocks.proofs.block_bad.Goals as goal
use Rattle.blocks.proofs.block_bad.Goals.{After-word-held, After-any-front_bad}

-- words to a record are so few that the product fits
few : (c : goal.After-word-held) →
    c.args.layout.words * c.word-held.result ≤ 120 * c.word-held.result
few c = mul-le-mul_right c.word-held.result (few_to_a_record c.requires)

-- what is promised, by the block's own count, is so by the count that the code has read
as_read : (layout : Layout) (block : List ℕ) (n b held : ℕ) → held ≡ word block 2 →
    broken_below layout 128 n (word block 2) b block ≡ broken_below layout 128 n held b block
as_read layout block n b held e = ap (λ (held : ℕ). broken_below layout 128 n held b block) (sym e)

-- layout.words * (held as usize)
pub overflow_mul-past : goal.overflow_mul-past
overflow_mul-past c = omega (arith, few (goal.at.overflow_mul-past c).After-word-held)

-- 8 + layout.words * (held as usize)
pub overflow_add-past : goal.overflow_add-past
overflow_add-past c = omega (arith, few (goal.at.overflow_add-past c).After-word-held)

-- words 0 to 6
front : (c : goal.After-any-front_bad) →
    c.any-front_bad.result ≡ broken_below c.args.layout 7 c.args.n c.word-held.result c.args.b c.args.block.now
unfolding first_broken
front c =
    any_below (λ w. not (keeps (block_rule c.args.layout c.args.n c.word-held.result c.args.b w) (word c.args.block.now w))) 7 _ _ _ _ refl
    c.any-front_bad.ensures.ran (λ x b q k. (search rules, search rules))
    ∙ found_broken _

-- front_bad
pub returns-then-front_bad : goal.returns-then-front_bad
returns-then-front_bad c = c.if-front_bad.true ∙ sym (as_read _ _ _ _ _ c.word-held.ensures ∙ front_broken _ _ _ _ _ (sym (front (goal.at.returns-then-front_bad c).After-any-front_bad) ∙ c.if-front_bad.true))

-- another block: the search of the zeros
pub returns-then-b-ne0 : goal.returns-then-b-ne0
returns-then-b-ne0 c =
    let passed = sym (front (goal.at.returns-then-b-ne0 c).After-any-front_bad) ∙ c.if-front_bad.false in
    any_first (λ w. not (eqb (word c.args.block.now w) 0)) (8 + c.args.layout.words * c.word-held.result) 128 _ _ _ _ refl c.any.ensures.ran
    (λ x b q k. (search rules, search (rules, tests)))
    ∙ found_broken _
    ∙ sym (as_read _ _ _ _ _ c.word-held.ensures ∙ ap is_broken (past_front _ _ _ _ _ passed c.if-b-ne0.true))

-- the first block
pub returns-else-b-ne0 : goal.returns-else-b-ne0
returns-else-b-ne0 c =
    let passed = sym (front (goal.at.returns-else-b-ne0 c).After-any-front_bad) ∙ c.if-front_bad.false in
    ap not (eq-eqb _ _ c.if-b-ne0.false)
    ∙ sym (as_read _ _ _ _ _ c.word-held.ensures ∙ first_block_whole _ _ _ _ _ passed c.if-b-ne0.false)

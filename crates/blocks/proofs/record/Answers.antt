-- `blocks::record` meets its contract: the block is there, so its body is whole, and the records that it may hold fit into it.
use Rattle.std.proofs.Common.{◌≡◌, ℕ, ◌+◌, ◌-◌, ◌*◌, ◌/◌, ◌%◌, ◌≤◌, List, length, take, drop, sym, ap, ◌∙◌, ap₂, arith}
use Rattle.rules.specs.HourFile.{blocks, body}
use Rattle.rules.proofs.Layouts.{few_to_a_record, ends_inside}
use Rattle.rules.proofs.Words.{body_length, body_there}
use Rattle.blocks.proofs.record.Goals as goal
use Rattle.blocks.proofs.record.Goals.{After-whole_body-own}

gap : (from size : ℕ) → (from + size) - from ≡ size
gap from size = omega arith

module _ (c : goal.After-whole_body-own) where
  abbrev block : ℕ
  block = 1 + c.args.i / c.args.layout.records

  abbrev size : ℕ
  size = 4 * c.args.layout.words

  abbrev from : ℕ
  from = size * (c.args.i % c.args.layout.records)

  own : c.whole_body-own.result.now ≡ body c.args.layout c.args.file.now block
  own = c.whole_body-own.ensures ∙ sym (body_there _ _ block c.requires.1.length_good c.requires.1.block_there)

  own-length : length c.whole_body-own.result.now ≡ 480
  own-length = ap length own ∙ body_length _ _ block c.requires.1.length_good c.requires.1.block_there

  ends : from + size ≤ 480
  ends = omega (arith, ends_inside c.requires.0 c.args.i)

-- 4 * layout.words
pub overflow_mul-size : goal.overflow_mul-size
overflow_mul-size c = omega (arith, few_to_a_record c.requires.0)

-- i / full
pub nonzero_div-i : goal.nonzero_div-i
nonzero_div-i c = omega (arith, c.requires.0.some_records)

-- 1 + i / full
pub overflow_add-i : goal.overflow_add-i
unfolding blocks
overflow_add-i c = omega (arith, c.requires.1.block_there)

pub whole_body-own-requires : goal.whole_body-own-requires
unfolding blocks
whole_body-own-requires c = omega (arith, c.requires.1.block_there)

-- i % full
pub nonzero_rem-from : goal.nonzero_rem-from
nonzero_rem-from c = omega (arith, c.requires.0.some_records)

-- size * (i % full)
pub overflow_mul-from : goal.overflow_mul-from
overflow_mul-from c = omega (arith, ends (goal.at.overflow_mul-from c).After-whole_body-own)

-- &own[from..to]: to <= own.len()
pub slice_bounds-result-end : goal.slice_bounds-result-end
slice_bounds-result-end c = omega (arith, ends (goal.at.slice_bounds-result-end c).After-whole_body-own, own-length (goal.at.slice_bounds-result-end c).After-whole_body-own)

pub returns : goal.returns
returns c =
    let cut = (goal.at.returns c).After-whole_body-own in
    ap₂ (λ (n : ℕ) (own : List ℕ). take n (drop (from cut) own)) (gap (from cut) (size cut)) (own cut)

-- A file that passes rows 1 to 5 says its own hour: rows 2 and 3 leave no word of a block a choice. Document 02, A2; document 01, "The hour
-- file", "Refusal numbers and their order".
use mathlib.Core.Path.{◌≡◌, sym, ◌∙◌, ap, ap₂}
use mathlib.Core.Bool.{cond}
use mathlib.Core.List.{List}
use Prim.Native.Nat.{ℕ, ◌+◌, ◌-◌, ◌*◌, ◌/◌, ◌%◌, ◌≤◌, ◌<◌}
use native.Mathlib.Omega.{arith}
use lib.Dec.{ltb, leb, eqb}
use borrow.Author.Tests.{ltb-true, ltb-false, leb-true, leb-false, eqb-true, eqb-false, not-false}
use borrow.Author.Tests.{lt-ltb, le-ltb, le-leb, lt-leb, ne_eqb}
use Rattle.whole.specs.Below.{sum_below}
use Rattle.whole.proofs.Tests.{split}
use Rattle.whole.proofs.Tables.{at_each}
use Rattle.whole.proofs.Search.{first_none}
use Rattle.rules.specs.Record.{Hour}
use Rattle.rules.specs.HourFile.{hourly, blocks, block_word, block_sum, record_count, record_word, hour_of, hour_in}
use Rattle.rules.specs.HourWords.{closing, blocks_for, held_in, body_word, open_block, open_word, file_word, file_length}
use Rattle.rules.specs.Ranges.{first_broken, count_rule, block_rule, hourly_form}
use Rattle.rules.specs.Refusals.{bad_sum, bad_block, block_rows, word_rows, form_rows}
use Rattle.rules.specs.Promised.Demands.{AllWhole}
use Rattle.rules.specs.Promised.Finals.{AreBytes}
use Rattle.rules.proofs.Rows.{whole_parts}
use Rattle.rules.proofs.Words.{Holds, WholeBlocks, length_is_whole, record_count_lem, head_word, record_word_lem}
use Rattle.rules.proofs.Kept.{unbroken, all_hold, file_kept}
use Rattle.rules.proofs.Faults.{past_records}
use Rattle.rules.proofs.WordBytes.{word_most, only_word_7}
use Rattle.rules.proofs.FileWords.{HoldsSome, held_some, open_body, still_zero}
use Rattle.rules.proofs.Said.{Says}

only_value : {k v : ℕ} → (k ≤ v) × (v ≤ k) → k ≡ v
only_value p = omega (arith, p)

module _ (s : List ℕ) (bytes : AreBytes s) (whole : AllWhole (form_rows hourly_form s)) where
  abbrev h : Hour
  h = hour_in s

  blocks_whole : AllWhole (block_rows hourly s)
  unfolding form_rows
  blocks_whole = ((whole_parts (block_rows hourly s) (word_rows hourly_form h)).0 whole).0

  abbrev N : ℕ
  N = blocks s

  all_blocks : WholeBlocks hourly s
  all_blocks = length_is_whole hourly s (file_kept s whole).length_good

  -- every word of every block keeps its rule
  block_holds : (b w : ℕ) → b < N → w < 128 → Holds (block_rule hourly N (block_word s b 2) b w) (block_word s b w)
  unfolding block_rows bad_block
  block_holds b w l m = all_hold (block_rule hourly N (block_word s b 2) b) (block_word s b) 128
      (unbroken _ (first_none _ N blocks_whole.1.1.0 b l)) w m

  full_held : (b : ℕ) → 1 ≤ b → b + 1 < N → 10 ≡ block_word s b 2
  unfolding block_rule count_rule
  full_held b one l = only_value (rw (ne_eqb b 0 (λ e. omega arith), lt-ltb (b + 1) N l) at (block_holds b 2 (omega arith) (omega arith)))

  last_held : 1 < N → (1 ≤ block_word s (N - 1) 2) × (block_word s (N - 1) 2 ≤ 10)
  unfolding block_rule count_rule
  last_held l = rw (ne_eqb (N - 1) 0 (λ e. omega arith), le-ltb (N - 1 + 1) N (omega arith)) at
      (block_holds (N - 1) 2 (omega arith) (omega arith))

  -- one block has no records, more have full ones between the first and the last
  count_one : N ≤ 1 → h.count ≡ 0
  unfolding hour_of record_count
  count_one l = rw (le-leb N 1 l)

  count_more : 1 < N → h.count ≡ 10 * (N - 2) + block_word s (N - 1) 2
  unfolding hour_of record_count
  count_more l = rw (lt-leb N 1 l)

  blocks_said : blocks_for hourly h ≡ N
  unfolding blocks_for
  blocks_said = split (leb N 1)
      (λ t. omega (arith, all_blocks.at_least_one, leb-true N 1 t, count_one (leb-true N 1 t)))
      (λ t. let l = leb-false N 1 t in omega (arith, l, count_more l, last_held l))

  held_said : (b : ℕ) → 1 ≤ b → b < N → held_in hourly h b ≡ block_word s b 2
  unfolding held_in
  held_said b one l = rw blocks_said (split (ltb (b + 1) N)
      (λ t. rw t (full_held b one (ltb-true (b + 1) N t)))
      (λ t. rw t (let e : N - 1 ≡ b = omega (arith, ltb-false (b + 1) N t) in
      let c : h.count ≡ 10 * (N - 2) + block_word s b 2 = count_more (omega arith) ∙ ap (λ (k : ℕ). 10 * (N - 2) + block_word s k 2) e in
      omega arith)))

  first_count : 0 < N → N - 1 ≡ block_word s 0 2
  unfolding block_rule count_rule
  first_count l = only_value (block_holds 0 2 l (omega arith))

  count_said : (b : ℕ) → b < N → cond (eqb b 0) (blocks_for hourly h - 1) (held_in hourly h b) ≡ block_word s b 2
  count_said b l = split (eqb b 0)
      (λ t. rw (eqb-true b 0 t, blocks_said) (first_count (omega arith)))
      (λ t. rw t (held_said b (omega (arith, eqb-false b 0 t)) l))

  -- words 0 to 6
  front_said : (b : ℕ) → b < N → (w : ℕ) → w < 7 → open_word hourly h b w ≡ block_word s b w
  unfolding open_word open_block block_rule
  front_said b l = at_each (λ w. open_word hourly h b w ≡ block_word s b w) 7 (
    (
      (
        (
          (
            (
              (
                tt,
                only_value (block_holds b 0 l (omega arith)),
              ),
              only_value (block_holds b 1 l (omega arith)),
            ),
            count_said b l,
          ),
          only_value (block_holds b 3 l (omega arith)),
        ),
        only_value (block_holds b 4 l (omega arith)),
      ),
      only_value (block_holds b 5 l (omega arith)),
    ),
    only_value (block_holds b 6 l (omega arith)),
  )

  -- the bodies
  record_said : (b k : ℕ) → 1 ≤ b → b < N → k < 12 * held_in hourly h b → h.rec (10 * (b - 1) + k / 12) (k % 12) ≡ block_word s b (8 + k)
  unfolding record_word
  record_said b k one l m =
      let some = held_some h b one (rw blocks_said l) in
      let i : ℕ = 10 * (b - 1) + k / 12 in
      let block-is : 1 + i / 10 ≡ b = omega (arith, some) in
      let place_is : 8 + 12 * (i % 10) + k % 12 ≡ 8 + k = omega (arith, some) in
      record_word_lem hourly s i (k % 12) (there some) (omega arith)
      ∙ ap₂ (λ (x y : ℕ). block_word s x y) block-is place_is
    where
      there : HoldsSome h b → 10 * (b - 1) + k / 12 < record_count hourly s
      there some = rw (← record_count_lem hourly s) (omega (arith, some))

  past_said : (b k : ℕ) → 1 ≤ b → b < N → k < 120 → 12 * held_in hourly h b ≤ k → 0 ≡ block_word s b (8 + k)
  unfolding block_rows bad_block first_broken
  past_said b k one l m q =
      let far : 8 + 12 * block_word s b 2 ≤ 8 + k = omega (arith, held_said b one l) in
      let kept = first_none _ 128 (unbroken _ (first_none _ N blocks_whole.1.1.0 b l)) (8 + k) (omega arith) in
      let v : ℕ = block_word s b (8 + k) in
      let zero-there = sym (past_records hourly N (block_word s b 2) b (8 + k) v (λ e. omega arith) (omega arith)) ∙ kept in
      sym (eqb-true _ 0 (not-false _ (rw (le-leb _ _ far) at zero-there)))

  body_said : (b k : ℕ) → b < N → k < 120 → body_word hourly h b k ≡ block_word s b (8 + k)
  unfolding body_word
  body_said b k l m = split (eqb b 0)
      (λ t. rw (eqb-true b 0 t) (head_word hourly s (8 + k) (omega arith) (omega arith)))
      (λ t. let one : 1 ≤ b = omega (arith, eqb-false b 0 t) in split (ltb k (12 * held_in hourly h b))
      (λ u. rw (t, u) (record_said b k one l (ltb-true _ _ u)))
      (λ u. rw (t, u) (past_said b k one l m (ltb-false _ _ u))))

  open_said : (b w : ℕ) → b < N → w < 128 → (w ≡ 7 → ⊥) → open_word hourly h b w ≡ block_word s b w
  open_said b w l m f = split (ltb w 7)
      (λ t. front_said b l w (ltb-true w 7 t))
      (λ t. let e : 8 + (w - 8) ≡ w = omega (arith, f, ltb-false w 7 t) in
      ap (open_word hourly h b) (sym e) ∙ open_body h b (w - 8) ∙ body_said b (w - 8) l (omega arith) ∙ ap (block_word s b) e)

  -- word 7 is the one that makes the sum zero
  seven_said : (b : ℕ) → b < N → closing (sum_below (open_word hourly h b) 128) ≡ block_word s b 7
  unfolding block_rows bad_sum block_sum block_word
  seven_said b l = only_word_7 (open_word hourly h b) 128 (omega arith) (still_zero h b) (block_word s b) (word_most s bytes (128 * b + 7))
      (eqb-true _ 0 (not-false _ (first_none _ N blocks_whole.1.0 b l)))
      (λ w m f. sym (open_said b w l m f))

  pub own_hour : Says s h
  unfolding file_word file_length
  own_hour = record {
    length_is = all_blocks.all_blocks ∙ ap (λ (k : ℕ). 512 * k) (sym blocks_said);
    word_is = λ b w l m. let there : b < N = rw blocks_said at l in sym (split (eqb w 7)
        (λ t. rw (t, eqb-true w 7 t) (seven_said b there))
        (λ t. rw t (open_said b w there m (eqb-false w 7 t))));
  }

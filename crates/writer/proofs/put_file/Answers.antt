-- `writer::put_file` meets its contract. The loop's invariant: the blocks so far, and past them the buffer as it was.
use Rattle.std.proofs.Common.{◌≡◌, ℕ, ◌+◌, ◌-◌, ◌*◌, ◌/◌, ◌<◌, ◌≤◌, List, length, ◌++◌, min, take, drop, leb, rules, sym, refl, ap, ◌∙◌, ap₂, arith, length-append, length-drop, take_all, leb-true, leb-false}
use lib.ListN.{drop_of_length-le}
use lib.Seq.{take_at, drop_at, drop-drop}
use Rattle.whole.proofs.Tests.{split}
use Rattle.whole.proofs.Filling.{filled_length, first_filled}
use Rattle.whole.proofs.Buffers.{written_length, replacing_twice, replacing_longer}
use Rattle.whole.specs.Below.{replacing_first}
use Rattle.rules.specs.Record.{Hour}
use Rattle.rules.specs.HourFile.{hourly}
use Rattle.rules.specs.HourWords.{blocks_for, file_byte, file_length}
use Rattle.writer.specs.Lists.{hour_of_lists, ListsWhole}
use Rattle.writer.specs.Stored.{block_bytes, block_placed}
use Rattle.examine.proofs.Listed.{said_count}
use Rattle.writer.proofs.Said.{block_count, few_blocks, file_length_lem}
use Rattle.writer.proofs.FileBlocks.{held_words, head_placed, records_placed, held_few}
use Rattle.writer.proofs.put_file.Goals as goal
use Rattle.writer.proofs.put_file.Goals.{After-blocks-blocks, After-put_at, In-Some}

-- the blocks are counted: there is room for them, and they are few
module _ (c : goal.After-blocks-blocks) where
  abbrev head : List ℕ
  head = c.args.lists.now.head.now

  abbrev records : List ℕ
  records = c.args.lists.now.records.now

  abbrev old : List ℕ
  old = c.args.file.now

  abbrev h : Hour
  h = hour_of_lists head records

  abbrev blocks : ℕ
  blocks = c.blocks-blocks.result

  whole : ListsWhole head records
  whole = c.args.lists.now.whole

  blocks_are : blocks ≡ blocks_for hourly h
  blocks_are = c.blocks-blocks.ensures

  length_is : file_length hourly h ≡ 512 * blocks
  length_is = file_length_lem head records ∙ ap (λ (n : ℕ). 512 * n) (sym blocks_are)

  room : 512 * blocks ≤ length old
  room = omega (arith, c.requires, length_is)

  some_blocks : 1 ≤ blocks
  some_blocks = omega (arith, blocks_are, block_count head records)

  few : blocks ≤ 26
  few = omega (arith, blocks_are, few_blocks head records whole)

-- the first block is put
module _ (c : goal.After-put_at) where
  abbrev begun : List ℕ
  begun = c.put_at.new.file

  -- the bytes of the file to be
  abbrev byte : ℕ → ℕ
  byte = file_byte hourly (hour_of_lists c.args.lists.now.head.now c.args.lists.now.records.now)

  first-put : begun ≡ replacing_first byte 512 c.args.file.now
  first-put = c.put_at.ensures ∙ head_placed c.args.lists.now.head.now c.args.lists.now.records.now c.args.lists.now.whole _ c.args.file.now
      (ap (λ (n : ℕ). n - 1) c.blocks-blocks.ensures)

  begun-length : 512 ≤ length c.args.file.now → length begun ≡ length c.args.file.now
  begun-length few = written_length byte 512 c.args.file.now begun first-put few

  put-again : begun ≡ replacing_first byte 512 begun
  put-again = first-put ∙ sym (replacing_twice byte byte 512 c.args.file.now) ∙ ap (replacing_first byte 512) (sym first-put)

-- blocks - 1
pub overflow_sub-blocks : goal.overflow_sub-blocks
overflow_sub-blocks c = omega (arith, some_blocks (goal.at.overflow_sub-blocks c).After-blocks-blocks)

-- (blocks - 1) as u32
pub overflow_cast-blocks : goal.overflow_cast-blocks
overflow_cast-blocks c = omega (arith, few (goal.at.overflow_cast-blocks c).After-blocks-blocks)

-- put_at(file, 0, 1, (blocks - 1) as u32, head)
pub put_at-requires : goal.put_at-requires
put_at-requires c = let all = (goal.at.put_at-requires c).After-blocks-blocks in (omega (arith, room all, some_blocks all), omega arith, omega (arith, (whole all).head_whole))

pub loop-i-init : goal.loop-i-init
loop-i-init c =
    let put = (goal.at.loop-i-init c).After-put_at in
    let all = (goal.at.loop-i-init c).After-blocks-blocks in
    let long : 512 ≤ length c.args.file.now = omega (arith, room all, some_blocks all) in
    let first : c.into_iter-i-iterator.result.count ≡ 0 = search rules in record {
      by_ten = search rules;
      left = rw first (search rules);
      filled = rw first record {
        reached = omega (arith, length_is all, some_blocks all);
        room = omega (arith, c.requires, begun-length put long);
        holds = put-again put;
      };
    }

-- what is left begins with a chunk, which is ten records or all that are left
module _ (records held rest : List ℕ) (n size : ℕ) (by-ten : size ≡ 120) (begins : drop (120 * n) records ≡ held ++ rest)
    (long : length held ≡ min size (length (drop (120 * n) records))) where
  abbrev left : List ℕ
  left = drop (120 * n) records

  whole-chunk : 120 ≤ length left → (held ≡ take 120 left) × (rest ≡ drop 120 left)
  whole-chunk l =
      let ten : length held ≡ 120 = omega arith in
      (sym (ap (take 120) begins ∙ take_at held rest 120 ten), sym (ap (drop 120) begins ∙ drop_at held rest 120 ten))

  last-chunk : length left ≤ 120 → (held ≡ take 120 left) × (rest ≡ drop 120 left)
  last-chunk l =
      let all : length held ≡ length left = omega arith in
      let both : length left ≡ length held + length rest = ap length begins ∙ length-append held rest in
      let none : rest ≡ drop (length held) left = sym (ap (drop (length held)) begins ∙ drop_at held rest (length held) refl) in
      let held-all : held ≡ take (length held) left = sym (ap (take (length held)) begins ∙ take_at held rest (length held) refl) in (
        held-all ∙ take_all (length held) left (omega arith) ∙ sym (take_all 120 left l),
        none ∙ drop_of_length-le left (omega arith) ∙ sym (drop_of_length-le left l),
      )

  chunk : (held ≡ take 120 left) × (rest ≡ drop (120 * (n + 1)) records)
  chunk =
      let next : 120 * n + 120 ≡ 120 * (n + 1) = omega arith in
      let after : drop 120 left ≡ drop (120 * (n + 1)) records = drop-drop 120 (120 * n) records ∙ ap (λ (m : ℕ). drop m records) next in
      split (leb 120 (length left))
      (λ t. let w = whole-chunk (leb-true 120 (length left) t) in (w.0, w.1 ∙ after))
      (λ f. let l = leb-false 120 (length left) f in let w = last-chunk (omega arith) in (w.0, w.1 ∙ after))

-- a turn: ten records or those that are left
module _ (c : goal.In-Some) where
  abbrev n : ℕ
  n = c.loop-i.i-iterator.count

  abbrev records-now : List ℕ
  records-now = c.args.lists.now.records.now

  turn : (c.in-Some.i ≡ n) × (c.next.new.self.count ≡ n + 1)
  turn = search rules

  taken : (c.in-Some.held.now ≡ take 120 (drop (120 * n) records-now)) × (c.next.new.self.iter.rest.now ≡ drop (120 * (n + 1)) records-now)
  taken =
      let said = c.in-Some.ensures.steps.0 in
      chunk records-now c.in-Some.held.now c.next.new.self.iter.rest.now n c.loop-i.i-iterator.iter.size c.loop-i.invariant.by_ten
      (sym c.loop-i.invariant.left ∙ said.1.0) (said.1.1 ∙ ap (λ (l : List ℕ). min c.loop-i.i-iterator.iter.size (length l)) c.loop-i.invariant.left)

  held-is : c.in-Some.held.now ≡ held_words (1 + c.in-Some.i) records-now
  unfolding held_words
  held-is = let place : 1 + c.in-Some.i - 1 ≡ n = omega (arith, turn) in rw place taken.0

  more : 120 * n < length records-now
  more = let said = c.in-Some.ensures.steps.0 in
      omega (arith, said.1.2, ap length c.loop-i.invariant.left, length-drop (120 * n) records-now)

  there : 1 + c.in-Some.i < blocks_for hourly (hour_of_lists c.args.lists.now.head.now records-now)
  there = omega (
    arith,
    more,
    turn,
    block_count c.args.lists.now.head.now records-now,
    c.args.lists.now.whole.records_whole,
    said_count hourly c.args.lists.now.head.now records-now,
  )

  held-short : length c.in-Some.held.now ≤ 120
  held-short = omega (arith, ap length held-is, held_few c.args.lists.now.head.now records-now c.args.lists.now.whole (1 + c.in-Some.i) (omega arith) there)

-- put_at(file, 1 + i, 2, (held.len() / 12) as u32, held)
pub put_at-requires-in-loop-i : goal.put_at-requires-in-loop-i
put_at-requires-in-loop-i c =
    let put = (goal.at.put_at-requires-in-loop-i c).After-put_at in
    let all = (goal.at.put_at-requires-in-loop-i c).After-blocks-blocks in
    let turn = (goal.at.put_at-requires-in-loop-i c).In-Some in
    let long : 512 ≤ length c.args.file.now = omega (arith, room all, some_blocks all) in (
      omega (arith, there turn, room all, blocks_are all, filled_length c.loop-i.invariant.filled, begun-length put long),
      omega (arith, there turn, blocks_are all, few all),
      held-short turn,
    )

pub loop-i-preserved : goal.loop-i-preserved
loop-i-preserved c =
    let put = (goal.at.loop-i-preserved c).After-put_at in
    let all = (goal.at.loop-i-preserved c).After-blocks-blocks in
    let this = (goal.at.loop-i-preserved c).In-Some in
    let so_far = c.loop-i.invariant.filled in
    let b = 1 + c.in-Some.i in
    let counted = turn this in
    let here : 512 * (1 + c.loop-i.i-iterator.count) ≡ 512 * b = omega arith in
    let next : 512 * b + 512 ≡ 512 * (1 + c.next.new.self.count) = omega arith in
    let block : (words file : List ℕ) → List ℕ = λ words file. block_placed b (block_bytes 2 b (length words / 12) words) file in record {
      by_ten = search rules;
      left = (taken this).1 ∙ ap (λ (k : ℕ). drop (120 * k) c.args.lists.now.records.now) (sym counted.1);
      filled = record {
        reached = omega (arith, there this, length_is all, blocks_are all, next);
        room = so_far.room;
        holds = c.put_at-in-loop-i.ensures
            ∙ ap₂ block (held-is this) (so_far.holds ∙ ap (λ (k : ℕ). replacing_first (byte put) k (begun put)) here)
            ∙ records_placed c.args.lists.now.head.now c.args.lists.now.records.now c.args.lists.now.whole b (omega arith) (there this) (begun put)
            ∙ ap (λ (k : ℕ). replacing_first (byte put) k (begun put)) next;
      };
    }

-- 512 * blocks
pub overflow_mul-result : goal.overflow_mul-result
overflow_mul-result c = omega (arith, few (goal.at.overflow_mul-result c).After-blocks-blocks)

pub returns : goal.returns
returns c =
    let put = (goal.at.returns c).After-put_at in
    let all = (goal.at.returns c).After-blocks-blocks in
    let records = c.args.lists.now.records.now in
    let size = file_length hourly (hour_of_lists c.args.lists.now.head.now records) in
    let none : length c.loop-i.i-iterator.iter.rest.now ≡ 0 = search rules in
    let ended : length records ≤ 120 * c.loop-i.i-iterator.count =
    omega (arith, none, ap length c.loop-i.invariant.left, length-drop (120 * c.loop-i.i-iterator.count) records) in
    let last : blocks all ≤ 1 + c.loop-i.i-iterator.count =
    omega (arith, ended, blocks_are all, block_count c.args.lists.now.head.now records) in record {
      length = sym (length_is all);
      file = first_filled c.loop-i.invariant.filled (omega (arith, length_is all, last))
          ∙ ap (replacing_first (byte put) size) (first-put put)
          ∙ replacing_longer (byte put) 512 size c.args.file.now (omega (arith, length_is all, some_blocks all));
    }

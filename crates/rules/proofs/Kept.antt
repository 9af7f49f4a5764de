-- A file that passes rows 1 to 5 keeps its ranges. Document 01, "Units and ranges", "Refusal numbers and their order".
use mathlib.Core.Path.{◌≡◌, refl}
use mathlib.Core.Bool.{true, false, ◌||◌}
use Rattle.std.specs.Prelude.{Option, None, Some}
use mathlib.Core.List.{List}
use Prim.Native.Nat.{ℕ, ◌+◌, ◌-◌, ◌*◌, ◌/◌, ◌%◌, ◌≤◌, ◌<◌, zero-le}
use native.Mathlib.Omega.{arith}
use lib.ListN.{get_or}
use lib.Dec.{ltb, leb, eqb}
use borrow.Author.Tests.{leb-false, lt-ltb, le-ltb, ne_eqb, not-false}
use Rattle.whole.specs.Signed.{Under}
use Rattle.whole.proofs.Tests.{split, never, cond_ind}
use Rattle.whole.proofs.Linear.{zo}
use Rattle.whole.proofs.Ranges.{upto_pos}
use Rattle.whole.proofs.Search.{first_none}
use Rattle.rules.specs.declared.Kind.{Kind}
use Rattle.rules.specs.declared.Kind.TheVariants.{Generator, RealTimeLoad, ProfileLoad, Import, Export, Unknown}
use Rattle.rules.specs.declared.Layout.{Layout}
use Rattle.rules.specs.declared.Rule.{Rule}
use Rattle.rules.specs.Record.{Hour, members, zones, areas, zone_price, zone_of, tie_in, tie_out, member_of, area_of}
use Rattle.rules.specs.Record.{kind_of, is_generator, is_import, signed, actual, entry, entry_of}
use Rattle.rules.specs.HourFile.{hourly, length_bad, blocks, block_word, record_count, hour_of, hour_in}
use Rattle.rules.specs.Ranges.{first_broken, must_be_zero, count_rule, block_rule, area_rule, head_rule, rules_of, record_rule, hourly_form}
use Rattle.rules.specs.Refusals.{is_broken, bad_length, bad_block, bad_head, bad_word, bad_record, block_rows, word_rows, form_rows, hour_rows}
use Rattle.rules.specs.Promised.Demands.{AllWhole}
use Rattle.rules.specs.Inner.Kept.{EntryKept, RecordKept, AreaKept, HourKept, FileKept}
use Rattle.rules.proofs.Rows.{no_place, whole_parts, form_whole, file_whole}
use Rattle.rules.proofs.Words.{Holds, holds, length_is_whole}

-- ---- a search that found nothing

-- no broken word
pub unbroken : (o : Option ℕ) → is_broken o ≡ false → o ≡ None
unbroken None e = refl
unbroken (Some w) e = never refl e

-- no first broken word: every word keeps its rule
pub all_hold : (rule : ℕ → Rule) (word : ℕ → ℕ) (n : ℕ) → first_broken rule word n ≡ None → (w : ℕ) → w < n → Holds (rule w) (word w)
unfolding first_broken
all_hold rule word n e w l = holds (rule w) (word w) (not-false _ (first_none _ n e w l))

-- ---- a record

-- words 3 to 10 keep the rules of a row
record RowHeld (rules : List Rule) (v : ℕ → ℕ) : Type 0 where
  S_held : Holds (get_or rules 0 must_be_zero) (v 3)
  A_held : Holds (get_or rules 1 must_be_zero) (v 4)
  J_held : Holds (get_or rules 2 must_be_zero) (v 5)
  N_held : Holds (get_or rules 3 must_be_zero) (v 6)
  O_held : Holds (get_or rules 4 must_be_zero) (v 7)
  M_held : Holds (get_or rules 5 must_be_zero) (v 8)
  F_held : Holds (get_or rules 6 must_be_zero) (v 9)
  H_held : Holds (get_or rules 7 must_be_zero) (v 10)

pub signed_zero : (w : ℕ) → w ≤ 0 → Under (signed w) 0
unfolding signed
signed_zero w h = let z : w ≡ 0 = omega arith in rw z (record { under = zero-le })

-- words 3 and 4 are energies, or zero; an unknown kind has no row, so that all its words are zero
energies_most : (K : Kind) (v : ℕ → ℕ) → RowHeld (rules_of K) v → (v 3 ≤ 100000) × (v 4 ≤ 100000)
unfolding rules_of
energies_most Generator v f = omega arith
energies_most RealTimeLoad v f = omega arith
energies_most ProfileLoad v f = omega arith
energies_most Import v f = omega arith
energies_most Export v f = omega arith
energies_most Unknown v f = omega arith

-- and A is one of them
actual_most : (K : Kind) (s m : ℕ) → (s ≤ 100000) × (m ≤ 100000) → actual K s m ≤ 100000
unfolding actual
actual_most K s m most = cond_ind (is_import K) s m (λ a. a ≤ 100000) (λ t. most.0) (λ t. most.1)

entry_kept : (K : Kind) (v : ℕ → ℕ) → RowHeld (rules_of K) v → actual (kind_of (v 0)) (v 3) (v 4) ≤ 100000 → EntryKept (entry v)
unfolding rules_of entry
entry_kept Generator v f a = omega (arith, zo)
entry_kept RealTimeLoad v f a = omega (arith, zo)
entry_kept ProfileLoad v f a = omega (arith, zo)
entry_kept Import v f a = omega (arith, zo)
entry_kept Export v f a = omega (arith, zo)
entry_kept Unknown v f a = let j = signed_zero (v 5) f.J_held.1 in omega (arith, zo)

-- the kinds that use the multipliers
multipliers_least : (K : Kind) (v : ℕ → ℕ) → RowHeld (rules_of K) v → (is_generator K || is_import K) ≡ true → (1 ≤ v 9) × (1 ≤ v 10)
unfolding rules_of
multipliers_least Generator v f used = (f.F_held.0, f.H_held.0)
multipliers_least RealTimeLoad v f used = never used refl
multipliers_least ProfileLoad v f used = never used refl
multipliers_least Import v f used = (f.F_held.0, f.H_held.0)
multipliers_least Export v f used = never used refl
multipliers_least Unknown v f used = never used refl

-- ---- an hour

module _ (h : Hour) (head_whole : bad_head hourly_form h ≡ None) (records_whole : bad_record hourly_form h ≡ None) where
  head_holds : (w : ℕ) → w < 128 → Holds (head_rule (zones h) (areas h) w) (h.head w)
  unfolding bad_head
  head_holds w l = all_hold (head_rule (zones h) (areas h)) h.head 128 head_whole w l

  -- words 9 to 11
  counts_held : ((1 ≤ members h) × (members h ≤ 32)) × ((1 ≤ zones h) × (zones h ≤ 4)) × ((1 ≤ areas h) × (areas h ≤ 8))
  unfolding head_rule
  counts_held = (head_holds 9 (omega arith), head_holds 10 (omega arith), head_holds 11 (omega arith))

  -- words 12 to 15
  price_held : (z : ℕ) → z < zones h → Under (zone_price h z) 1000000
  unfolding head_rule zone_price
  price_held z l =
      let few : zones h ≤ 4 = counts_held.1.1 in
      let w : ℕ = 12 + z in
      let from-12 : w - 12 ≡ z = omega arith in
      rw (le-ltb w 9 (omega arith), le-ltb w 12 (omega arith), lt-ltb w 16 (omega arith), from-12, lt-ltb z (zones h) l) at
      (head_holds w (omega arith))

  -- word f of area a
  area_holds : (a f w : ℕ) → a < areas h → f < 4 → w ≡ 16 + 4 * a + f → Holds (area_rule (zones h) f) (h.head w)
  unfolding head_rule
  area_holds a f w l m e =
      let few : areas h ≤ 8 = counts_held.2.1 in
      let area-is : (w - 16) / 4 ≡ a = omega arith in
      let word_is : (w - 16) % 4 ≡ f = omega arith in
      rw (
        le-ltb w 9 (omega arith),
        le-ltb w 12 (omega arith),
        le-ltb w 16 (omega arith),
        lt-ltb w 48 (omega arith),
        area-is,
        word_is,
        lt-ltb a (areas h) l,
      ) at (head_holds w (omega arith))

  area_kept : (a : ℕ) → a < areas h → AreaKept h a
  unfolding area_rule zone_of tie_in tie_out
  area_kept a l = record {
    zone_there = area_holds a 0 (16 + 4 * a) l (omega arith) (omega arith);
    tie_in_lem = upto_pos _ _ (area_holds a 1 (17 + 4 * a) l (omega arith) (omega arith)).1;
    tie_out_lem = upto_pos _ _ (area_holds a 2 (18 + 4 * a) l (omega arith) (omega arith)).1;
  }

  word_holds : (i w : ℕ) → i < h.count → w < 12 → Holds (record_rule (members h) (areas h) (h.rec i 0) w) (h.rec i w)
  unfolding bad_record bad_word
  word_holds i w l m =
      all_hold (record_rule (members h) (areas h) (h.rec i 0)) (h.rec i) 12 (unbroken _ (first_none _ h.count records_whole i l)) w m

  row_held : (i : ℕ) → i < h.count → RowHeld (rules_of (kind_of (h.rec i 0))) (h.rec i)
  unfolding record_rule
  row_held i l = record {
    S_held = word_holds i 3 l (omega arith);
    A_held = word_holds i 4 l (omega arith);
    J_held = word_holds i 5 l (omega arith);
    N_held = word_holds i 6 l (omega arith);
    O_held = word_holds i 7 l (omega arith);
    M_held = word_holds i 8 l (omega arith);
    F_held = word_holds i 9 l (omega arith);
    H_held = word_holds i 10 l (omega arith);
  }

  record_kept : (i : ℕ) → i < h.count → RecordKept h i
  unfolding record_rule member_of area_of entry_of entry
  record_kept i l =
      let kind-held : (1 ≤ h.rec i 0) × (h.rec i 0 ≤ 5) = word_holds i 0 l (omega arith) in
      let most = energies_most (kind_of (h.rec i 0)) (h.rec i) (row_held i l) in record {
        kind_least = kind-held.0;
        kind_most = kind-held.1;
        member_there = word_holds i 1 l (omega arith);
        area_there = word_holds i 2 l (omega arith);
        demand_most = actual_most _ _ _ most;
        entry_kept = entry_kept (kind_of (h.rec i 0)) (h.rec i) (row_held i l) (actual_most _ _ _ most);
        multipliers_least = multipliers_least (kind_of (h.rec i 0)) (h.rec i) (row_held i l);
      }

  -- An hour of at most 250 records whose head and records pass rows 4 and 5 keeps the ranges of document 01.
  pub hour_kept : h.count ≤ 250 → HourKept h
  hour_kept few = record {
    members_least = counts_held.0.0;
    members_most = counts_held.0.1;
    zones_least = counts_held.1.0;
    zones_most = counts_held.1.1;
    areas_least = counts_held.2.0;
    areas_most = counts_held.2.1;
    count_most = few;
    price_in = price_held;
    area_kept = area_kept;
    record_kept = record_kept;
  }

-- ---- a file

-- in any layout
module _ (l : Layout) (s : List ℕ) (blocks_whole : bad_block l s ≡ None) where
  -- word 2 of a block other than the first: at most so many records as a block may hold
  pub held_most : (b : ℕ) → 1 ≤ b → b < blocks s → block_word s b 2 ≤ l.records
  unfolding bad_block block_rule count_rule
  held_most b m n =
      let other : eqb b 0 ≡ false = ne_eqb b 0 (λ e. omega arith) in
      let k = all_hold (block_rule l (blocks s) (block_word s b 2) b) (block_word s b) 128
      (unbroken _ (first_none _ (blocks s) blocks_whole b n)) 2 (omega arith) in
      split (ltb (b + 1) (blocks s)) (λ e. (rw (other, e) at k).1) (λ e. (rw (other, e) at k).1)

module _ (s : List ℕ) (length_whole : bad_length hourly s ≡ None) (blocks_whole : bad_block hourly s ≡ None) where
  length_good : length_bad hourly s ≡ false
  unfolding bad_length
  length_good = no_place (length_bad hourly s) length_whole

  -- at most 26 blocks: 24 full ones between the first and the last
  count_most : (hour_in s).count ≤ 250
  unfolding hour_of record_count
  count_most = let n = length_is_whole hourly s length_good in split (leb (blocks s) 1)
      (λ e. rw e zero-le)
      (λ e. let m : 1 < blocks s = leb-false (blocks s) 1 e in
      let held : block_word s (blocks s - 1) 2 ≤ 10 = held_most hourly s blocks_whole (blocks s - 1) (omega arith) (omega arith) in
      rw e (omega arith))

-- A file whose rows 1 to 5 are whole keeps the ranges of document 01.
pub file_kept : (s : List ℕ) → AllWhole (form_rows hourly_form s) → FileKept s
unfolding form_rows block_rows word_rows
file_kept s w =
    let parts = (whole_parts (block_rows hourly s) (word_rows hourly_form (hour_in s))).0 w in
    let length_whole : bad_length hourly s ≡ None = parts.0.0 in
    let blocks_whole : bad_block hourly s ≡ None = parts.0.1.1.0 in
    record {
      length_good = length_good s length_whole blocks_whole;
      hour_kept = hour_kept (hour_in s) parts.1.0 parts.1.1.0 (count_most s length_whole blocks_whole);
    }

-- so does a file that passes the rows of a statement
pub passed_kept : (s : List ℕ) → AllWhole (hour_rows s) → FileKept s
passed_kept s w = file_kept s (form_whole s (file_whole s w))

-- A ten-minute file that passes rows 1 to 5 keeps its ranges. Document 02, A7.
use mathlib.Core.Path.{◌≡◌, refl}
use mathlib.Core.Bool.{Bool, true, false, cond}
use Rattle.std.specs.Prelude.{None}
use mathlib.Core.List.{List}
use Prim.Native.Nat.{ℕ, zero, suc, ◌+◌, ◌-◌, ◌*◌, ◌/◌, ◌%◌, ◌≤◌, ◌<◌, zero-le}
use native.Mathlib.Nat.{le_refl}
use native.Mathlib.Omega.{arith}
use lib.IntN.{ℤ, pos, neg_ℤ, ◌+ℤ◌, ◌-ℤ◌}
use lib.ListN.{get_or}
use lib.Dec.{leb, eqb}
use borrow.Author.Tests.{leb-false, lt-ltb, le-ltb}
use Rattle.whole.specs.Signed.{Under, Upto}
use Rattle.whole.proofs.Tests.{split, cond_ind}
use Rattle.whole.proofs.Linear.{zr, all1, all2}
use Rattle.whole.proofs.Ranges.{◌u*◌, u_lit, upto_pos}
use Rattle.whole.proofs.Search.{first_none}
use Rattle.whole.proofs.Tables.{EachBelow, at_each}
use Rattle.rules.specs.declared.Kind.{Kind}
use Rattle.rules.specs.declared.Kind.TheVariants.{Generator, RealTimeLoad, ProfileLoad, Import, Export, Unknown}
use Rattle.rules.specs.declared.Rule.{Rule}
use Rattle.rules.specs.Record.{Hour, members, zones, areas, zone_of, member_of, area_of, kind_of, is_import, is_profile, signed}
use Rattle.rules.specs.HourFile.{ten_minutes, length_bad, blocks, block_word, record_count, hour_of}
use Rattle.rules.specs.Ranges.{must_be_zero, ten_minutes_head_rule, ten_minutes_rules_of, ten_minutes_record_rule, ten_minutes_form}
use Rattle.rules.specs.Refusals.{bad_length, bad_block, bad_head, bad_word, bad_record, block_rows, word_rows, form_rows}
use Rattle.rules.specs.TenMinutes.{a_sixth, is_ramped, kind_in, this_hour, hour_before, next_hour, ramp_part, scheduled_in, actual_in}
use Rattle.rules.specs.TenMinutes.{interval_entry, interval_of, incremental, decremental, ten_minutes_in}
use Rattle.rules.specs.Promised.Demands.{AllWhole}
use Rattle.rules.specs.Inner.Kept.{IntervalWords, IntervalKept, TenMinutesRecordKept, TenMinutesKept, TenMinutesFileKept}
use Rattle.rules.proofs.Rows.{no_place, whole_parts}
use Rattle.rules.proofs.Words.{Holds, length_is_whole}
use Rattle.rules.proofs.Kept.{unbroken, all_hold, signed_zero, held_most}

-- ---- a record

each : {P : ℕ → Type 0} (n : ℕ) → ((i : ℕ) → i < n → P i) → EachBelow P n
each zero f = tt
each (suc n) f = (each n (λ i l. f i (omega arith)), f n (le_refl (suc n)))

-- words 3 to 25 keep the rules of a row
abbrev Held : List Rule → (ℕ → ℕ) → Type 0
Held rules v = EachBelow (λ j. Holds (get_or rules j must_be_zero) (v (3 + j))) 23

record WordsHeld (v : ℕ → ℕ) : Type 0 where
  this_most : v 3 ≤ 100000
  before_most : v 4 ≤ 100000
  next_most : v 5 ≤ 100000
  F_most : v 6 ≤ 20000
  H_most : v 7 ≤ 20000
  actuals_most : EachBelow (λ k. v (8 + k) ≤ 100000) 6
  adjustments_in : EachBelow (λ k. Under (signed (v (14 + k))) 100000) 6
  ancillary_most : EachBelow (λ k. v (20 + k) ≤ 100000) 6

words_held : (K : Kind) (v : ℕ → ℕ) → Held (ten_minutes_rules_of K) v → WordsHeld v
unfolding ten_minutes_rules_of
words_held Generator v f = omega arith
words_held RealTimeLoad v f = omega arith
words_held ProfileLoad v f = omega arith
words_held Import v f = omega arith
words_held Export v f = omega arith
words_held Unknown v f =
    let none_in : (n : ℕ) → v n ≤ 0 → Under (signed (v n)) 0 = λ n l. signed_zero (v n) l in
    let a = none_in 14 (omega arith) in
    let b = none_in 15 (omega arith) in
    let c = none_in 16 (omega arith) in
    let d = none_in 17 (omega arith) in
    let e = none_in 18 (omega arith) in
    let g = none_in 19 (omega arith) in
    omega arith

words_kept : (K : Kind) (v : ℕ → ℕ) → Held (ten_minutes_rules_of K) v → IntervalWords v
words_kept K v f = let w = words_held K v f in record {
  this_most = w.this_most;
  before_most = w.before_most;
  next_most = w.next_most;
  F_most = w.F_most;
  H_most = w.H_most;
  actuals_most = at_each (λ k. v (8 + k) ≤ 100000) 6 w.actuals_most;
  adjustments_in = at_each (λ k. Under (signed (v (14 + k))) 100000) 6 w.adjustments_in;
  ancillary_most = at_each (λ k. v (20 + k) ≤ 100000) 6 w.ancillary_most;
}

-- ---- an interval

first_in : (s p : ℤ) → Upto s 100000 → Upto p 100000 → Upto (a_sixth s +ℤ neg_ℤ (s -ℤ p)) 400000
first_in = all2 _ (λ s p. simp zr (omega arith))

last_in : (s x : ℤ) → Upto s 100000 → Upto x 100000 → Upto (a_sixth s +ℤ (x -ℤ s)) 400000
last_in = all2 _ (λ s x. simp zr (omega arith))

sixth_in : (s : ℤ) → Upto s 100000 → Upto (a_sixth s +ℤ pos 0) 400000
sixth_in = all1 _ (λ s. simp zr (omega arith))

-- in every interval the same range, which the first and the last reach with the hours beside
schedule_in : (ramped first last : Bool) (s p x : ℤ) → Upto s 100000 → Upto p 100000 → Upto x 100000 →
    Upto (a_sixth s +ℤ cond ramped (cond first (neg_ℤ (s -ℤ p)) (cond last (x -ℤ s) (pos 0))) (pos 0)) 400000
schedule_in false first last s p x a b c = sixth_in s a
schedule_in true true last s p x a b c = first_in s p a b
schedule_in true false true s p x a b c = last_in s x a c
schedule_in true false false s p x a b c = sixth_in s a

module _ (v : ℕ → ℕ) (kept : IntervalWords v) (k : ℕ) (there : k < 6) where
  actual_in_lem : Upto (actual_in v k) 2400000
  unfolding actual_in
  actual_in_lem = cond_ind (is_import (kind_in v)) _ _ (λ a. Upto a 2400000)
      (λ t. upto_pos (4 * v 3) 2400000 (let l = kept.this_most in omega arith))
      (λ t. cond_ind (is_profile (kind_in v)) _ _ (λ a. Upto a 2400000)
      (λ t. upto_pos (4 * v 8) 2400000 (let l = kept.actuals_most 0 (omega arith) in omega arith))
      (λ t. upto_pos (24 * v (8 + k)) 2400000 (let l = kept.actuals_most k there in omega arith)))

  scheduled_in_lem : Upto (scheduled_in v k) 400000
  unfolding scheduled_in ramp_part
  scheduled_in_lem = schedule_in (is_ramped (kind_in v)) (eqb k 0) (eqb k 5) (this_hour v) (hour_before v) (next_hour v)
      (upto_pos (v 3) 100000 kept.this_most) (upto_pos (v 4) 100000 kept.before_most) (upto_pos (v 5) 100000 kept.next_most)

  pub interval_kept : IntervalKept (interval_entry v k)
  unfolding interval_entry
  interval_kept = record {
    S_in = scheduled_in_lem;
    A_in = actual_in_lem;
    J_in = u_lit (pos 24) u* kept.adjustments_in k there;
    N_in = upto_pos (24 * v (20 + k)) 2400000
        (let l = kept.ancillary_most k there in omega arith);
    none_owed = refl;
    maximum_is = refl;
    F_in = upto_pos (v 6) 20000 kept.F_most;
    H_in = upto_pos (v 7) 20000 kept.H_most;
  }

-- ---- an hour

module _ (h : Hour) (head_whole : bad_head ten_minutes_form h ≡ None) (records_whole : bad_record ten_minutes_form h ≡ None) where
  head_holds : (w : ℕ) → w < 128 → Holds (ten_minutes_head_rule (zones h) (areas h) w) (h.head w)
  unfolding bad_head
  head_holds w l = all_hold (ten_minutes_head_rule (zones h) (areas h)) h.head 128 head_whole w l

  -- words 9 to 11
  counts_held : ((1 ≤ members h) × (members h ≤ 32)) × ((1 ≤ zones h) × (zones h ≤ 4)) × ((1 ≤ areas h) × (areas h ≤ 8))
  unfolding ten_minutes_head_rule
  counts_held = (head_holds 9 (omega arith), head_holds 10 (omega arith), head_holds 11 (omega arith))

  -- from word 48 on, twelve prices a zone
  price_held : (z j w : ℕ) → z < zones h → j < 12 → w ≡ 48 + 12 * z + j → Under (signed (h.head w)) 100000
  unfolding ten_minutes_head_rule
  price_held z j w l m e =
      let few : zones h ≤ 4 = counts_held.1.1 in
      let zone-is : (w - 48) / 12 ≡ z = omega arith in
      rw (
        le-ltb w 9 (omega arith),
        le-ltb w 12 (omega arith),
        le-ltb w 16 (omega arith),
        le-ltb w 48 (omega arith),
        lt-ltb w 96 (omega arith),
        zone-is,
        lt-ltb z (zones h) l,
      ) at (head_holds w (omega arith))

  zone_there : (a : ℕ) → a < areas h → zone_of h a < zones h
  unfolding ten_minutes_head_rule zone_of
  zone_there a l =
      let few : areas h ≤ 8 = counts_held.2.1 in
      let w : ℕ = 16 + 4 * a in
      let area-is : (w - 16) / 4 ≡ a = omega arith in
      let word_is : (w - 16) % 4 ≡ 0 = omega arith in
      rw (
        le-ltb w 9 (omega arith),
        le-ltb w 12 (omega arith),
        le-ltb w 16 (omega arith),
        lt-ltb w 48 (omega arith),
        area-is,
        word_is,
        lt-ltb a (areas h) l,
      ) at (head_holds w (omega arith))

  word_holds : (i w : ℕ) → i < h.count → w < 30 → Holds (ten_minutes_record_rule (members h) (areas h) (h.rec i 0) w) (h.rec i w)
  unfolding bad_record bad_word
  word_holds i w l m =
      all_hold (ten_minutes_record_rule (members h) (areas h) (h.rec i 0)) (h.rec i) 30
      (unbroken _ (first_none _ h.count records_whole i l)) w m

  record_kept : (i : ℕ) → i < h.count → TenMinutesRecordKept h i
  unfolding ten_minutes_record_rule member_of area_of interval_of
  record_kept i l =
      let kind-held : (1 ≤ h.rec i 0) × (h.rec i 0 ≤ 5) = word_holds i 0 l (omega arith) in
      let held : Held (ten_minutes_rules_of (kind_of (h.rec i 0))) (h.rec i) = each 23 (λ j m. word_holds i (3 + j) l (omega arith)) in
      record {
        kind_least = kind-held.0;
        kind_most = kind-held.1;
        member_there = word_holds i 1 l (omega arith);
        area_there = word_holds i 2 l (omega arith);
        words_kept = words_kept (kind_of (h.rec i 0)) (h.rec i) held;
        interval_kept = interval_kept (h.rec i) (words_kept (kind_of (h.rec i 0)) (h.rec i) held);
      }

  -- An hour of at most 64 records whose head and records pass rows 4 and 5 keeps its ranges.
  pub ten_minutes_kept : h.count ≤ 64 → TenMinutesKept h
  unfolding incremental decremental
  ten_minutes_kept few = record {
    members_least = counts_held.0.0;
    members_most = counts_held.0.1;
    zones_least = counts_held.1.0;
    zones_most = counts_held.1.1;
    areas_least = counts_held.2.0;
    areas_most = counts_held.2.1;
    count_most = few;
    incremental_in = λ z k l m. price_held z k (48 + 12 * z + k) l (omega arith) refl;
    decremental_in = λ z k l m. price_held z (6 + k) (54 + 12 * z + k) l (omega arith) (omega arith);
    zone_there = zone_there;
    record_kept = record_kept;
  }

-- ---- a file

module _ (s : List ℕ) (length_whole : bad_length ten_minutes s ≡ None) (blocks_whole : bad_block ten_minutes s ≡ None) where
  length_good : length_bad ten_minutes s ≡ false
  unfolding bad_length
  length_good = no_place (length_bad ten_minutes s) length_whole

  -- at most 17 blocks: 15 full ones between the first and the last
  count_most : (ten_minutes_in s).count ≤ 64
  unfolding hour_of record_count
  count_most = let n = length_is_whole ten_minutes s length_good in split (leb (blocks s) 1)
      (λ e. rw e zero-le)
      (λ e. let m : 1 < blocks s = leb-false (blocks s) 1 e in
      let held : block_word s (blocks s - 1) 2 ≤ 4 = held_most ten_minutes s blocks_whole (blocks s - 1) (omega arith) (omega arith) in
      rw e (omega arith))

-- A file whose rows 1 to 5 are whole keeps the ranges of document 02, A7.
pub ten_minutes_file_kept : (s : List ℕ) → AllWhole (form_rows ten_minutes_form s) → TenMinutesFileKept s
unfolding form_rows block_rows word_rows
ten_minutes_file_kept s w =
    let parts = (whole_parts (block_rows ten_minutes s) (word_rows ten_minutes_form (ten_minutes_in s))).0 w in
    let length_whole : bad_length ten_minutes s ≡ None = parts.0.0 in
    let blocks_whole : bad_block ten_minutes s ≡ None = parts.0.1.1.0 in
    record {
      length_good = length_good s length_whole blocks_whole;
      hour_kept = ten_minutes_kept (ten_minutes_in s) parts.1.0 parts.1.1.0 (count_most s length_whole blocks_whole);
    }

-- The searches of rows 3 to 5 as the code makes them: which words of a block and of the head must be zero; the first fault of the records.
use mathlib.Core.Path.{◌≡◌, refl, sym, ◌∙◌, ap, ap₂}
use mathlib.Core.Bool.{Bool, true, false, not, cond, ◌&&◌}
use Rattle.std.specs.Prelude.{Option, None, Some}
use Rattle.std.proofs.lemmas.Option.{same_Some}
use Rattle.rules.specs.Text.{bind}
use mathlib.Core.List.{List}
use Prim.Native.Nat.{ℕ, ◌+◌, ◌-◌, ◌*◌, ◌≤◌, ◌<◌, zero-le}
use native.Mathlib.Omega.{arith}
use lib.ListN.{take, drop}
use lib.Dec.{leb, eqb}
use borrow.Author.Tests.{leb-false, eqb-true, lt-ltb, le-ltb, lt-leb, eq-eqb, ne_eqb}
use Rattle.whole.proofs.Tests.{split, never, never_some}
use Rattle.whole.specs.Below.{first_below}
use Rattle.whole.proofs.Search.{first_some, first_more, first_rest, first_ext, none_below}
use Rattle.rules.specs.declared.Layout.{Layout}
use Rattle.rules.specs.declared.Rule.TheVariants.{Any}
use Rattle.rules.specs.Record.{Hour}
use Rattle.rules.specs.HourFile.{word, blocks, block_word, record_count}
use Rattle.rules.specs.Ranges.{keeps, first_broken, past_rule, block_rule, head_rule, Form}
use Rattle.rules.specs.Refusals.{is_broken, bad_block, bad_word, bad_record, first_fault}
use Rattle.rules.proofs.RuleTables.{zero_kept, block_words}
use Rattle.rules.proofs.PartWords.{block_part_word}
use Rattle.rules.proofs.Kept.{unbroken, held_most}

-- ---- a block: words 0 to 6, and those past its records

broken_more : (p : ℕ → Bool) (n m : ℕ) → n ≤ m → is_broken (first_below p n) ≡ true → is_broken (first_below p m) ≡ true
broken_more p n m l e = step (first_below p n) refl e
  where
    step : (o : Option ℕ) → first_below p n ≡ o → is_broken o ≡ true → is_broken (first_below p m) ≡ true
    step None q e = never e refl
    step (Some i) q e = ap is_broken (first_more p n m i q l)

module _ (layout : Layout) (n held b : ℕ) where
  -- where the records end
  abbrev past : ℕ
  past = 8 + layout.words * held

  body_rule : (w : ℕ) → 7 ≤ w → block_rule layout n held b w ≡ cond (eqb w 7) Any (past_rule layout held b w)
  unfolding block_rule
  body_rule w l =
      rw block_words (rw (ne_eqb w 0 (λ e. omega arith), ne_eqb w 1 (λ e. omega arith), ne_eqb w 2 (λ e. omega arith), le-ltb w 7 l))

  pub body_any : (w v : ℕ) → b ≡ 0 → 7 ≤ w → not (keeps (block_rule layout n held b w) v) ≡ false
  unfolding past_rule keeps
  body_any w v e l = rw (body_rule w l) (split (eqb w 7) (λ t. rw t) (λ t. rw (t, eq-eqb b 0 e)))

  pub past_records : (w v : ℕ) → (b ≡ 0 → ⊥) → 7 ≤ w → not (keeps (block_rule layout n held b w) v) ≡ (leb past w && not (eqb v 0))
  unfolding past_rule keeps
  past_records w v f l = rw (body_rule w l) (split (eqb w 7)
      (λ t. rw (t, lt-leb past w (omega (arith, eqb-true w 7 t))))
      (λ t. split (leb past w) (λ u. rw (t, ne_eqb b 0 f, u) (ap not (zero_kept v))) (λ u. rw (t, ne_eqb b 0 f, u))))

  module _ (word : ℕ → ℕ) where
    abbrev broken_below : ℕ → Option ℕ
    broken_below = first_broken (block_rule layout n held b) word

    pub front_broken : is_broken (broken_below 7) ≡ true → is_broken (broken_below 128) ≡ true
    unfolding first_broken
    front_broken e = broken_more _ 7 128 (omega arith) e

    -- the body of the first block is for row 4
    pub first_block_whole : is_broken (broken_below 7) ≡ false → b ≡ 0 → is_broken (broken_below 128) ≡ false
    unfolding first_broken
    first_block_whole e z = ap is_broken
        (first_rest _ (λ w. false) 7 128 (unbroken _ e) (λ w l. refl) (λ w l m. body_any w (word w) z l) ∙ none_below _ 128 (λ w l. refl))

    -- another block has zeros past its records
    pub past_front : is_broken (broken_below 7) ≡ false → (b ≡ 0 → ⊥) →
        broken_below 128 ≡ first_below (λ w. leb past w && not (eqb (word w) 0)) 128
    unfolding first_broken
    past_front e f =
        first_rest _ _ 7 128 (unbroken _ e) (λ w l. rw (lt-leb past w (omega arith))) (λ w l m. past_records w (word w) f l)

-- the layout of a block, read from its own 512 bytes
pub block_part_broken : (layout : Layout) (s : List ℕ) (n b : ℕ) →
    is_broken (first_broken (block_rule layout n (word (take 512 (drop (512 * b) s)) 2) b) (word (take 512 (drop (512 * b) s))) 128)
    ≡ is_broken (first_broken (block_rule layout n (block_word s b 2) b) (block_word s b) 128)
unfolding first_broken
block_part_broken layout s n b = ap is_broken (first_ext _ _ 128 (λ w l. ap₂
    (λ (held v : ℕ). not (keeps (block_rule layout n held b w) v)) (block_part_word s b 2 (omega arith)) (block_part_word s b w l)))

-- ---- the head

module _ (zones areas : ℕ) where
  -- words up to 8 may be anything
  pub head_any : (w v : ℕ) → w < 9 → not (keeps (head_rule zones areas w) v) ≡ false
  unfolding head_rule keeps
  head_any w v l = rw (lt-ltb w 9 l)

  -- from word 48 on they must be zero
  pub head_zero : (w v : ℕ) → 48 ≤ w → not (keeps (head_rule zones areas w) v) ≡ not (eqb v 0)
  unfolding head_rule
  head_zero w v l =
      rw (le-ltb w 9 (omega arith), le-ltb w 12 (omega arith), le-ltb w 16 (omega arith), le-ltb w 48 l) (ap not (zero_kept v))

-- ---- the first fault: the first bad record, and in it the first bad word

-- a bad word, if there is one, as the fault of record i
abbrev in_record : ℕ → Option ℕ → Option (ℕ × ℕ)
in_record i word = bind {B = ℕ × ℕ} word (λ w. Some (i, w))

same_record : (j i w : ℕ) (o : Option ℕ) → in_record j o ≡ Some (i, w) → j ≡ i
same_record j i w None e = never_some (sym e)
same_record j i w (Some v) e = ap (λ (fault : ℕ × ℕ). fault.0) (same_Some (j, v) (i, w) e)

has_a_word : (j : ℕ) (o : Option ℕ) → is_broken o ≡ true → in_record j o ≡ None → ⊥
has_a_word j None b e = never b refl
has_a_word j (Some v) b e = never_some e

-- in any kind of file
module _ (f : Form) (h : Hour) where
  -- what the search finds
  pub fault_at_lem : (i w : ℕ) → bad_record f h ≡ Some i → bad_word f h i ≡ Some w → first_fault f h ≡ Some (i, w)
  unfolding first_fault
  fault_at_lem i w e g = rw (e, g)

  pub no_fault : bad_record f h ≡ None → first_fault f h ≡ None
  unfolding first_fault
  no_fault e = rw e

  -- what it found says which record is bad, or that none is
  pub fault_record : (i w : ℕ) → first_fault f h ≡ Some (i, w) → bad_record f h ≡ Some i
  unfolding first_fault
  fault_record i w e = step (bad_record f h) e
    where
      step : (o : Option ℕ) → bind o (λ j. in_record j (bad_word f h j)) ≡ Some (i, w) → o ≡ Some i
      step None e = never_some (sym e)
      step (Some j) e = ap Some (same_record j i w (bad_word f h j) e)

  pub fault_nowhere : first_fault f h ≡ None → bad_record f h ≡ None
  unfolding first_fault bad_record
  fault_nowhere e = step (bad_record f h) refl e
    where
      step : (o : Option ℕ) → bad_record f h ≡ o → bind o (λ j. in_record j (bad_word f h j)) ≡ None → bad_record f h ≡ None
      step None q e = q
      step (Some j) q e = absurd (has_a_word j (bad_word f h j) ((first_some (λ i. is_broken (bad_word f h i)) h.count j).0 q).1 e)

-- ---- a file whose blocks keep the layout holds no more records than its blocks may

one_block_more : (full n : ℕ) → 1 < n → full * (n - 1) ≡ full * (n - 2) + full
one_block_more full n m = ap (λ (k : ℕ). full * k) back ∙ more full (n - 2)
  where
    back : n - 1 ≡ n - 2 + 1
    back = omega arith

    more : (full k : ℕ) → full * (k + 1) ≡ full * k + full
    more full k = omega arith

pub few_records : (layout : Layout) (s : List ℕ) → bad_block layout s ≡ None →
    record_count layout s ≤ layout.records * (blocks s - 1)
unfolding record_count
few_records layout s f = split (leb (blocks s) 1)
    (λ t. rw t zero-le)
    (λ t. let m : 1 < blocks s = leb-false (blocks s) 1 t in
    let held = held_most layout s f (blocks s - 1) (omega arith) (omega arith) in
    rw t (omega (arith, one_block_more layout.records (blocks s) m)))

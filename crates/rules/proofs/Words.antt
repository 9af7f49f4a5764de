-- What a rule says of a word, and which words of a file stand in a body, in the head of its hour and in its records.
-- Document 01, "Units and ranges", "The hour file".
use mathlib.Core.Path.{◌≡◌, refl, sym, ◌∙◌}
use mathlib.Core.Bool.{true, false, not, ◌||◌}
use mathlib.Core.List.{List, []}
use Prim.Native.Nat.{ℕ, ◌+◌, ◌*◌, ◌%◌, ◌≤◌, ◌<◌}
use native.Mathlib.Omega.{arith}
use lib.IntN.{nat_abs}
use lib.ListN.{length, get_or, take, drop, length-drop, get_or-eq_default}
use lib.Seq.{length-take-le, get_or-drop, get_or-take}
use lib.Dec.{ltb, leb, eqb}
use borrow.Author.Tests.{ltb-true, ltb-false, leb-true, lt-ltb, le-ltb, le-leb, lt-leb, eqb-true, eqb-false, not-false}
use Rattle.whole.specs.Signed.{Under}
use Rattle.whole.proofs.Tests.{split, both, neither}
use Rattle.rules.specs.declared.Rule.{Rule}
use Rattle.rules.specs.declared.Rule.TheVariants.{Any, Between, LessThan, AtMostInSize}
use Rattle.rules.specs.Record.{signed}
use Rattle.rules.specs.Ranges.{keeps}
use Rattle.rules.specs.declared.Layout.{Layout}
use Rattle.rules.specs.HourFile.{word, blocks, block_word, length_bad, body, record_count, record_word, hour_of}

-- ---- rules

-- what a rule says of a word that keeps it
abbrev pub Holds : Rule → ℕ → Type 0
Holds Any v = Unit {0}
Holds (Between least most) v = (least ≤ v) × (v ≤ most)
Holds (LessThan n) v = v < n
Holds (AtMostInSize n) v = Under (signed v) n

pub holds : (r : Rule) (v : ℕ) → keeps r v ≡ true → Holds r v
unfolding keeps
holds Any v e = tt
holds (Between least most) v e = let b = both (leb least v) (leb v most) e in (leb-true least v b.0, leb-true v most b.1)
holds (LessThan n) v e = ltb-true v n e
holds (AtMostInSize n) v e = record { under = leb-true (nat_abs (signed v)) n e }

-- ---- the length

-- a length that row 1 lets pass: whole blocks, at least one and at most so many
pub record WholeBlocks (l : Layout) (s : List ℕ) : Type 0 where
  pub no_rest : length s % 512 ≡ 0
  pub most : length s ≤ 512 * l.blocks
  pub at_least_one : 1 ≤ blocks s
  pub all_blocks : length s ≡ 512 * blocks s

module _ (l : Layout) (s : List ℕ) where
  pub length_is_whole : length_bad l s ≡ false → WholeBlocks l s
  unfolding length_bad blocks
  length_is_whole e =
      let a = neither (eqb (length s) 0 || not (eqb (length s % 512) 0)) (ltb (512 * l.blocks) (length s)) e in
      let b = neither (eqb (length s) 0) (not (eqb (length s % 512) 0)) a.0 in
      let some : length s ≡ 0 → ⊥ = eqb-false (length s) 0 b.0 in
      let rest : length s % 512 ≡ 0 = eqb-true (length s % 512) 0 (not-false _ b.1) in
      let most : length s ≤ 512 * l.blocks = ltb-false (512 * l.blocks) (length s) a.1 in
      record { no_rest = rest; most = most; at_least_one = omega arith; all_blocks = omega arith }

-- ---- the block reader

module _ (l : Layout) (s : List ℕ) (b : ℕ) where
  pub body_length : length_bad l s ≡ false → b < blocks s → length (body l s b) ≡ 480
  unfolding body
  body_length e h =
      let w = length_is_whole l s e in
      rw (e, lt-leb (blocks s) b h) (length-take-le 480 (drop (512 * b + 32) s) (omega (arith, length-drop (512 * b + 32) s)))

  -- the bytes behind the block's own words, where the length is good and the block is there
  pub body_there : length_bad l s ≡ false → b < blocks s → body l s b ≡ take 480 (drop (512 * b + 32) s)
  unfolding body
  body_there e h = rw (e, lt-leb (blocks s) b h)

  -- otherwise the part is empty: the length is bad, or there is no such block
  pub body_empty_bad : length_bad l s ≡ true → body l s b ≡ []
  unfolding body
  body_empty_bad e = rw e

  pub body_empty_past : blocks s ≤ b → body l s b ≡ []
  unfolding body
  body_empty_past h = split (length_bad l s) (λ e. rw e) (λ e. rw (e, le-leb (blocks s) b h))

  -- past the last block both are 0
  body_byte : length_bad l s ≡ false → (i j : ℕ) → i < 480 → j ≡ 512 * b + 32 + i → get_or (body l s b) i 0 ≡ get_or s j 0
  unfolding body
  body_byte e i j h q = split (leb (blocks s) b)
      (λ t. rw (e, t, q) (sym (past t)))
      (λ t. rw (e, t, q) (get_or-take 480 (drop (512 * b + 32) s) i 0 h ∙ get_or-drop (512 * b + 32) s i 0))
    where
      past : leb (blocks s) b ≡ true → get_or s (512 * b + 32 + i) 0 ≡ 0
      past t = let w = length_is_whole l s e in let m = leb-true (blocks s) b t in get_or-eq_default s 0 (omega arith)

  -- the k-th word of a body is word 8 + k of its block
  pub body_word_lem : length_bad l s ≡ false → (k : ℕ) → k < 120 → word (body l s b) k ≡ block_word s b (8 + k)
  unfolding word block_word
  body_word_lem e k h =
      let at : ℕ = 4 * (128 * b + (8 + k)) in
      rw (
        body_byte e (4 * k) at (omega arith) (omega arith),
        body_byte e (4 * k + 1) (at + 1) (omega arith) (omega arith),
        body_byte e (4 * k + 2) (at + 2) (omega arith) (omega arith),
        body_byte e (4 * k + 3) (at + 3) (omega arith) (omega arith),
      )

-- ---- the hour that a file holds: its words, and 0 at every place that it has not

module _ (l : Layout) (s : List ℕ) where
  pub record_count_lem : (hour_of l s).count ≡ record_count l s
  unfolding hour_of
  record_count_lem = refl

  pub head_word : (w : ℕ) → 8 ≤ w → w < 128 → (hour_of l s).head w ≡ block_word s 0 w
  unfolding hour_of
  head_word w h k = rw (le-leb 8 w h, lt-ltb w 128 k)

  pub head_before : (w : ℕ) → w < 8 → (hour_of l s).head w ≡ 0
  unfolding hour_of
  head_before w h = rw (lt-leb 8 w h)

  pub head_past : (w : ℕ) → 128 ≤ w → (hour_of l s).head w ≡ 0
  unfolding hour_of
  head_past w h = split (leb 8 w) (λ t. rw (t, le-ltb w 128 h)) (λ t. rw t)

  pub record_word_lem : (i w : ℕ) → i < record_count l s → w < l.words → (hour_of l s).rec i w ≡ record_word l s i w
  unfolding hour_of
  record_word_lem i w h k = rw (lt-ltb i (record_count l s) h, lt-ltb w l.words k)

-- The words of an hour's file: how many records a block holds, which word stands where, that each has 32 bits and keeps the layout.
-- Document 02, A2; document 01, "The hour file".
use mathlib.Core.Path.{◌≡◌, refl, sym, ◌∙◌, ap, subst}
use mathlib.Core.Bool.{false, not, cond, ◌&&◌}
use mathlib.Core.List.{List, [], ◌∷◌}
use Prim.Native.Nat.{ℕ, ◌+◌, ◌-◌, ◌*◌, ◌/◌, ◌%◌, ◌≤◌, ◌<◌}
use native.Mathlib.Omega.{arith}
use lib.ListN.{get_or-eq_default}
use lib.Dec.{ltb, leb, eqb}
use borrow.Author.Tests.{ltb-true, ltb-false, leb-true, eqb-true, eqb-false}
use borrow.Author.Tests.{lt-ltb, le-ltb, le-leb, ne_eqb}
use Rattle.whole.specs.Below.{sum_below}
use Rattle.whole.proofs.Tests.{split}
use Rattle.whole.proofs.Tables.{at_each}
use Rattle.rules.specs.Record.{Hour}
use Rattle.rules.specs.HourFile.{hourly}
use Rattle.rules.specs.HourWords.{blocks_for, held_in, body_word, open_block, open_word, file_word}
use Rattle.rules.specs.declared.Rule.TheVariants.{Between}
use Rattle.rules.specs.Ranges.{keeps, must_be, count_rule, block_rule}
use Rattle.rules.proofs.Faults.{body_any, past_records}
use Rattle.rules.proofs.WordBytes.{closing_small}

-- an hour whose words have 32 bits, at the places that an hour has, with at most 250 records
pub record OfWords (h : Hour) : Type 0 where
  pub few : h.count ≤ 250
  pub head_small : (w : ℕ) → h.head w < 0x1_0000_0000
  pub rec_small : (i w : ℕ) → h.rec i w < 0x1_0000_0000
  pub no_head : (w : ℕ) → (leb 8 w && ltb w 128) ≡ false → h.head w ≡ 0
  pub no_rec : (i w : ℕ) → (ltb i h.count && ltb w 12) ≡ false → h.rec i w ≡ 0

-- what a block behind the first holds: one to ten records, and those before it are full
pub record HoldsSome (h : Hour) (b : ℕ) : Type 0 where
  pub least : 1 ≤ held_in hourly h b
  pub most : held_in hourly h b ≤ 10
  pub full_before : 10 * (b - 1) + held_in hourly h b ≤ h.count

-- ---- the words of a file

module _ (h : Hour) where
  abbrev n : ℕ
  n = blocks_for hourly h

  pub some_blocks : (1 ≤ n) × (h.count ≤ 10 * (n - 1)) × (10 * (n - 1) ≤ h.count + 9)
  unfolding blocks_for
  some_blocks = omega arith

  pub held_full : (b : ℕ) → b + 1 < n → held_in hourly h b ≡ 10
  unfolding held_in
  held_full b l = rw (lt-ltb (b + 1) n l)

  pub held_last : (b : ℕ) → n ≤ b + 1 → held_in hourly h b ≡ h.count - 10 * (b - 1)
  unfolding held_in
  held_last b l = rw (le-ltb (b + 1) n l)

  pub held_some : (b : ℕ) → 1 ≤ b → b < n → HoldsSome h b
  held_some b one l = split (ltb (b + 1) n)
      (λ t. let m = ltb-true (b + 1) n t in omega (arith, some_blocks, held_full b m))
      (λ t. let m = ltb-false (b + 1) n t in omega (arith, some_blocks, held_last b m))

  -- a block's own eight words
  abbrev front : ℕ → List ℕ
  front b = cond (eqb b 0) 1 2 ∷ b ∷ cond (eqb b 0) (n - 1) (held_in hourly h b) ∷ 0 ∷ 0 ∷ 0 ∷ 0 ∷ 0 ∷ []

  -- behind them stands its body
  pub open_body : (b k : ℕ) → open_word hourly h b (8 + k) ≡ body_word hourly h b k
  unfolding open_word open_block
  open_body b k =
      get_or-eq_default (front b) (body_word hourly h b (8 + k - 8)) {n = 8 + k} (omega arith)
      ∙ ap (body_word hourly h b) (back k)
    where
      back : (k : ℕ) → 8 + k - 8 ≡ k
      back k = omega arith

  -- the first body is the head
  pub first_body : (k : ℕ) → body_word hourly h 0 k ≡ h.head (8 + k)
  unfolding body_word
  first_body k = refl

  -- another has its records, and zeros past them
  pub record_body : (b k : ℕ) → 1 ≤ b → k < 12 * held_in hourly h b → body_word hourly h b k ≡ h.rec (10 * (b - 1) + k / 12) (k % 12)
  unfolding body_word
  record_body b k one l = rw (ne_eqb b 0 (λ e. omega arith), lt-ltb k (12 * held_in hourly h b) l)

  past_body : (b k : ℕ) → 1 ≤ b → 12 * held_in hourly h b ≤ k → body_word hourly h b k ≡ 0
  unfolding body_word
  past_body b k one l = rw (ne_eqb b 0 (λ e. omega arith), le-ltb k (12 * held_in hourly h b) l)

  -- any word but word 7
  pub not_seven : (b w : ℕ) → (w ≡ 7 → ⊥) → file_word hourly h b w ≡ open_word hourly h b w
  unfolding file_word
  not_seven b w f = rw (ne_eqb w 7 f)

  pub still_zero : (b : ℕ) → open_word hourly h b 7 ≡ 0
  unfolding open_word open_block
  still_zero b = refl

  pub count_word : (b : ℕ) → 1 ≤ b → open_word hourly h b 2 ≡ held_in hourly h b
  unfolding open_word open_block
  count_word b one = rw (ne_eqb b 0 (λ e. omega arith))

  -- every word has 32 bits
  module _ (of_words : OfWords h) where
    front_small : (b : ℕ) → b < n → (w : ℕ) → w < 8 → open_word hourly h b w < 0x1_0000_0000
    unfolding open_word open_block
    front_small b l = split (eqb b 0)
        (λ t. at_each (λ w. open_word hourly h b w < 0x1_0000_0000) 8 (rw t (omega (arith, few_blocks))))
        (λ t. let some = held_some b (omega (arith, eqb-false b 0 t)) l in
        at_each (λ w. open_word hourly h b w < 0x1_0000_0000) 8 (rw t (omega (arith, few_blocks, some))))
      where
        few_blocks : n ≤ 26
        few_blocks = omega (arith, some_blocks, of_words.few)

    body_small : (b k : ℕ) → body_word hourly h b k < 0x1_0000_0000
    unfolding body_word
    body_small b k = split (eqb b 0)
        (λ t. rw t (of_words.head_small (8 + k)))
        (λ t. split (ltb k (12 * held_in hourly h b)) (λ u. rw (t, u) (of_words.rec_small _ _)) (λ u. rw (t, u) (omega arith)))

    pub file_word_small : (b w : ℕ) → b < n → file_word hourly h b w < 0x1_0000_0000
    unfolding file_word
    file_word_small b w l = split (eqb w 7)
        (λ t. rw t (closing_small (sum_below (open_word hourly h b) 128)))
        (λ t. rw t (split (ltb w 8)
        (λ u. front_small b l w (ltb-true w 8 u))
        (λ u. behind (ltb-false w 8 u))))
      where
        behind : 8 ≤ w → open_word hourly h b w < 0x1_0000_0000
        behind m = let e : 8 + (w - 8) ≡ w = omega arith in
            subst (λ (v : ℕ). open_word hourly h b v < 0x1_0000_0000) e (rw (open_body b (w - 8)) (body_small b (w - 8)))

-- ---- its words keep the layout

between_kept : (least most v : ℕ) → least ≤ v → v ≤ most → not (keeps (Between least most) v) ≡ false
unfolding keeps
between_kept least most v l m = rw (le-leb least v l, le-leb v most m)

own_kept : (k : ℕ) → not (keeps (must_be k) k) ≡ false
own_kept k = between_kept k k k (omega arith) (omega arith)

module _ (h : Hour) (b : ℕ) (there : b < blocks_for hourly h) where
  abbrev last : ℕ
  last = blocks_for hourly h

  count_kept : not (keeps (count_rule hourly last b) (cond (eqb b 0) (last - 1) (held_in hourly h b))) ≡ false
  unfolding count_rule
  count_kept = split (eqb b 0)
      (λ t. rw t (own_kept (last - 1)))
      (λ t. split (ltb (b + 1) last)
      (λ u. rw (t, u, held_full h b (ltb-true (b + 1) last u)) (own_kept 10))
      (λ u. let some = held_some h b (omega (arith, eqb-false b 0 t)) there in
      rw (t, u) (between_kept 1 10 (held_in hourly h b) some.least some.most)))

  abbrev Keeps : ℕ → Type 0
  Keeps w = not (keeps (block_rule hourly last (file_word hourly h b 2) b w) (file_word hourly h b w)) ≡ false

  front_kept : (w : ℕ) → w < 7 → Keeps w
  unfolding block_rule file_word open_word open_block
  front_kept = at_each Keeps 7
      (((((((tt, own_kept (cond (eqb b 0) 1 2)), own_kept b), count_kept), own_kept 0), own_kept 0), own_kept 0), own_kept 0)

  -- zeros past the records
  past_kept : (b ≡ 0 → ⊥) → (w : ℕ) → 7 ≤ w → Keeps w
  past_kept other w l = rw (past_records hourly last (file_word hourly h b 2) b w (file_word hourly h b w) other l, held_is) (
      split (leb (8 + 12 * held_in hourly h b) w)
      (λ t. rw (t, word_zero (leb-true (8 + 12 * held_in hourly h b) w t)))
      (λ t. rw t))
    where
      held_is : file_word hourly h b 2 ≡ held_in hourly h b
      held_is = not_seven h b 2 (λ e. omega arith) ∙ count_word h b (omega (arith, other))

      word_zero : 8 + 12 * held_in hourly h b ≤ w → file_word hourly h b w ≡ 0
      word_zero m = let e : 8 + (w - 8) ≡ w = omega arith in
          not_seven h b w (λ e. omega arith)
          ∙ ap (open_word hourly h b) (sym e)
          ∙ open_body h b (w - 8)
          ∙ past_body h b (w - 8) (omega (arith, other)) (omega arith)

  pub block_kept : (w : ℕ) → Keeps w
  block_kept w = split (ltb w 7)
      (λ t. front_kept w (ltb-true w 7 t))
      (λ t. split (eqb b 0)
      (λ u. body_any hourly last (file_word hourly h b 2) b w (file_word hourly h b w) (eqb-true b 0 u) (ltb-false w 7 t))
      (λ u. past_kept (eqb-false b 0 u) w (ltb-false w 7 t)))

-- Words as bytes: four bytes make their word again, and a word its bytes; the word that makes a sum zero, and that no other does.
-- Document 01, "The hour file"; document 02, A2.
use mathlib.Core.Path.{◌≡◌, sym, ◌∙◌, ap}
use mathlib.Core.Bool.{cond}
use mathlib.Core.List.{List}
use Prim.Native.Nat.{ℕ, ◌+◌, ◌*◌, ◌%◌, ◌^◌, ◌<◌}
use native.Mathlib.Omega.{arith}
use lib.ListN.{get_or}
use lib.Dec.{eqb}
use borrow.Author.Tests.{eqb-true, eqb-false}
use Rattle.whole.specs.Below.{sum_below}
use Rattle.whole.proofs.Tests.{split}
use Rattle.whole.proofs.Tables.{at_each}
use Rattle.whole.proofs.Sums.{sum_ext, sum_with}
use Rattle.rules.specs.HourFile.{word}
use Rattle.rules.specs.HourWords.{byte_of, closing}

-- ---- bytes

-- a word of four bytes has 32 bits
pub word_most : (s : List ℕ) → ((i : ℕ) → get_or s i 0 < 256) → (k : ℕ) → word s k < 2 ^ 32
unfolding word
word_most s b k = omega (arith, b (4 * k), b (4 * k + 1), b (4 * k + 2), b (4 * k + 3))

bytes_make_word : (v : ℕ) → byte_of v 0 + 256 * byte_of v 1 + 65536 * byte_of v 2 + 16777216 * byte_of v 3 ≡ v % 0x1_0000_0000
unfolding byte_of
bytes_make_word v = omega arith

-- the word at which these bytes stand
pub word_of_bytes : (s : List ℕ) (k v : ℕ) → ((j : ℕ) → j < 4 → get_or s (4 * k + j) 0 ≡ byte_of v j) → word s k ≡ v % 0x1_0000_0000
unfolding word
word_of_bytes s k v e = rw (first, e 1 (omega arith), e 2 (omega arith), e 3 (omega arith)) (bytes_make_word v)
  where
    start : 4 * k + 0 ≡ 4 * k
    start = omega arith

    first : get_or s (4 * k) 0 ≡ byte_of v 0
    first = ap (λ (i : ℕ). get_or s i 0) (sym start) ∙ e 0 (omega arith)

own_bytes : (a b c d : ℕ) → a < 256 → b < 256 → c < 256 → d < 256 → let v = a + 256 * b + 65536 * c + 16777216 * d in
    (byte_of v 0 ≡ a) × (byte_of v 1 ≡ b) × (byte_of v 2 ≡ c) × (byte_of v 3 ≡ d)
unfolding byte_of
own_bytes a b c d a_byte b-byte c-byte d-byte = omega arith

-- a word of bytes has them as its bytes
pub byte_of_word : (s : List ℕ) → ((i : ℕ) → get_or s i 0 < 256) → (k j : ℕ) → j < 4 → byte_of (word s k) j ≡ get_or s (4 * k + j) 0
unfolding word
byte_of_word s small k =
    let own = own_bytes _ _ _ _ (small (4 * k)) (small (4 * k + 1)) (small (4 * k + 2)) (small (4 * k + 3)) in
    at_each (λ j. byte_of (word s k) j ≡ get_or s (4 * k + j) 0) 4
    ((((tt, own.0 ∙ ap (λ (i : ℕ). get_or s i 0) start), own.1), own.2), own.3)
  where
    start : 4 * k ≡ 4 * k + 0
    start = omega arith

-- ---- word 7

pub closing_closes : (sum : ℕ) → (sum + closing sum) % 0x1_0000_0000 ≡ 0
unfolding closing
closing_closes sum = omega arith

pub closing_small : (sum : ℕ) → closing sum < 0x1_0000_0000
unfolding closing
closing_small sum = omega arith

-- no other word of 32 bits does
pub closing_only : (sum v : ℕ) → v < 0x1_0000_0000 → (sum + v) % 0x1_0000_0000 ≡ 0 → closing sum ≡ v
unfolding closing
closing_only sum v small zero-sum = omega arith

module _ (plain : ℕ → ℕ) (n : ℕ) (there : 7 < n) (still_zero : plain 7 ≡ 0) where
  -- closed, the words add up to zero
  pub closed_sum : sum_below (λ w. cond (eqb w 7) (closing (sum_below plain n)) (plain w)) n % 0x1_0000_0000 ≡ 0
  closed_sum =
      ap (λ (k : ℕ). k % 0x1_0000_0000) (sum_with plain (closing (sum_below plain n)) n 7 there still_zero)
      ∙ closing_closes (sum_below plain n)

  -- words that add up to zero, and are these but for word 7, are closed by it
  pub only_word_7 : (word : ℕ → ℕ) → word 7 < 0x1_0000_0000 → sum_below word n % 0x1_0000_0000 ≡ 0 →
      ((w : ℕ) → w < n → (w ≡ 7 → ⊥) → word w ≡ plain w) → closing (sum_below plain n) ≡ word 7
  only_word_7 word small zero-sum same = closing_only (sum_below plain n) (word 7) small (
      ap (λ (k : ℕ). k % 0x1_0000_0000) (sym (sum_ext word _ n term ∙ sum_with plain (word 7) n 7 there still_zero)) ∙ zero-sum)
    where
      term : (w : ℕ) → w < n → word w ≡ cond (eqb w 7) (word 7) (plain w)
      term w l = split (eqb w 7) (λ e. rw e (ap word (eqb-true w 7 e))) (λ e. rw e (same w l (eqb-false w 7 e)))

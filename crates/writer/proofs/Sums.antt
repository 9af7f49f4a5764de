-- The sum of a block's words by its front and the words of its body, and the word that makes it zero.
use Rattle.std.proofs.Common.{◌≡◌, ℕ, zero, suc, ◌+◌, ◌-◌, ◌%◌, ◌<◌, ◌≤◌, List, [], ◌∷◌, length, get_or, sym, refl, ap, ◌∙◌, arith, ne_eqb}
use native.Mathlib.Nat.{mod-add-mod}
use lib.ListN.{get_or-eq_default}
use Rattle.whole.specs.Below.{sum_below}
use Rattle.whole.proofs.Sums.{sum_then, sum_ext, sum_zero}
use Rattle.rules.specs.HourWords.{closing, open_block}
use Rattle.writer.specs.Stored.{open_list, closed_block}
use Rattle.examine.proofs.Listed.{gap}

-- past the end of a list all are 0
words_sum : (l : List ℕ) (n : ℕ) → length l ≤ n → sum_below (λ k. get_or l k 0) n ≡ sum_below (λ k. get_or l k 0) (length l)
words_sum l n few =
    let whole : length l + (n - length l) ≡ n = omega arith in
    let rest = sum_ext (λ i. get_or l (length l + i) 0) (λ i. 0) (n - length l) (λ i m. get_or-eq_default l 0 (omega arith))
    ∙ sum_zero (n - length l) in
    ap (sum_below (λ k. get_or l k 0)) (sym whole) ∙ sum_then (λ k. get_or l k 0) (length l) (n - length l) ∙ omega (arith, rest)

module _ (mark position count : ℕ) (body : List ℕ) where
  front_sum : sum_below (open_list mark position count body) 8 ≡ mark + position + count
  unfolding sum_below open_block
  front_sum = omega arith

  open_body : (k : ℕ) → open_list mark position count body (8 + k) ≡ get_or body k 0
  unfolding open_block
  open_body k = get_or-eq_default (mark ∷ position ∷ count ∷ 0 ∷ 0 ∷ 0 ∷ 0 ∷ 0 ∷ []) (get_or body (8 + k - 8) 0) {n = 8 + k} (omega arith)
      ∙ ap (λ (j : ℕ). get_or body j 0) (gap 8 k)

  pub open_sum : length body ≤ 120 →
      sum_below (open_list mark position count body) 128 ≡ sum_below (λ k. get_or body k 0) (length body) + mark + position + count
  open_sum few =
      sum_then (open_list mark position count body) 8 120
      ∙ omega (arith, front_sum, sum_ext _ (λ k. get_or body k 0) 120 (λ k l. open_body k) ∙ words_sum body 120 few)

-- what wraps back to zero with a sum modulo 2^32
pub closes : (r kept sum : ℕ) → r < 0x1_0000_0000 → (r + kept) % 0x1_0000_0000 ≡ 0 → kept ≡ sum % 0x1_0000_0000 → r ≡ closing sum
unfolding closing
closes r kept sum few zero-with is = omega arith

-- a word more, added to a sum that is kept modulo m
pub kept_on : (m acc s x r : ℕ) → acc ≡ s % m → r ≡ (acc + x) % m → r ≡ (s + x) % m
kept_on m acc s x r e f = f ∙ rw e (mod-add-mod s m x)

-- ---- the words of a closed block

module _ (mark position count : ℕ) (body : List ℕ) where
  abbrev block : ℕ → ℕ
  block = closed_block mark position count body

  pub closed_front : (last : ℕ) → last ≡ closing (sum_below (open_list mark position count body) 128) → (i : ℕ) → i < 8 →
      get_or (mark ∷ position ∷ count ∷ 0 ∷ 0 ∷ 0 ∷ 0 ∷ last ∷ []) i 0 ≡ block (0 + i)
  unfolding closed_block open_block
  closed_front last e zero l = refl
  closed_front last e (suc zero) l = refl
  closed_front last e (suc (suc zero)) l = refl
  closed_front last e (suc (suc (suc zero))) l = refl
  closed_front last e (suc (suc (suc (suc zero)))) l = refl
  closed_front last e (suc (suc (suc (suc (suc zero))))) l = refl
  closed_front last e (suc (suc (suc (suc (suc (suc zero)))))) l = refl
  closed_front last e (suc (suc (suc (suc (suc (suc (suc zero))))))) l = e
  closed_front last e (suc (suc (suc (suc (suc (suc (suc (suc i)))))))) l = absurd (omega arith)

  pub closed_body : (k : ℕ) → block (8 + k) ≡ get_or body k 0
  unfolding closed_block
  closed_body k = rw (ne_eqb (8 + k) 7 (λ e. omega arith)) (open_body mark position count body k)

  pub closed_past : (w : ℕ) → 8 + length body ≤ w → block w ≡ 0
  closed_past w l =
      let whole : 8 + (w - 8) ≡ w = omega arith in
      ap block (sym whole) ∙ closed_body (w - 8) ∙ get_or-eq_default body 0 {n = w - 8} (omega arith)

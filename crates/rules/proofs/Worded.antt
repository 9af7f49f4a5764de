-- The explanation's text: when it is which, how long it can be, and that a reader that stops one byte past the longest input prints the
-- same. Document 02, A5.
use mathlib.Core.Path.{◌≡◌, refl, sym, ◌∙◌, ap}
use Rattle.std.specs.Prelude.{Option, None, Some}
use mathlib.Core.List.{List, ◌++◌}
use Prim.Native.Nat.{ℕ, zero, suc, ◌≤◌, ◌<◌}
use native.Mathlib.Omega.{arith}
use lib.Dec.{leb, ltb}
use lib.IntN.{ℤ, pos, negsuc, nat_abs}
use lib.Signed.{◌≤ℤ◌, ◌<ℤ◌}
use lib.ListN.{length, take, length-append, length-drop}
use lib.Seq.{take_all, length-take-le}
use borrow.Author.Tests.{leb-true, leb-false, lt-ltb, le-ltb}
use Rattle.whole.proofs.Tests.{split}
use Rattle.whole.proofs.Linear.{le↓, lt↓}
use Rattle.rules.specs.Text.{bytes, decimal}
use Rattle.rules.specs.Refusals.{Verdict, refused_at, verdict, hour_rows, explain_rows}
use Rattle.rules.specs.Settling.{is_accepted}
use Rattle.rules.specs.Statement.{refused_line}
use Rattle.rules.specs.Explanation.{head_at, signed_decimal, head_name, decided_name, head_line, decided_line}
use Rattle.rules.specs.Explanation.{Explanation, explain, explanation_lines, worded, member_asked, hour_asked, explanation}
use Rattle.rules.proofs.Digits.{decimal_at_most_20}
use Rattle.rules.proofs.Stated.{refused_line_most, too_long_refused}
use Rattle.rules.proofs.Explaining.{rows_refused_alike, explain_refused}

-- ---- how long the lines are

-- by the size: the sign comes first where the number is below zero
pub signed_below : (z : ℤ) → z <ℤ pos 0 → bytes "-" ++ decimal (nat_abs z) ≡ signed_decimal z
unfolding signed_decimal
signed_below (pos n) l = absurd (omega (arith, lt↓ l))
signed_below (negsuc n) l = refl

pub signed_from_0 : (z : ℤ) → pos 0 ≤ℤ z → decimal (nat_abs z) ≡ signed_decimal z
unfolding signed_decimal
signed_from_0 (pos n) l = refl
signed_from_0 (negsuc n) l = absurd (omega (arith, le↓ l))

-- a sign and twenty digits
pub signed_at_most_21 : (z : ℤ) → length (signed_decimal z) ≤ 21
unfolding signed_decimal
signed_at_most_21 (pos n) = omega (arith, decimal_at_most_20 n)
signed_at_most_21 (negsuc n) = omega (arith, decimal_at_most_20 (suc n))

pub head_name_most : (k : ℕ) → length (head_name k) ≤ 10
head_name_most zero = omega arith
head_name_most (suc zero) = omega arith
head_name_most (suc (suc zero)) = omega arith
head_name_most (suc (suc (suc zero))) = omega arith
head_name_most (suc (suc (suc (suc zero)))) = omega arith
head_name_most (suc (suc (suc (suc (suc k))))) = omega arith

pub decided_name_most : (d : Option ℕ) → length (decided_name d) ≤ 10
decided_name_most None = omega arith
decided_name_most (Some k) = head_name_most k

-- Six lines of any five numbers of 64 bits have at most 165 bytes.
pub explanation_lines_most : (hs : List ℤ) (d : Option ℕ) → length (explanation_lines hs d) ≤ 165
unfolding explanation_lines head_line decided_line
explanation_lines_most hs d = simp length-append (omega (
  arith,
  signed_at_most_21 (head_at hs 0),
  signed_at_most_21 (head_at hs 1),
  signed_at_most_21 (head_at hs 2),
  signed_at_most_21 (head_at hs 3),
  signed_at_most_21 (head_at hs 4),
  decided_name_most d,
))

-- and so has what is worded of any explanation
worded_most : (e : Explanation) → length (worded e) ≤ 165
unfolding worded
worded_most e = split (is_accepted e.verdict)
    (λ t. rw t (explanation_lines_most e.heads e.decided))
    (λ t. rw t (omega (arith, refused_line_most e.verdict)))

-- ---- four bytes, or fewer

module _ (s : List ℕ) where
  pub too_few_bytes : length s < 4 → explanation s ≡ refused_line (refused_at 1 0)
  unfolding explanation
  too_few_bytes l = rw (lt-ltb (length s) 4 l) refl

  pub four_bytes : 4 ≤ length s → explanation s ≡ worded (explain (hour_asked s) (member_asked s))
  unfolding explanation
  four_bytes l = rw (le-ltb (length s) 4 l) refl

  pub explanation_fits : length (explanation s) ≤ 165
  unfolding explanation
  explanation_fits = split (ltb (length s) 4)
      (λ t. rw t (omega (arith, refused_line_most (refused_at 1 0))))
      (λ t. rw t (worded_most (explain (hour_asked s) (member_asked s))))

-- ---- of a cut input

too_long : (s : List ℕ) → 13316 < length s → explanation s ≡ refused_line (refused_at 1 0)
unfolding worded
too_long s l = four_bytes s (omega arith)
    ∙ rw (explain_refused (hour_asked s) (member_asked s) (λ z. absurd (omega (arith, ap (λ (v : Verdict). v.number) refused))), refused) refl
  where
    hour_refused : verdict (hour_rows (hour_asked s)) ≡ refused_at 1 0
    hour_refused = too_long_refused (hour_asked s) (omega (arith, length-drop 4 s))

    refused : verdict (explain_rows (hour_asked s) (member_asked s)) ≡ refused_at 1 0
    refused = rows_refused_alike (hour_asked s) (member_asked s)
        (λ e. absurd (omega (arith, ap (λ (v : Verdict). v.number) (sym hour_refused ∙ e)))) ∙ hour_refused

-- whoever reads at most 13,317 bytes sees that an input is too long
pub cut_input_same : (s : List ℕ) → explanation (take 13317 s) ≡ explanation s
cut_input_same s = split (leb (length s) 13317)
    (λ e. ap explanation (take_all 13317 s (leb-true (length s) 13317 e)))
    (λ e. let l : 13317 < length s = leb-false (length s) 13317 e in
    too_long (take 13317 s) (let n = length-take-le 13317 s (omega arith) in omega arith) ∙ sym (too_long s (omega arith)))

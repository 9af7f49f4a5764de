-- Why a member's charge is what it is: its exact amount under five heads, the head that decided, and what the program prints of it, byte for
-- byte. Document 02, A5.
use Rattle.std.specs.Prelude.{ℕ, suc, Bool, cond, ◌&&◌, ◌||◌, List, [], ◌∷◌, ◌++◌, ℤ, pos, negsuc, neg_ℤ, nat_abs, ◌*ℤ◌, length, drop, get_or, replicate, ltb, eqb, Option, None, Some, Result, Ok, Err}
use Rattle.std.specs.Int.Signed.{lt_z}
use Rattle.whole.specs.Below.{total_below}
use Rattle.rules.specs.declared.Kind.{Kind}
use Rattle.rules.specs.declared.Refusal.{Refusal}
use Rattle.rules.specs.declared.Explained.{Explained}
use Rattle.rules.specs.Record.{Hour, price, member_of, area_of, entry_of, is_generator, is_load, is_import, is_export}
use Rattle.rules.specs.Deviation.{generator_deviation, load_deviation, import_deviation, export_deviation}
use Rattle.rules.specs.Share.{first_largest}
use Rattle.rules.specs.Charge.{share_of, charge}
use Rattle.rules.specs.Text.{bytes, decimal}
use Rattle.rules.specs.HourFile.{word, hour_in}
use Rattle.rules.specs.Refusals.{Verdict, accepted, refused_at, refusal_verdict, verdict, explain_rows}
use Rattle.rules.specs.Settling.{is_accepted}
use Rattle.rules.specs.Statement.{refused_line}

-- ---- the five heads, by their places: generation 0, load 1, import 2, export 3, share 4

module _ (h : Hour) (m : ℕ) where
  -- over the member's records of some kinds, the zone price of its area times a figure of the record
  unfoldable pub priced_sum : (Kind → Bool) → (ℕ → ℤ) → ℤ
  priced_sum kinds figure = total_below (λ i.
      cond (eqb (member_of h i) m && kinds (entry_of h i).kind) (price h (area_of h i) *ℤ figure i) (pos 0)) h.count

  -- grains as they enter the member's sum ("A member's exact amount" of document 01): those of loads and exports are taken off
  unfoldable pub heads : List ℤ
  heads =
      priced_sum is_generator (λ i. generator_deviation (entry_of h i))
      ∷ priced_sum is_load (λ i. neg_ℤ (load_deviation (entry_of h i)))
      ∷ priced_sum is_import (λ i. import_deviation (entry_of h i))
      ∷ priced_sum is_export (λ i. neg_ℤ (export_deviation (entry_of h i)))
      ∷ priced_sum is_load (share_of h)
      ∷ []

-- on refusal
abbrev pub no_heads : List ℤ
no_heads = replicate 5 (pos 0)

abbrev pub head_at : List ℤ → ℕ → ℤ
head_at hs k = get_or hs k (pos 0)

-- ---- the head that decided

-- both above zero, or both below: zero has no sign
unfoldable pub same_sign : ℤ → ℤ → Bool
same_sign y z = (lt_z (pos 0) y && lt_z (pos 0) z) || (lt_z y (pos 0) && lt_z z (pos 0))

-- of the heads with the charge's sign the largest in size, on a tie the first; a charge of zero has none
unfoldable pub decided_by : (charge : ℤ) → List ℤ → Option ℕ
decided_by charge hs = first_largest (λ k. nat_abs (head_at hs k)) (λ k. same_sign charge (head_at hs k)) 5

unfoldable pub decided : Hour → ℕ → Option ℕ
decided h m = decided_by (charge h m) (heads h m)

-- ---- explaining, refused or accepted

pub record Explanation : Type 0 where
  pub verdict : Verdict
  pub heads : List ℤ
  pub decided : Option ℕ

-- an answer as number, place and figures: refused, all five heads are 0, and none decided
abbrev pub explanation_of : Result Explained Refusal → Explanation
explanation_of (Ok told) = record { verdict = accepted; heads = told.heads; decided = told.decided }
explanation_of (Err refusal) = record { verdict = refusal_verdict refusal; heads = no_heads; decided = None }

unfoldable pub explain : (file : List ℕ) (member : ℕ) → Explanation
explain s m = let v = verdict (explain_rows s m) in let h = hour_in s in
    cond (is_accepted v)
    (record { verdict = v; heads = heads h m; decided = decided h m })
    (record { verdict = v; heads = no_heads; decided = None })

-- ---- what is printed

-- a number, `-` first if negative
unfoldable pub signed_decimal : ℤ → List ℕ
signed_decimal (pos n) = decimal n
signed_decimal (negsuc n) = bytes "-" ++ decimal (suc n)

abbrev pub head_name : ℕ → List ℕ
head_name k = get_or (bytes "generation" ∷ bytes "load" ∷ bytes "import" ∷ bytes "export" ∷ bytes "share" ∷ []) k []

-- a head's name, a blank, its grains
unfoldable pub head_line : (place : ℕ) (grains : ℤ) → List ℕ
head_line k grains = head_name k ++ bytes " " ++ signed_decimal grains ++ bytes "\n"

abbrev pub decided_name : Option ℕ → List ℕ
decided_name None = bytes "none"
decided_name (Some k) = head_name k

unfoldable pub decided_line : Option ℕ → List ℕ
decided_line d = bytes "decided " ++ decided_name d ++ bytes "\n"

-- five lines, and a sixth
unfoldable pub explanation_lines : List ℤ → Option ℕ → List ℕ
explanation_lines hs d =
    head_line 0 (head_at hs 0) ++ head_line 1 (head_at hs 1) ++ head_line 2 (head_at hs 2) ++ head_line 3 (head_at hs 3) ++ head_line 4 (head_at hs 4)
    ++ decided_line d

-- of these numbers: the six lines, or the refusal's
unfoldable pub worded : Explanation → List ℕ
worded e = cond (is_accepted e.verdict) (explanation_lines e.heads e.decided) (refused_line e.verdict)

-- standard input: four bytes of member number, little-endian, then an hour file
module _ (s : List ℕ) where
  abbrev pub member_asked : ℕ
  member_asked = word s 0

  abbrev pub hour_asked : List ℕ
  hour_asked = drop 4 s

  -- 1 where there are under four bytes; else what is explained
  unfoldable pub explanation : List ℕ
  explanation = cond (ltb (length s) 4) (refused_line (refused_at 1 0)) (worded (explain hour_asked member_asked))

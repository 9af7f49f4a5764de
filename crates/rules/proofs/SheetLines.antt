-- The lines of a sheet, cut at their line feeds: line 1, then a line a member, which begins with two digits, a blank and a column.
-- Document 01, "The printed statement".
use mathlib.Core.Path.{◌≡◌, refl, sym, ◌∙◌, ap}
use mathlib.Core.Bool.{true, false}
use Rattle.std.specs.Prelude.{Some}
use mathlib.Core.List.{List, [], ◌∷◌, ◌++◌, append_assoc, append-nil}
use Prim.Native.Nat.{ℕ, zero, suc, ◌+◌, ◌-◌, ◌/◌, ◌%◌, ◌^◌, ◌≤◌, ◌<◌}
use native.Mathlib.Omega.{arith}
use lib.IntN.{ℤ, pos, negsuc, nat_abs}
use lib.Dec.{eqb}
use lib.ListN.{length, take, drop, get_or, replicate, length-append, get_or-append}
use lib.Seq.{take_at, get_or-append_seam}
use Rattle.whole.specs.Below.{values_below}
use Rattle.whole.proofs.Tests.{cond_ind}
use Rattle.whole.proofs.Buffers.{length_values, get_or_values}
use Rattle.rules.specs.Record.{Hour, hour_number, members}
use Rattle.rules.specs.Text.{bytes, digit_byte, sign_byte, decimal, amount_text, amount_field, digit_count, digits_value}
use Rattle.rules.specs.Refusals.{accepted, verdict, write_amount_rows}
use Rattle.rules.specs.Settling.{is_accepted, Written, write, read}
use Rattle.rules.specs.Statement.{first_line, column, member_lines, sheet_of}
use Rattle.rules.specs.Promised.Lines.{parts_at, lines_of, line_at, words_of, natural_in}
use Rattle.rules.specs.Promised.Finals.{member_line_at, SaysCounts}
use Rattle.rules.proofs.Digits.{is_digit_lem}
use Rattle.rules.proofs.PartsCut.{lacks, lacks_both, part_and_rest, last_part, digit_lacks, decimal_lacks, natural_read}
use Rattle.rules.proofs.Text.{text_fits_14, write_accepted_at, written_read}
use Rattle.rules.proofs.Stated.{column_width}

-- ---- a column

-- an amount in range, read from its 14 columns
pub column_read : (z : ℤ) → nat_abs z ≤ 999999999999 → read (column z) ≡ record { verdict = accepted; amount = z }
unfolding column
column_read z h = written_read (replicate 14 32) z
    (ap (λ (w : Written). w.verdict) (write_accepted_at (replicate 14 32) z h (text_fits_14 z h)))

-- a column has no line feed in it
blanks_lack : (n : ℕ) → lacks 10 (replicate n 32) ≡ true
unfolding lacks
blanks_lack zero = refl
blanks_lack (suc n) = blanks_lack n

sign_lacks : (z : ℤ) → eqb (sign_byte z) 10 ≡ false
sign_lacks (pos n) = refl
sign_lacks (negsuc n) = refl

amount_lacks : (z : ℤ) → lacks 10 (amount_text z) ≡ true
unfolding amount_text lacks
amount_lacks z = rw (sign_lacks z) (lacks_both 10 (decimal (nat_abs z / 100)) _ (decimal_lacks 10 (omega arith) (nat_abs z / 100))
    (rw (digit_lacks (nat_abs z / 10 % 10), digit_lacks (nat_abs z % 10))))

pub column_lacks : (z : ℤ) → lacks 10 (column z) ≡ true
unfolding column write amount_field
column_lacks z = cond_ind (is_accepted (verdict (write_amount_rows 14 z))) (amount_field 14 z) (replicate 14 32) (λ t. lacks 10 t ≡ true)
    (λ t. lacks_both 10 (replicate (14 - length (amount_text z)) 32) (amount_text z) (blanks_lack (14 - length (amount_text z))) (amount_lacks z))
    (λ f. blanks_lack 14)

-- what stands behind the first k
pub stands_behind {ℓ} : {A : Type ℓ} (l : List A) (x : A) (rest : List A) (d : A) {k : ℕ} → length l ≡ k → get_or (l ++ x ∷ rest) k d ≡ x
stands_behind l x rest d e = rw (← e) (get_or-append_seam l x rest d)

-- ---- a member's line, without its line feed: two digits, a blank, the charge, and what stands behind it

module _ (m : ℕ) (c : ℤ) (behind : List ℕ) where
  abbrev pub member_text : List ℕ
  member_text = digit_byte (m / 10) ∷ digit_byte (m % 10) ∷ bytes " " ++ (column c ++ behind)

  text_lacks : lacks 10 behind ≡ true → lacks 10 member_text ≡ true
  unfolding lacks
  text_lacks no-feed = rw (digit_lacks (m / 10), digit_lacks (m % 10)) (lacks_both 10 (column c) behind (column_lacks c) no-feed)

  -- it is cut off at its line feed
  pub text_cut : {line : List ℕ} → line ≡ member_text ++ bytes "\n" → lacks 10 behind ≡ true → (rest : List ℕ) →
      lines_of (line ++ rest) ≡ member_text ∷ lines_of rest
  text_cut line_is no-feed rest = ap lines_of (ap (λ (l : List ℕ). l ++ rest) line_is ∙ append_assoc member_text (bytes "\n") rest)
      ∙ part_and_rest 10 member_text rest (text_lacks no-feed)

  -- the charge stands at place 3
  pub charge_in_text : take 14 (drop 3 member_text) ≡ column c
  charge_in_text = take_at (column c) behind 14 (column_width c)

  pub number_in_text : m < 100 → natural_in (take 2 member_text) ≡ Some m
  unfolding natural_in digit_count digits_value
  number_in_text l = rw (is_digit_lem (m / 10) (omega arith), is_digit_lem (m % 10) (omega arith)) (ap Some (omega arith))

-- ---- line 1

module _ (h : Hour) where
  abbrev first_text : List ℕ
  first_text = bytes "hour " ++ decimal (hour_number h) ++ bytes " members " ++ decimal (members h) ++ bytes " records " ++ decimal h.count

  first_lacks : lacks 10 first_text ≡ true
  unfolding lacks
  first_lacks = let digits = decimal_lacks 10 (omega arith) in
      lacks_both 10 (bytes "hour " ++ decimal (hour_number h) ++ bytes " members " ++ decimal (members h) ++ bytes " records ") _
      (lacks_both 10 (bytes "hour " ++ decimal (hour_number h) ++ bytes " members " ++ decimal (members h)) _
      (lacks_both 10 (bytes "hour " ++ decimal (hour_number h) ++ bytes " members ") _
      (lacks_both 10 (bytes "hour " ++ decimal (hour_number h)) _ (digits (hour_number h)) refl)
      (digits (members h))) refl) (digits h.count)

  first_words : words_of first_text ≡ bytes "hour" ∷ decimal (hour_number h) ∷ bytes "members" ∷ decimal (members h)
      ∷ bytes "records" ∷ decimal h.count ∷ []
  unfolding lacks
  first_words = let digits = decimal_lacks 32 (omega arith) in simp append_assoc (
      part_and_rest 32 (bytes "hour") _ refl ∙ ap (λ (t : List (List ℕ)). bytes "hour" ∷ t) (
      part_and_rest 32 (decimal (hour_number h)) _ (digits (hour_number h)) ∙ ap (λ (t : List (List ℕ)). decimal (hour_number h) ∷ t) (
      part_and_rest 32 (bytes "members") _ refl ∙ ap (λ (t : List (List ℕ)). bytes "members" ∷ t) (
      part_and_rest 32 (decimal (members h)) _ (digits (members h)) ∙ ap (λ (t : List (List ℕ)). decimal (members h) ∷ t) (
      part_and_rest 32 (bytes "records") _ refl ∙ ap (λ (t : List (List ℕ)). bytes "records" ∷ t) (
      last_part 32 (decimal h.count) (digits h.count)))))))

-- ---- all lines: `text` is a member's line without its line feed

module _ (h : Hour) (line text : ℕ → List ℕ) (cut : (m : ℕ) (rest : List ℕ) → lines_of (line m ++ rest) ≡ text m ∷ lines_of rest) where
  members_cut : (n : ℕ) (rest : List ℕ) → lines_of (member_lines line n ++ rest) ≡ values_below text n ++ lines_of rest
  unfolding member_lines values_below
  members_cut zero rest = refl
  members_cut (suc n) rest =
      ap lines_of (append_assoc (member_lines line n) (line n) rest)
      ∙ members_cut n (line n ++ rest)
      ∙ ap (λ (ls : List (List ℕ)). values_below text n ++ ls) (cut n rest)
      ∙ sym (append_assoc (values_below text n) (text n ∷ []) (lines_of rest))

  sheet_cut : lines_of (sheet_of h line) ≡ first_text h ∷ (values_below text (members h) ++ [] ∷ [])
  unfolding sheet_of first_line parts_at
  sheet_cut = ap lines_of (append_assoc (first_text h) (bytes "\n") (member_lines line (members h)))
      ∙ part_and_rest 10 (first_text h) (member_lines line (members h)) (first_lacks h)
      ∙ ap (λ (ls : List (List ℕ)). first_text h ∷ ls)
      (ap lines_of (sym (append-nil (member_lines line (members h)))) ∙ members_cut (members h) [])

  pub line_stands : (m : ℕ) → m < members h → member_line_at m (sheet_of h line) ≡ text m
  line_stands m l = rw sheet_cut (
      get_or-append (values_below text (members h)) ([] ∷ []) [] m (rw (length_values text (members h)) l)
      ∙ get_or_values text (members h) m [] l)

  pub lines_counted : length (lines_of (sheet_of h line)) ≡ members h + 2
  lines_counted = rw (sheet_cut, length-append) (omega (arith, length_values text (members h)))

  pub nothing_behind : line_at (sheet_of h line) (suc (members h)) ≡ []
  nothing_behind = rw sheet_cut (stands_behind (values_below text (members h)) [] [] [] (length_values text (members h)))

  pub counts_said : hour_number h < 10 ^ 20 → members h < 10 ^ 20 → h.count < 10 ^ 20 →
      SaysCounts (line_at (sheet_of h line) 0) (hour_number h) (members h) h.count
  counts_said hour member records = rw sheet_cut (record {
    six_words = rw (first_words h);
    hour_said = rw (first_words h) (refl, natural_read (hour_number h) hour);
    members_said = rw (first_words h) (refl, natural_read (members h) member);
    records_said = rw (first_words h) (refl, natural_read h.count records);
  })

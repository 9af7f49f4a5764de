-- The text of an amount: what is read is exactly any blanks and the text of an amount in range; what is written is read as that
-- amount, and what is read and written again at its width is the same. Document 01, "Text amounts"; demands 1 and 2.
use mathlib.Core.Path.{◌≡◌, refl, sym, ◌∙◌, ap}
use mathlib.Core.Logic.{◌↔◌}
use mathlib.Core.Bool.{cond}
use Rattle.std.specs.Prelude.{Option, None, Some}
use mathlib.Core.List.{List, [], ◌∷◌, ◌++◌}
use Prim.Native.Nat.{ℕ, suc, ◌+◌, ◌-◌, ◌*◌, ◌/◌, ◌%◌, ◌^◌, ◌≤◌, ◌<◌}
use native.Mathlib.Omega.{arith}
use lib.Dec.{ltb, eqb}
use lib.IntN.{ℤ, pos, nat_abs}
use lib.ListN.{length, drop, replicate, length-append, length-replicate}
use lib.Seq.{drop_at, drop-append_seam, drop-drop, drop-length}
use borrow.Author.Tests.{ltb-true, ltb-false, lt-ltb, le-ltb}
use Rattle.whole.proofs.Tests.{split, never_some}
use Rattle.rules.specs.Text.{sign_byte, decimal, amount_text, amount_field, past_blanks, amount_in}
use Rattle.rules.specs.Refusals.{row, Verdict, accepted, refused_at, nothing_read, verdict, out_of_range, too_narrow, not_an_amount, write_amount_rows, read_amount_rows}
use Rattle.rules.specs.Settling.{Written, ReadAmount, or_refused, write, read}
use Rattle.rules.specs.Promised.Demands.{IsTextOf}
use Rattle.rules.proofs.Digits.{decimal_length_at_most}
use Rattle.rules.proofs.Parts.{blanks_found, blanks_there, cents_text, sign_found, sign_there, dollars_found, dollars_there}
use Rattle.rules.proofs.Parts.{cents_found, cents_there, minus_found, minus_there, WasRead, read_by_parts}

-- ---- the text

text_by_parts : (z : ℤ) (d w : ℕ) → nat_abs z ≡ 100 * d + w → w < 100 → amount_text z ≡ sign_byte z ∷ decimal d ++ cents_text w
unfolding amount_text
text_by_parts z d w e l = rw (dollars, tens, ones)
  where
    dollars : nat_abs z / 100 ≡ d
    dollars = omega arith

    tens : nat_abs z / 10 % 10 ≡ w / 10
    tens = omega arith

    ones : nat_abs z % 10 ≡ w % 10
    ones = omega arith

pub text_length : (z : ℤ) → length (amount_text z) ≡ length (decimal (nat_abs z / 100)) + 4
unfolding amount_text
text_length z = rw length-append (omega arith)

-- the statement's 14 columns hold every amount in range
pub text_fits_14 : (z : ℤ) → nat_abs z ≤ 999999999999 → length (amount_text z) ≤ 14
text_fits_14 z h = omega (arith, text_length z, decimal_length_at_most (nat_abs z / 100) 9 (omega arith))

pub amount_field_width : (width : ℕ) (z : ℤ) → length (amount_text z) ≤ width → length (amount_field width z) ≡ width
unfolding amount_field
amount_field_width width z l = rw (length-append, length-replicate) (omega arith)

module _ (s : List ℕ) (z : ℤ) (t : IsTextOf z s) where
  length_with_blanks : length s ≡ t.blanks + length (amount_text z)
  length_with_blanks = rw (t.spelled, length-append, length-replicate)

  text_at_its_width : amount_field (length s) z ≡ s
  unfolding amount_field
  text_at_its_width = rw blanks (sym t.spelled)
    where
      blanks : length s - length (amount_text z) ≡ t.blanks
      blanks = omega (arith, length_with_blanks)

-- ---- what is read is a text

read_is_text : (s : List ℕ) (z : ℤ) → WasRead s z → IsTextOf z s
read_is_text s z r = record {
  in_range = omega (arith, amount.0, dollars.0, cents.0);
  blanks = past_blanks s 0;
  spelled = cc (blanks_found s, by_parts, sign, dollars.1, cents.1, amount.1, end);
}
  where
    sign : drop (past_blanks s 0) s ≡ cond r.sign.value 45 43 ∷ drop r.sign.next s
    sign = sign_found s (past_blanks s 0) r.sign r.sign_is

    dollars : (r.dollars.value < 10 ^ 10) × (drop r.sign.next s ≡ decimal r.dollars.value ++ drop r.dollars.next s)
    dollars = dollars_found s r.sign.next r.dollars r.dollars_are

    cents : (r.cents.value < 100) × (drop r.dollars.next s ≡ cents_text r.cents.value ++ drop r.cents.next s)
    cents = cents_found s r.dollars.next r.cents r.cents_are

    amount : (nat_abs z ≡ 100 * r.dollars.value + r.cents.value) × (sign_byte z ≡ cond r.sign.value 45 43)
    amount = minus_found r.sign.value (100 * r.dollars.value + r.cents.value) z r.amount_is

    by_parts : amount_text z ≡ sign_byte z ∷ decimal r.dollars.value ++ cents_text r.cents.value
    by_parts = text_by_parts z r.dollars.value r.cents.value amount.0 cents.0

    end : drop r.cents.next s ≡ []
    end = rw r.at_end (drop-length s)

-- ---- a text is read

drop_past : (s p t : List ℕ) (at : ℕ) → drop at s ≡ p ++ t → drop (at + length p) s ≡ t
drop_past s p t at e = sym (drop-drop (length p) at s) ∙ rw e (drop-append_seam p t)

module _ (s : List ℕ) (z : ℤ) (t : IsTextOf z s) where
  abbrev in_dollars : ℕ
  in_dollars = nat_abs z / 100

  abbrev rest_in_cents : ℕ
  rest_in_cents = nat_abs z % 100

  abbrev after_sign : List ℕ
  after_sign = decimal in_dollars ++ cents_text rest_in_cents

  abbrev past_sign : ℕ
  past_sign = t.blanks + 1

  abbrev past_dollars : ℕ
  past_dollars = past_sign + length (decimal in_dollars)

  blanks_and_parts : s ≡ replicate t.blanks 32 ++ sign_byte z ∷ after_sign
  blanks_and_parts = t.spelled ∙ rw (text_by_parts z in_dollars rest_in_cents (omega arith) (omega arith))

  sign_stands : drop t.blanks s ≡ sign_byte z ∷ after_sign
  sign_stands =
      rw blanks_and_parts (drop_at (replicate t.blanks 32) (sign_byte z ∷ after_sign) t.blanks (length-replicate t.blanks 32))

  dollars_stand : drop past_sign s ≡ after_sign
  dollars_stand = drop_past s (sign_byte z ∷ []) after_sign t.blanks sign_stands

  cents_stand : drop past_dollars s ≡ cents_text rest_in_cents
  cents_stand = drop_past s (decimal in_dollars) (cents_text rest_in_cents) past_sign dollars_stand

  text_is_read : WasRead s z
  text_is_read = record {
    sign = record { value = eqb (sign_byte z) 45; next = past_sign };
    dollars = record { value = in_dollars; next = past_dollars };
    cents = record { value = rest_in_cents; next = past_dollars + 3 };
    sign_is = rw past_blanks_lem (sign_there s t.blanks z after_sign sign_stands);
    dollars_are = dollars_there s past_sign in_dollars _ (let l = t.in_range in omega arith) dollars_stand;
    cents_are = cents_there s past_dollars rest_in_cents (omega arith) cents_stand;
    at_end = omega (arith, length_with_blanks s z t, text_length z);
    amount_is = rw whole (minus_there z);
  }
    where
      past_blanks_lem : past_blanks s 0 ≡ t.blanks
      past_blanks_lem = rw blanks_and_parts (blanks_there t.blanks z after_sign)

      whole : 100 * in_dollars + rest_in_cents ≡ nat_abs z
      whole = omega arith

-- what is read is exactly any blanks and the text of an amount in range
pub amount_text_read : (s : List ℕ) (z : ℤ) → (amount_in s ≡ Some z) ↔ IsTextOf z s
amount_text_read s z = (λ e. read_is_text s z ((read_by_parts s z).0 e), λ t. (read_by_parts s z).1 (text_is_read s z t))

-- ---- reading answers by it

never_accepted {ℓ} : {X : Type ℓ} (n : ℕ) → refused_at (suc n) 0 ≡ accepted → X
never_accepted n e = absurd (let z : suc n ≡ 0 = ap (λ (v : Verdict). v.number) e in omega arith)

answered : (o : Option ℤ) (z : ℤ) → or_refused o ≡ record { verdict = accepted; amount = z } → o ≡ Some z
answered None z e = never_accepted 9 (ap (λ (r : ReadAmount). r.verdict) e)
answered (Some y) z e = ap Some (ap (λ (r : ReadAmount). r.amount) e)

refused : (o : Option ℤ) → or_refused o ≡ record { verdict = refused_at 10 0; amount = pos 0 } → o ≡ None
refused None e = refl
refused (Some y) e = never_accepted 9 (ap (λ (r : ReadAmount). r.verdict) (sym e))

nothing_found : (o : Option ℤ) → ((z : ℤ) → o ≡ Some z → ⊥) → o ≡ None
nothing_found None f = refl
nothing_found (Some z) f = absurd (f z refl)

-- reading accepts exactly the texts of amounts in range
read_checked : (o : Option ℤ) → (or_refused o).verdict ≡ verdict (row 10 (nothing_read o) ∷ [])
unfolding verdict
read_checked None = refl
read_checked (Some z) = refl

pub read_checks : (s : List ℕ) → (read s).verdict ≡ verdict (read_amount_rows s)
unfolding read read_amount_rows not_an_amount
read_checks s = read_checked (amount_in s)

pub read_accepts : (s : List ℕ) (z : ℤ) → (read s ≡ record { verdict = accepted; amount = z }) ↔ IsTextOf z s
unfolding read
read_accepts s z = (λ e. (amount_text_read s z).0 (answered (amount_in s) z e), λ t. ap or_refused ((amount_text_read s z).1 t))

-- and refuses, with number 10, exactly what is the text of none
pub read_refuses : (s : List ℕ) → (read s ≡ record { verdict = refused_at 10 0; amount = pos 0 }) ↔ ((z : ℤ) → IsTextOf z s → ⊥)
unfolding read
read_refuses s = (
  λ e z t. never_some (sym ((amount_text_read s z).1 t) ∙ refused (amount_in s) e),
  λ f. ap or_refused (nothing_found (amount_in s) (λ z e. f z ((amount_text_read s z).0 e))),
)

-- ---- writing, by its three answers

module _ (f : List ℕ) (z : ℤ) where
  pub write_out_of_range : 999999999999 < nat_abs z → write f z ≡ record { verdict = refused_at 8 0; field = f }
  unfolding write write_amount_rows verdict out_of_range
  write_out_of_range h = rw (lt-ltb 999999999999 (nat_abs z) h)

  pub write_too_narrow : nat_abs z ≤ 999999999999 → length f < length (amount_text z) →
      write f z ≡ record { verdict = refused_at 9 0; field = f }
  unfolding write write_amount_rows verdict out_of_range too_narrow
  write_too_narrow h l = rw (le-ltb 999999999999 (nat_abs z) h, lt-ltb (length f) (length (amount_text z)) l)

  pub write_accepted_at : nat_abs z ≤ 999999999999 → length (amount_text z) ≤ length f →
      write f z ≡ record { verdict = accepted; field = amount_field (length f) z }
  unfolding write write_amount_rows verdict out_of_range too_narrow
  write_accepted_at h l = rw (le-ltb 999999999999 (nat_abs z) h, le-ltb (length f) (length (amount_text z)) l)

  -- what holds of each answer holds of every writing
  write_ind : (P : Written → Type 0) →
      (999999999999 < nat_abs z → P (record { verdict = refused_at 8 0; field = f })) →
      (length f < length (amount_text z) → P (record { verdict = refused_at 9 0; field = f })) →
      (nat_abs z ≤ 999999999999 → length (amount_text z) ≤ length f → P (record { verdict = accepted; field = amount_field (length f) z })) →
      P (write f z)
  write_ind P out narrow fits = split (ltb 999999999999 (nat_abs z))
      (λ e. let h = ltb-true 999999999999 (nat_abs z) e in rw (write_out_of_range h) (out h))
      (λ e. let h = ltb-false 999999999999 (nat_abs z) e in split (ltb (length f) (length (amount_text z)))
      (λ e. let l = ltb-true (length f) (length (amount_text z)) e in rw (write_too_narrow h l) (narrow l))
      (λ e. let l = ltb-false (length f) (length (amount_text z)) e in rw (write_accepted_at h l) (fits h l)))

  pub accepted_in_range : (write f z).verdict ≡ accepted → (nat_abs z ≤ 999999999999) × (length (amount_text z) ≤ length f)
  accepted_in_range = write_ind (λ w. w.verdict ≡ accepted → (nat_abs z ≤ 999999999999) × (length (amount_text z) ≤ length f))
      (λ o e. never_accepted 7 e)
      (λ n e. never_accepted 8 e)
      (λ h l e. (h, l))

  -- accepted or refused, a field keeps its width
  pub field_has_width : length (write f z).field ≡ length f
  field_has_width = write_ind (λ w. length w.field ≡ length f) (λ o. refl) (λ n. refl) (λ h l. amount_field_width (length f) z l)

-- 14 columns hold every amount in range, whatever stood there
pub written_in_14 : (f : List ℕ) (z : ℤ) → length f ≡ 14 → nat_abs z ≤ 999999999999 → (write f z).field ≡ (write (replicate 14 32) z).field
written_in_14 f z l h =
    let fits = text_fits_14 z h in
    rw (write_accepted_at f z h (omega arith), write_accepted_at (replicate 14 32) z h fits, l)

-- ---- what is written is read, and what is read is written

-- written, then read
pub written_read : (f : List ℕ) (z : ℤ) → (write f z).verdict ≡ accepted →
    read (write f z).field ≡ record { verdict = accepted; amount = z }
unfolding amount_field
written_read f z e =
    let a = accepted_in_range f z e in
    rw (write_accepted_at f z a.0 a.1)
    ((read_accepts (amount_field (length f) z) z).1 (record { in_range = a.0; blanks = length f - length (amount_text z); spelled = refl }))

-- read, then written at the same width
pub read_written : (s f : List ℕ) (z : ℤ) → read s ≡ record { verdict = accepted; amount = z } → length f ≡ length s →
    write f z ≡ record { verdict = accepted; field = s }
read_written s f z e l =
    let t = (read_accepts s z).0 e in
    let w = length_with_blanks s z t in
    write_accepted_at f z t.in_range (omega arith) ∙ rw (l, text_at_its_width s z t)

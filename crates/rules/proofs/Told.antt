-- No two different settlements print the same sheet: a statement tells the refusal, or the hour, its members and records, and each
-- member's charge and final. Document 02, A1.
use mathlib.Core.Path.{◌≡◌, refl, sym, ◌∙◌, ap, ap₂}
use mathlib.Core.Bool.{Bool, true, not, ◌&&◌}
use Rattle.std.specs.Prelude.{Option, None, Some}
use Rattle.std.proofs.lemmas.Option.{same_Some}
use mathlib.Core.List.{List, [], ◌∷◌, ◌++◌, append_assoc, append-nil}
use Prim.Native.Nat.{ℕ, ◌+◌, ◌-◌, ◌*◌, ◌/◌, ◌^◌, ◌≤◌, ◌<◌}
use native.Mathlib.Nat.{mul-le-mul_right}
use native.Mathlib.Omega.{arith}
use lib.Dec.{ltb, leb, eqb}
use lib.IntN.{ℤ, pos, nat_abs}
use lib.ListN.{length, get_or}
use borrow.Author.Tests.{ltb-true, ltb-false, eqb-true, eqb-false}
use Rattle.whole.specs.Below.{first_below}
use Rattle.whole.proofs.Tests.{split, cond_ind, if_some}
use Rattle.whole.proofs.Search.{first_some}
use Rattle.whole.proofs.Buffers.{get_or_replacing}
use Rattle.rules.specs.Record.{Hour, hour_number, members, areas}
use Rattle.rules.specs.Charge.{charge}
use Rattle.rules.specs.Neutrality.{hour_demand, neutrality, final}
use Rattle.rules.specs.HourFile.{length_bad, word, blocks, block_word, record_count, hour_of, hour_in}
use Rattle.rules.specs.Ranges.{first_broken, Form, hourly_form, ten_minutes_form}
use Rattle.rules.specs.Refusals.{Row, row, Verdict, accepted, refused_at, verdict, place_zero_if, Buffers}
use Rattle.rules.specs.Refusals.{block_rows, word_rows, comparison_rows, sum_rows, form_rows, file_rows, hour_rows}
use Rattle.rules.specs.Refusals.{bad_length, bad_sum, bad_block, bad_head, bad_record, above_maximum, bad_area, bad_amount, no_demand}
use Rattle.rules.specs.Settling.{ReadAmount, is_accepted, filled, settle, read}
use Rattle.rules.specs.Statement.{first_line, sheet_of, refused_line, statement}
use Rattle.rules.specs.Promised.Finals.{charge_column, final_column, SameSheet, ShowsOutcome, AreBytes, Sheet}
use Rattle.rules.specs.Promised.Lines.{line_at, word_at, natural_in, SaysRefused}
use Rattle.rules.specs.Promised.Demands.{Accepts}
use Rattle.rules.proofs.Rows.{accepts_when_whole, zero_accepts, hour_numbered, settle_whole, settle_fills}
use Rattle.rules.proofs.WordBytes.{word_most}
use Rattle.rules.proofs.Stated.{statement_accepted, statement_refused, too_long_refused}
use Rattle.rules.proofs.PartsCut.{says_refused}
use Rattle.rules.proofs.Sheet.{read_back, counts_read}

-- ---- numbers and places of a table are small

abbrev pub Small : Verdict → Type 0
Small v = (v.number < 10 ^ 20) × (v.place < 10 ^ 20)

pub data SmallRows : List Row → Type 0 where
  no_row : SmallRows []
  small_row : {broken : Option ℕ} {rows : List Row} (n : ℕ) → n < 10 ^ 20 → ((p : ℕ) → broken ≡ Some p → p < 10 ^ 20) → SmallRows rows →
      SmallRows (row n broken ∷ rows)

pub verdict_small : {rows : List Row} → SmallRows rows → Small (verdict rows)
unfolding verdict
verdict_small no_row = (omega arith, omega arith)
verdict_small (small_row {broken = None} n l f rows) = verdict_small rows
verdict_small (small_row {broken = Some p} n l f rows) = (l, f p refl)

pub zero_small : (b : Bool) (p : ℕ) → place_zero_if b ≡ Some p → p < 10 ^ 20
zero_small b p e = let z : 0 ≡ p = same_Some 0 p (if_some b (Some 0) p e).1 in omega arith

pub first_small : (q : ℕ → Bool) (n : ℕ) → n ≤ 10 ^ 20 → (p : ℕ) → first_below q n ≡ Some p → p < 10 ^ 20
first_small q n l p e = let f = (first_some q n p).0 e in omega (arith, f.0)

-- rows 1 to 5 of either kind of file
module _ (form : Form) (s : List ℕ) (b : AreBytes s) (few : length s ≤ 13312) (most : form.layout.records ≤ 120) where
  pub count_small : (hour_of form.layout s).count ≤ 10 ^ 20
  unfolding hour_of record_count blocks block_word
  count_small =
      let n = length s / 512 in
      let held = 128 * (n - 1) + 2 in
      cond_ind (leb n 1) 0 (form.layout.records * (n - 2) + word s held) (λ k. k ≤ 10 ^ 20) (λ t. omega arith)
      (λ t. omega (arith, word_most s b held, mul-le-mul_right (n - 2) most))

  blocks_small : blocks s ≤ 10 ^ 20
  unfolding blocks
  blocks_small = omega arith

  form_rows_small : {rows : List Row} → SmallRows rows → SmallRows (form_rows form s ++ rows)
  unfolding form_rows block_rows word_rows bad_length bad_sum bad_block bad_head bad_record first_broken
  form_rows_small rows =
      small_row 1 (omega arith) (zero_small (length_bad form.layout s)) (
      small_row 2 (omega arith) (first_small _ (blocks s) blocks_small) (
      small_row 3 (omega arith) (first_small _ (blocks s) blocks_small) (
      small_row 4 (omega arith) (first_small _ 128 (omega arith)) (
      small_row 5 (omega arith) (first_small _ (hour_of form.layout s).count count_small) rows))))

module _ (s : List ℕ) (b : AreBytes s) where
  head_small : (w : ℕ) → (hour_in s).head w ≤ 10 ^ 20
  unfolding hour_of block_word
  head_small w = cond_ind (leb 8 w && ltb w 128) (word s (128 * 0 + w)) 0 (λ n. n ≤ 10 ^ 20)
      (λ t. omega (arith, word_most s b (128 * 0 + w)))
      (λ t. omega arith)

  rows_small : length s ≤ 13312 → SmallRows (hour_rows s)
  unfolding hour_rows file_rows comparison_rows sum_rows above_maximum bad_area bad_amount no_demand
  rows_small l =
      let h = hour_in s in
      let small = form_rows_small hourly_form s b l (omega arith) in
      let count = count_small hourly_form s b l (omega arith) in
      rw (append_assoc (form_rows hourly_form s) (comparison_rows h) (sum_rows h)) (small (
      small_row 14 (omega arith) (first_small _ h.count count) (
      small_row 6 (omega arith) (first_small _ (areas h) (head_small 11)) (
      small_row 7 (omega arith) (first_small _ (members h) (head_small 9)) (
      small_row 12 (omega arith) (zero_small (eqb (hour_demand h) 0 && not (eqb (nat_abs (neutrality h)) 0))) no_row)))))

  -- a file that is too long has place 0; of the others every place is small
  pub hour_small : Small (verdict (hour_rows s))
  hour_small = split (ltb 13312 (length s))
      (λ t. rw (too_long_refused s (ltb-true 13312 (length s) t)) (omega arith, omega arith))
      (λ t. verdict_small (rows_small (ltb-false 13312 (length s) t)))

-- the same of a ten-minute file
pub form_small : (s : List ℕ) → AreBytes s → length s ≤ 13312 → Small (verdict (form_rows ten_minutes_form s))
form_small s b l = verdict_small (rw append-nil at (form_rows_small ten_minutes_form s b l (omega arith) no_row))

-- ---- a refusal is told

-- two texts that are the same, read alike
read_alike : {A : Type 0} {x y : A} (read : List ℕ → Option A) {s t : List ℕ} → s ≡ t → read s ≡ Some x → read t ≡ Some y → x ≡ y
read_alike read e p q = same_Some _ _ (sym p ∙ ap read e ∙ q)

module _ (v w : Verdict) (a : Small v) (b : Small w) (e : refused_line v ≡ refused_line w) where
  pub refusal_told : v ≡ w
  refusal_told =
      let p = says_refused v a.0 a.1 in
      let q = says_refused w b.0 b.1 in
      ap₂ refused_at
      (read_alike (λ t. natural_in (word_at (line_at t 0) 1)) e p.number_read q.number_read)
      (read_alike (λ t. natural_in (word_at (line_at t 0) 3)) e p.place_read q.place_read)

-- ---- an accepted hour's text begins with h, a refusal's with r

begins_accepted : (s : List ℕ) → verdict (hour_rows s) ≡ accepted → get_or (statement s) 0 0 ≡ 104
unfolding sheet_of first_line
begins_accepted s e = rw (statement_accepted s e)

begins_refused : (s : List ℕ) → ((verdict (hour_rows s)).number ≡ 0 → ⊥) → get_or (statement s) 0 0 ≡ 114
unfolding refused_line
begins_refused s e = rw (statement_refused s e)

accepted_by_number : (s : List ℕ) → is_accepted (verdict (hour_rows s)) ≡ true → verdict (hour_rows s) ≡ accepted
accepted_by_number s t = zero_accepts (hour_rows s) (hour_numbered s) (eqb-true _ _ t)

-- ---- the sheet tells all of it

module _ (s t : List ℕ) (same : statement s ≡ statement t) where
  abbrev h : Hour
  h = hour_in s

  abbrev g : Hour
  g = hour_in t

  first_letter : get_or (statement s) 0 0 ≡ get_or (statement t) 0 0
  first_letter = ap (λ (l : List ℕ). get_or l 0 0) same

  module _ (a : AreBytes s) (b : AreBytes t) where
    both_refused : ((verdict (hour_rows s)).number ≡ 0 → ⊥) → ((verdict (hour_rows t)).number ≡ 0 → ⊥) → SameSheet s t
    both_refused p q =
        let none-accepted : verdict (hour_rows s) ≡ accepted → ⊥ = λ e. p (ap (λ (v : Verdict). v.number) e) in
        record {
          verdict_is = refusal_told (verdict (hour_rows s)) (verdict (hour_rows t)) (hour_small s a) (hour_small t b)
              (sym (statement_refused s p) ∙ same ∙ statement_refused t q);
          head_is = λ e. absurd (none-accepted e);
          charge_is = λ e. absurd (none-accepted e);
          final_is = λ e. absurd (none-accepted e);
        }

    module _ (p : verdict (hour_rows s) ≡ accepted) (q : verdict (hour_rows t) ≡ accepted) where
      same_head : (hour_number h ≡ hour_number g) × (members h ≡ members g) × (h.count ≡ g.count)
      same_head =
          let c = counts_read s p a in
          let d = counts_read t q b in (
            read_alike (λ t. natural_in (word_at (line_at t 0) 1)) same c.hour_said.1 d.hour_said.1,
            read_alike (λ t. natural_in (word_at (line_at t 0) 3)) same c.members_said.1 d.members_said.1,
            read_alike (λ t. natural_in (word_at (line_at t 0) 5)) same c.records_said.1 d.records_said.1,
          )

      same_amounts : (m : ℕ) → m < members h → (charge h m ≡ charge g m) × (final h m ≡ final g m)
      same_amounts m l =
          let k : m < members g = omega (arith, same_head.1) in
          let amount : ReadAmount → ℤ = λ r. r.amount in (
            ap amount (sym ((read_back s p).charge_shown m l) ∙ ap (λ (z : List ℕ). read (charge_column m z)) same ∙ (read_back t q).charge_shown m k),
            ap amount (sym ((read_back s p).final_shown m l) ∙ ap (λ (z : List ℕ). read (final_column m z)) same ∙ (read_back t q).final_shown m k),
          )

      both_accepted : SameSheet s t
      both_accepted = record {
        verdict_is = p ∙ sym q;
        head_is = λ e. same_head;
        charge_is = λ e m l. (same_amounts m l).0;
        final_is = λ e m l. (same_amounts m l).1;
      }

    told : SameSheet s t
    told = split (is_accepted (verdict (hour_rows s)))
        (λ x. let p = accepted_by_number s x in split (is_accepted (verdict (hour_rows t)))
        (λ y. both_accepted p (accepted_by_number t y))
        (λ y. absurd (omega (arith, first_letter, begins_accepted s p, begins_refused t (eqb-false _ _ y)))))
        (λ x. let p = eqb-false _ _ x in split (is_accepted (verdict (hour_rows t)))
        (λ y. absurd (omega (arith, first_letter, begins_refused s p, begins_accepted t (accepted_by_number t y))))
        (λ y. both_refused p (eqb-false _ _ y)))

-- ---- the sheet shows the amounts, and what settling wrote

refused_read : (s : List ℕ) → AreBytes s → (verdict (hour_rows s) ≡ accepted → ⊥) → SaysRefused (statement s) (verdict (hour_rows s))
refused_read s bytes r = let small = hour_small s bytes in
    rw (statement_refused s (λ z. r (zero_accepts (hour_rows s) (hour_numbered s) z))) (says_refused (verdict (hour_rows s)) small.0 small.1)

module _ (s : List ℕ) (b : Buffers) (a : Accepts s b) where
  hour_accepted : verdict (hour_rows s) ≡ accepted
  hour_accepted = (accepts_when_whole (hour_rows s) (hour_numbered s)).1 (settle_whole s b a).0

  as_settled : ShowsOutcome (hour_in s) (settle s b).buffers (statement s)
  unfolding filled
  as_settled = let h = hour_in s in let shown = read_back s hour_accepted in record {
    line_count = shown.line_count;
    nothing_else = shown.nothing_else;
    in_columns = shown.in_columns;
    member_shown = shown.member_shown;
    charge_shown = λ m l.
        rw ((settle_fills s b a).0, get_or_replacing (charge h) (members h) b.charges m (pos 0) l) (shown.charge_shown m l);
    final_shown = λ m l.
        rw ((settle_fills s b a).0, get_or_replacing (final h) (members h) b.finals m (pos 0) l) (shown.final_shown m l);
  }

-- What is asked of the sheet.
pub sheet : Sheet
sheet = record {
  counts_read = λ s bytes e. counts_read s e bytes;
  refused_read = refused_read;
  read_back = read_back;
  as_settled = as_settled;
  tells = λ s t a b e. told s t e a b;
}

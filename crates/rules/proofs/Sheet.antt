-- The sheet tells charges and finals: each column, read, gives its amount. Document 02, A1.
use mathlib.Core.Path.{◌≡◌, refl, ◌∙◌, ap}
use mathlib.Core.Bool.{true}
use mathlib.Core.List.{List, ◌∷◌, ◌++◌, append_assoc}
use Prim.Native.Nat.{ℕ, ◌/◌, ◌%◌, ◌<◌}
use native.Mathlib.Omega.{arith}
use lib.IntN.{ℤ}
use lib.ListN.{length, take, drop, get_or, length-append}
use lib.Seq.{take_all, drop_at}
use Rattle.rules.specs.Record.{Hour, hour_number, members}
use Rattle.rules.specs.Charge.{charge}
use Rattle.rules.specs.Neutrality.{final}
use Rattle.rules.specs.Text.{bytes, digit_byte}
use Rattle.rules.specs.HourFile.{hourly, hour_in}
use Rattle.rules.specs.Refusals.{accepted, verdict, hour_rows}
use Rattle.rules.specs.Settling.{read}
use Rattle.rules.specs.Statement.{column, member_line, accepted_lines, statement}
use Rattle.rules.specs.Inner.Kept.{HourKept}
use Rattle.rules.specs.Promised.Lines.{lines_of, line_at}
use Rattle.rules.specs.Promised.Finals.{AreBytes, member_line_at, charge_column, final_column, SaysCounts, Shows}
use Rattle.rules.proofs.PartsCut.{lacks}
use Rattle.rules.proofs.Bounds.{charge_under}
use Rattle.rules.proofs.Neutral.{final_under}
use Rattle.rules.proofs.Stated.{accepted_kept, statement_accepted, column_width, hour_number_most}
use Rattle.rules.proofs.SheetLines.{column_read, column_lacks, stands_behind, member_text, text_cut, charge_in_text, number_in_text}
use Rattle.rules.proofs.SheetLines.{line_stands, lines_counted, nothing_behind, counts_said}

-- ---- a member's line, without its line feed

module _ (m : ℕ) (c f : ℤ) where
  abbrev behind : List ℕ
  behind = bytes " " ++ column f

  abbrev line_text : List ℕ
  line_text = member_text m c behind

  line_is : member_line m c f ≡ line_text ++ bytes "\n"
  unfolding member_line
  line_is = simp append_assoc

  final_lacks : lacks 10 behind ≡ true
  unfolding lacks
  final_lacks = column_lacks f

  -- the final stands at place 18
  front : List ℕ
  front = digit_byte (m / 10) ∷ digit_byte (m % 10) ∷ bytes " " ++ (column c ++ bytes " ")

  by_front : line_text ≡ front ++ column f
  unfolding front
  by_front = simp append_assoc

  front_width : length front ≡ 18
  unfolding front
  front_width = simp length-append (omega (arith, column_width c))

  final_in_text : take 14 (drop 18 line_text) ≡ column f
  final_in_text = ap (λ (l : List ℕ). take 14 (drop 18 l)) by_front
      ∙ ap (take 14) (drop_at front (column f) 18 front_width) ∙ take_all 14 (column f) (omega (arith, column_width f))

  text_width : length line_text ≡ 32
  text_width = simp length-append (omega (arith, column_width c, column_width f))

  -- place 17 is the blank after the charge
  blank_between : get_or line_text 17 0 ≡ 32
  blank_between = stands_behind (digit_byte (m / 10) ∷ digit_byte (m % 10) ∷ bytes " " ++ column c) 32 (column f) 0 {k = 17} (omega (arith, column_width c))

-- ---- what an accepted hour's sheet shows

module _ (h : Hour) where
  abbrev line : ℕ → List ℕ
  line m = member_line m (charge h m) (final h m)

  abbrev text : ℕ → List ℕ
  text m = line_text m (charge h m) (final h m)

  cut : (m : ℕ) (rest : List ℕ) → lines_of (line m ++ rest) ≡ text m ∷ lines_of rest
  cut m = let c = charge h m in let f = final h m in text_cut m c (behind m c f) (line_is m c f) (final_lacks m c f)

  stands : (m : ℕ) → m < members h → member_line_at m (accepted_lines h) ≡ text m
  stands = line_stands h line text cut

module _ (h : Hour) (kept : HourKept h) where
  charge_shown : (m : ℕ) → m < members h → read (charge_column m (accepted_lines h)) ≡ record { verdict = accepted; amount = charge h m }
  charge_shown m l = rw (stands h m l, charge_in_text m (charge h m) (behind m (charge h m) (final h m)))
      (column_read (charge h m) (let u = charge_under kept m in omega arith))

  final_shown : (m : ℕ) → m < members h → read (final_column m (accepted_lines h)) ≡ record { verdict = accepted; amount = final h m }
  final_shown m l = rw (stands h m l, final_in_text m (charge h m) (final h m))
      (column_read (final h m) (let u = final_under kept m l in omega arith))

  lines_show : Shows h (charge h) (final h) (accepted_lines h)
  lines_show = record {
    line_count = lines_counted h (line h) (text h) (cut h);
    nothing_else = nothing_behind h (line h) (text h) (cut h);
    in_columns = λ m l. rw (stands h m l) (text_width m (charge h m) (final h m), refl, blank_between m (charge h m) (final h m));
    member_shown = λ m l. rw (stands h m l) (number_in_text m (charge h m) (behind m (charge h m) (final h m)) (omega (arith, kept.members_most)));
    charge_shown = charge_shown;
    final_shown = final_shown;
  }

-- ---- and the statement's

module _ (s : List ℕ) (e : verdict (hour_rows s) ≡ accepted) where
  pub read_back : Shows (hour_in s) (charge (hour_in s)) (final (hour_in s)) (statement s)
  read_back = rw (statement_accepted s e) (lines_show (hour_in s) (accepted_kept s e).hour_kept)

  pub counts_read : AreBytes s → SaysCounts (line_at (statement s) 0) (hour_number (hour_in s)) (members (hour_in s)) (hour_in s).count
  counts_read bytes = let h = hour_in s in let kept = (accepted_kept s e).hour_kept in
      rw (statement_accepted s e) (counts_said h (line h) (text h) (cut h) (omega (arith, hour_number_most hourly s bytes))
      (omega (arith, kept.members_most)) (omega (arith, kept.count_most)))

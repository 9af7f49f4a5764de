-- What the checks of ten-minute settlement tell: a file that is refused by rows 1 to 5, or whose charges have no room, changes nothing; of
-- any other every charge is written.
use mathlib.Core.Path.{◌≡◌, refl, sym, ◌∙◌}
use mathlib.Core.List.{List, [], ◌∷◌}
use Prim.Native.Nat.{ℕ, ◌≤◌, ◌<◌}
use lib.IntN.{ℤ}
use lib.Dec.{ltb}
use lib.ListN.{length}
use borrow.Author.Tests.{lt-ltb, le-ltb}
use Rattle.std.specs.Prelude.{Result, Ok, Err}
use Rattle.whole.specs.Below.{replacing_first}
use Rattle.rules.specs.declared.Refusal.{Refusal}
use Rattle.rules.specs.declared.Refusal.TheVariants.{TooShort}
use Rattle.rules.specs.Record.{members}
use Rattle.rules.specs.Ranges.{ten_minutes_form}
use Rattle.rules.specs.Refusals.{Row, row, accepted, refusal_verdict, verdict_of, verdict, place_zero_if, form_rows}
use Rattle.rules.specs.TenMinutes.{ten_minutes_in, ten_minutes_rows, ten_minutes_charge, settle_ten_minutes}
use Rattle.rules.specs.Inner.Kept.{TenMinutesFileKept}
use Rattle.rules.proofs.Rows.{accepts_when_whole, form_numbered, refused_first, passed_on, never_accepted}
use Rattle.rules.proofs.IntervalsKept.{ten_minutes_file_kept}
use Rattle.rules.proofs.TenMinutes.{ten_minutes_lem}

-- what settling promises of its answer and of the charges that it leaves
pub record Settles (s : List ℕ) (before : List ℤ) (r : Result Unit Refusal) (after : List ℤ) : Type 0 where
  pub verdict_is : verdict_of r ≡ (settle_ten_minutes s before).verdict
  pub charges_are : after ≡ (settle_ten_minutes s before).charges

module _ (s : List ℕ) (c : List ℤ) where
  abbrev rows : List Row
  rows = form_rows ten_minutes_form s

  abbrev length_row : List Row
  length_row = row 11 (place_zero_if (ltb (length c) (members (ten_minutes_in s)))) ∷ []

  told : (settle_ten_minutes s c).verdict ≡ verdict (ten_minutes_rows s c)
  unfolding settle_ten_minutes
  told = refl

  -- a refusal that the table gives
  refused_with : (r : Refusal) → verdict (ten_minutes_rows s c) ≡ refusal_verdict r → Settles s c (Err r) c
  refused_with r e = record {
    verdict_is = sym (told ∙ e);
    charges_are = sym (ten_minutes_lem.changes_nothing s c (λ yes. never_accepted r (sym e ∙ sym told ∙ yes)));
  }

  pub file_refused : (r : Refusal) → refusal_verdict r ≡ verdict rows → Settles s c (Err r) c
  unfolding ten_minutes_rows
  file_refused r examined =
      refused_with r (refused_first rows length_row (λ e. never_accepted r (examined ∙ e)) ∙ sym examined)

  -- rows 1 to 5 are passed
  module _ (passed : verdict rows ≡ accepted) where
    pub kept : TenMinutesFileKept s
    kept = ten_minutes_file_kept s ((accepts_when_whole rows (form_numbered ten_minutes_form s)).0 passed)

    rest : verdict (ten_minutes_rows s c) ≡ verdict length_row
    unfolding ten_minutes_rows
    rest = passed_on rows length_row ((accepts_when_whole rows (form_numbered ten_minutes_form s)).0 passed)

    pub too_short : length c < members (ten_minutes_in s) → Settles s c (Err TooShort) c
    unfolding verdict
    too_short l = refused_with TooShort (rest ∙ rw (lt-ltb (length c) (members (ten_minutes_in s)) l))

    whole : members (ten_minutes_in s) ≤ length c → verdict (ten_minutes_rows s c) ≡ accepted
    unfolding verdict
    whole l = rest ∙ rw (le-ltb (length c) (members (ten_minutes_in s)) l)

    written : verdict (ten_minutes_rows s c) ≡ accepted →
        (settle_ten_minutes s c).charges ≡ replacing_first (ten_minutes_charge (ten_minutes_in s)) (members (ten_minutes_in s)) c
    unfolding settle_ten_minutes
    written e = rw e

    pub all_charged : members (ten_minutes_in s) ≤ length c → {after : List ℤ} →
        after ≡ replacing_first (ten_minutes_charge (ten_minutes_in s)) (members (ten_minutes_in s)) c → Settles s c (Ok tt) after
    all_charged l put = record { verdict_is = sym (told ∙ whole l); charges_are = put ∙ sym (written (whole l)) }

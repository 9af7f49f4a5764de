-- What printing a statement answers and leaves in the caller's slice, and what its steps ask.
use Rattle.std.specs.Prelude.{ℕ, ◌≤◌, ◌<◌, ◌≡◌, List, ℤ, pos, length, get_or, Result}
use Rattle.rules.specs.declared.Refusal.{Refusal}
use Rattle.rules.specs.Record.{members}
use Rattle.rules.specs.Neutrality.{final}
use Rattle.rules.specs.Refusals.{accepted, verdict_of, verdict, hour_rows}
use Rattle.rules.specs.Inner.Kept.{FileKept}
use Rattle.rules.specs.Statement.{member_line, member_lines, statement}
use Rattle.rules.specs.HourFile.{hour_in}
use Rattle.bymember.specs.Charged.{Charged}
use Rattle.printing.specs.Shown.{Shown, shown, HasShown}

-- the statement of any byte string, in a slice with room for the longest
abbrev pub stated : (s out : List ℕ) → Shown
stated s out = shown 1095 (statement s) out

abbrev pub HasStated : (s out : List ℕ) (count : ℕ) (after : List ℕ) → Type 0
HasStated s out count after = HasShown 1095 (statement s) out count after

-- a line for each of the first members, with these charges and finals
abbrev pub member_lines_of : (charges finals : List ℤ) → ℕ → List ℕ
member_lines_of charges finals = member_lines (λ m. member_line m (get_or charges m (pos 0)) (get_or finals m (pos 0)))

-- the file keeps its ranges, and its hour's charges and finals stand in the first places
pub record Printable (s : List ℕ) (charges finals : List ℤ) : Type 0 where
  pub kept : FileKept s
  pub charged : Charged (hour_in s) charges
  pub room : members (hour_in s) ≤ length finals
  pub finals_are : (m : ℕ) → m < members (hour_in s) → get_or finals m (pos 0) ≡ final (hour_in s) m

-- the answer that the statement's rows give, and the charges and finals where it is acceptance
pub record Answered {T : Type 0} (s : List ℕ) (answer : Result T Refusal) (charges finals : List ℤ) : Type 0 where
  pub verdict_is : verdict_of answer ≡ verdict (hour_rows s)
  pub printable : verdict_of answer ≡ accepted → Printable s charges finals

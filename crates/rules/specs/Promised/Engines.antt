-- What is asked of generators' schedules, as statements about the definitions, of settling, explaining and writing alike. Document 02, A6.
use Rattle.std.specs.Prelude.{ℕ, ◌<◌, ◌≡◌, ◌↔◌, List, ◌≤ℤ◌, ◌<ℤ◌}
use Rattle.rules.specs.declared.Kind.TheVariants.{Generator}
use Rattle.rules.specs.Record.{Hour, entry_of}
use Rattle.rules.specs.HourFile.{hourly, hour_in}
use Rattle.rules.specs.HourWords.{hour_from}
use Rattle.rules.specs.Refusals.{Row, Verdict, accepted, refused_at, verdict, Buffers, form_rows, list_form_rows}
use Rattle.rules.specs.Settling.{settle, write_hour}
use Rattle.rules.specs.Explanation.{explain}
use Rattle.rules.specs.Ranges.{hourly_form}

module _ (h : Hour) where
  -- of record i, by the letters: a generator's S is at most its M
  abbrev pub WithinMaximum : ℕ → Type 0
  WithinMaximum i = let e = entry_of h i in e.kind ≡ Generator → e.S ≤ℤ e.M

  abbrev pub AllWithin : Type 0
  AllWithin = (i : ℕ) → i < h.count → WithinMaximum i

  -- record i is a generator whose S is above its M, and none before it is one
  pub record FirstAbove (i : ℕ) : Type 0 where
    pub there : i < h.count
    pub is_generator_lem : (entry_of h i).kind ≡ Generator
    pub above : (entry_of h i).M <ℤ (entry_of h i).S
    pub before : (j : ℕ) → j < i → WithinMaximum j

-- what is answered of an hour behind these rows
pub record HeldToMaximum (before : List Row) (h : Hour) (answered : Verdict) : Type 0 where
  -- 14 at a record exactly where they are passed and this record is the first
  pub above : (i : ℕ) → (answered ≡ refused_at 14 i) ↔ ((verdict before ≡ accepted) × FirstAbove h i)
  pub within : answered ≡ accepted → AllWithin h

pub record Engines : Type 0 where
  -- behind rows 1 to 5, over the whole file
  pub settled : (s : List ℕ) (b : Buffers) → HeldToMaximum (form_rows hourly_form s) (hour_in s) (settle s b).verdict
  pub explained : (s : List ℕ) (m : ℕ) → HeldToMaximum (form_rows hourly_form s) (hour_in s) (explain s m).verdict
  -- of the writer, behind rows 1, 4 and 5
  pub written : (head records file : List ℕ) →
      HeldToMaximum (list_form_rows head records) (hour_from hourly head records) (write_hour head records file).verdict

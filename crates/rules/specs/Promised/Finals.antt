-- What is asked of the finals, as statements about the definitions: they add up to nothing, and the sheet tells them.
-- Document 02, A1.
use Rattle.std.specs.Prelude.{ℕ, suc, ◌+◌, ◌*◌, ◌<◌, ◌≡◌, ◌↔◌, true, List, [], ◌∷◌, ◌++◌, ℤ, pos, nat_abs, ◌-ℤ◌, ◌*ℤ◌, length, take, drop, get_or, Some}
use Rattle.whole.specs.Below.{sum_below, total_below}
use Rattle.whole.specs.Signed.{with_sign_of}
use Rattle.rules.specs.Record.{Hour, hour_number, members, areas, entry_of, is_load}
use Rattle.rules.specs.Ufe.{area_demand}
use Rattle.rules.specs.Charge.{charge}
use Rattle.rules.specs.Neutrality.{every_member, member_demand, hour_demand, neutrality, final}
use Rattle.rules.specs.Text.{bytes}
use Rattle.rules.specs.HourFile.{hour_in}
use Rattle.rules.specs.Refusals.{row, Verdict, accepted, refused_at, verdict, Buffers, bad_area, file_rows, hour_rows}
use Rattle.rules.specs.Settling.{settle, read}
use Rattle.rules.specs.Statement.{statement}
use Rattle.rules.specs.Explanation.{explain}
use Rattle.rules.specs.Share.{ranked_size}
use Rattle.rules.specs.Promised.Lines.{lines_of, line_at, words_of, word_at, natural_in, SaysRefused}
use Rattle.rules.specs.Promised.Demands.{Accepts}

-- ---- the finals add up to nothing

-- an hour's figures as somebody gives them: the charge and the final of each member. What is taken off a charge is its share of N
pub record Neutral (h : Hour) (chargeAt finalAt : ℕ → ℤ) : Type 0 where
  -- all finals add up to exactly zero
  pub exact : total_below finalAt (members h) ≡ pos 0
  -- charge minus share; the share a second way, by rank
  pub final_is : (m : ℕ) → m < members h → let N = total_below chargeAt (members h) in
      finalAt m ≡ chargeAt m -ℤ with_sign_of N (ranked_size every_member (member_demand h) (members h) (nat_abs N) m)
  -- each share is less than a cent from its exact fraction: the share times T against D×N
  pub near : (m : ℕ) → m < members h → (hour_demand h ≡ 0 → ⊥) → let N = total_below chargeAt (members h) in
      nat_abs ((chargeAt m -ℤ finalAt m) *ℤ pos (hour_demand h) -ℤ pos (member_demand h m) *ℤ N) < hour_demand h
  pub none_to_share : (m : ℕ) → m < members h → hour_demand h ≡ 0 → finalAt m ≡ chargeAt m

-- what an accepted settling of this hour leaves in the buffers
pub record NeutralOutcome (h : Hour) (before after : Buffers) : Type 0 where
  pub neutral : Neutral h (λ m. get_or after.charges m (pos 0)) (λ m. get_or after.finals m (pos 0))
  pub past_finals : drop (members h) after.finals ≡ drop (members h) before.finals
  pub same_length : length after.finals ≡ length before.finals

-- ---- refusal 12

-- every load's A is 0
abbrev pub NobodyDemands : Hour → Type 0
NobodyDemands h = (i : ℕ) → i < h.count → is_load (entry_of h i).kind ≡ true → (entry_of h i).A ≡ pos 0

-- what is answered of a file: 12 exactly where rows 1 to 5, 14 and 6 are passed, nobody demands anything, and the charges don't add up to 0;
-- row 7 is never broken
abbrev pub HeldToDemand : List ℕ → Verdict → Type 0
HeldToDemand s answered = let h = hour_in s in (answered ≡ refused_at 12 0) ↔
    ((verdict (file_rows s ++ row 6 (bad_area h) ∷ []) ≡ accepted) × NobodyDemands h × (total_below (charge h) (members h) ≡ pos 0 → ⊥))

pub record Neutrality : Type 0 where
  -- of settling, of the statement and of an explanation
  pub settle_held : (s : List ℕ) (b : Buffers) → HeldToDemand s (settle s b).verdict
  pub statement_held : (s : List ℕ) → HeldToDemand s (verdict (hour_rows s))
  pub explain_held : (s : List ℕ) (m : ℕ) → HeldToDemand s (explain s m).verdict
  pub settled : (s : List ℕ) (b : Buffers) → Accepts s b → NeutralOutcome (hour_in s) b (settle s b).buffers
  -- all loads, all areas: of every file that passes rows 1 to 5 and 14 the members demand together what the areas do
  pub all_demand_lem : (s : List ℕ) → verdict (file_rows s) ≡ accepted → let h = hour_in s in hour_demand h ≡ sum_below (area_demand h) (areas h)
  -- the products stay below 10^19, of every such file
  pub products : (s : List ℕ) → verdict (file_rows s) ≡ accepted → let h = hour_in s in (m : ℕ) → m < members h →
      member_demand h m * nat_abs (neutrality h) < 10000000000000000000

-- ---- the sheet tells charges and finals

-- line 1 is before the members' lines
abbrev pub member_line_at : (member : ℕ) (sheet : List ℕ) → List ℕ
member_line_at m sheet = line_at sheet (suc m)

-- the 14 columns of a member's charge, and of its final
abbrev pub charge_column : (member : ℕ) (sheet : List ℕ) → List ℕ
charge_column m sheet = take 14 (drop 3 (member_line_at m sheet))

abbrev pub final_column : (member : ℕ) (sheet : List ℕ) → List ℕ
final_column m sheet = take 14 (drop 18 (member_line_at m sheet))

-- line 1: six words, three of them numbers
pub record SaysCounts (line : List ℕ) (hour memberCount record_count : ℕ) : Type 0 where
  pub six_words : length (words_of line) ≡ 6
  pub hour_said : (word_at line 0 ≡ bytes "hour") × (natural_in (word_at line 1) ≡ Some hour)
  pub members_said : (word_at line 2 ≡ bytes "members") × (natural_in (word_at line 3) ≡ Some memberCount)
  pub records_said : (word_at line 4 ≡ bytes "records") × (natural_in (word_at line 5) ≡ Some record_count)

-- two files of which the same is to be said: refused alike, or the same hour number and counts, and the same charges and finals
pub record SameSheet (s t : List ℕ) : Type 0 where
  pub verdict_is : verdict (hour_rows s) ≡ verdict (hour_rows t)
  pub head_is : verdict (hour_rows s) ≡ accepted → let h = hour_in s in let g = hour_in t in
      (hour_number h ≡ hour_number g) × (members h ≡ members g) × (h.count ≡ g.count)
  pub charge_is : verdict (hour_rows s) ≡ accepted → let h = hour_in s in let g = hour_in t in
      (m : ℕ) → m < members h → charge h m ≡ charge g m
  pub final_is : verdict (hour_rows s) ≡ accepted → let h = hour_in s in let g = hour_in t in
      (m : ℕ) → m < members h → final h m ≡ final g m

-- a sheet that shows these charges and finals: read, the columns of each member's line give them
pub record Shows (h : Hour) (chargeAt finalAt : ℕ → ℤ) (sheet : List ℕ) : Type 0 where
  -- line 1 and a line a member, each with its line feed, and nothing after the last
  pub line_count : length (lines_of sheet) ≡ members h + 2
  pub nothing_else : line_at sheet (suc (members h)) ≡ []
  -- two digits, a blank, 14 columns, a blank, 14 columns
  pub in_columns : (m : ℕ) → m < members h → let line = member_line_at m sheet in
      (length line ≡ 32) × (get_or line 2 0 ≡ 32) × (get_or line 17 0 ≡ 32)
  pub member_shown : (m : ℕ) → m < members h → natural_in (take 2 (member_line_at m sheet)) ≡ Some m
  pub charge_shown : (m : ℕ) → m < members h → read (charge_column m sheet) ≡ record { verdict = accepted; amount = chargeAt m }
  pub final_shown : (m : ℕ) → m < members h → read (final_column m sheet) ≡ record { verdict = accepted; amount = finalAt m }

-- what a settling left in the buffers
abbrev pub ShowsOutcome : Hour → Buffers → List ℕ → Type 0
ShowsOutcome h after = Shows h (λ m. get_or after.charges m (pos 0)) (λ m. get_or after.finals m (pos 0))

abbrev pub AreBytes : List ℕ → Type 0
AreBytes s = (i : ℕ) → get_or s i 0 < 256

pub record Sheet : Type 0 where
  -- line 1 says the hour and its counts, or the refusal stands alone
  pub counts_read : (s : List ℕ) → AreBytes s → verdict (hour_rows s) ≡ accepted → let h = hour_in s in
      SaysCounts (line_at (statement s) 0) (hour_number h) (members h) h.count
  pub refused_read : (s : List ℕ) → AreBytes s → (verdict (hour_rows s) ≡ accepted → ⊥) → SaysRefused (statement s) (verdict (hour_rows s))
  -- read, each column gives the member's amount
  pub read_back : (s : List ℕ) → verdict (hour_rows s) ≡ accepted → let h = hour_in s in Shows h (charge h) (final h) (statement s)
  -- it is what settling writes, into any buffers in which it accepts the hour
  pub as_settled : (s : List ℕ) (b : Buffers) → Accepts s b → ShowsOutcome (hour_in s) (settle s b).buffers (statement s)
  -- no two different settlements print the same sheet
  pub tells : (s t : List ℕ) → AreBytes s → AreBytes t → statement s ≡ statement t → SameSheet s t

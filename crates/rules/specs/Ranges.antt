-- What each word may be. A rule is a test of one word, a table gives the rule of every word; a word of the head or of a record that no table
-- names must be zero.
-- Document 01, "Units and ranges" and "The hour file"; an import's word 4 is document 02, A3. Rows 3 to 5 of the table of refusals cite these.
use Rattle.std.specs.Prelude.{ℕ, ◌+◌, ◌-◌, ◌*◌, ◌/◌, ◌%◌, Bool, true, not, cond, ◌&&◌, List, [], ◌∷◌, ◌++◌, nat_abs, get_or, ltb, leb, eqb, Option}
use Rattle.whole.specs.Below.{first_below}
use Rattle.rules.specs.declared.Kind.{Kind}
use Rattle.rules.specs.declared.Kind.TheVariants.{Generator, RealTimeLoad, ProfileLoad, Import, Export, Unknown}
use Rattle.rules.specs.declared.Rule.{Rule}
use Rattle.rules.specs.declared.Rule.TheVariants.{Any, Between, LessThan, AtMostInSize}
use Rattle.rules.specs.Record.{signed, kind_of}
use Rattle.rules.specs.declared.Layout.{Layout}
use Rattle.rules.specs.HourFile.{hourly, ten_minutes}

unfoldable pub keeps : Rule → ℕ → Bool
keeps Any v = true
keeps (Between least most) v = leb least v && leb v most
keeps (LessThan n) v = ltb v n
keeps (AtMostInSize n) v = leb (nat_abs (signed v)) n

-- the first of n words that breaks its rule
unfoldable pub first_broken : (ℕ → Rule) → (ℕ → ℕ) → ℕ → Option ℕ
first_broken rule word n = first_below (λ w. not (keeps (rule w) (word w))) n

abbrev pub must_be : ℕ → Rule
must_be k = Between k k

abbrev pub must_be_zero : Rule
must_be_zero = must_be 0

-- ---- words 0 to 7 of a block, and the zeros past its records

module _ (l : Layout) where
  -- word 2 of block b of n: the number of other blocks; then the records held, full in all but the last, 1 to full there
  unfoldable pub count_rule : (n b : ℕ) → Rule
  count_rule n b = let full = l.records in cond (eqb b 0) (must_be (n - 1)) (cond (ltb (b + 1) n) (must_be full) (Between 1 full))

  -- the body of a block that holds so many records: the first block's is for row 4
  unfoldable pub past_rule : (held b w : ℕ) → Rule
  past_rule held b w = cond (eqb b 0) Any (cond (leb (8 + l.words * held) w) must_be_zero Any)

  -- word w of block b of n; word 7 is what makes the sum zero
  unfoldable pub block_rule : (n held b w : ℕ) → Rule
  block_rule n held b w = get_or (
      must_be (cond (eqb b 0) l.first l.other) ∷ must_be b ∷ count_rule n b
      ∷ must_be_zero ∷ must_be_zero ∷ must_be_zero ∷ must_be_zero ∷ Any ∷ []) w (past_rule held b w)

-- ---- the first body

-- members, zones, areas
abbrev pub count_rules : List Rule
count_rules = Between 1 32 ∷ Between 1 4 ∷ Between 1 8 ∷ []

-- an area: its zone, tie in, tie out, zero
unfoldable pub area_rule : (zones w : ℕ) → Rule
area_rule zones w = get_or (LessThan zones ∷ Between 0 10000000 ∷ Between 0 10000000 ∷ must_be_zero ∷ []) w must_be_zero

-- words up to 8: the block's own, for row 3, and the hour number, any; then counts, prices, areas, zeros
unfoldable pub head_rule : (zones areas w : ℕ) → Rule
head_rule zones areas w =
    cond (ltb w 9) Any
    (cond (ltb w 12) (get_or count_rules (w - 9) must_be_zero)
    (cond (ltb w 16) (cond (ltb (w - 12) zones) (AtMostInSize 1000000) must_be_zero)
    (cond (ltb w 48) (cond (ltb ((w - 16) / 4) areas) (area_rule zones ((w - 16) % 4)) must_be_zero)
    must_be_zero)))

-- ---- records

abbrev pub energy : Rule
energy = Between 0 100000

abbrev pub adjustment : Rule
adjustment = AtMostInSize 100000

abbrev pub multiplier : Rule
multiplier = Between 1 20000

abbrev pub unused : Rule
unused = must_be_zero

-- words 3 to 11 of each kind
unfoldable pub rules_of : Kind → List Rule
--                   S        A        J            N        O        M        F            H            zero
rules_of Generator = energy ∷ energy ∷ adjustment ∷ energy ∷ energy ∷ energy ∷ multiplier ∷ multiplier ∷ must_be_zero ∷ []
rules_of RealTimeLoad = energy ∷ energy ∷ adjustment ∷ energy ∷ energy ∷ unused ∷ unused ∷ unused ∷ must_be_zero ∷ []
rules_of ProfileLoad = energy ∷ energy ∷ adjustment ∷ energy ∷ energy ∷ unused ∷ unused ∷ unused ∷ must_be_zero ∷ []
rules_of Import = energy ∷ unused ∷ adjustment ∷ energy ∷ unused ∷ unused ∷ multiplier ∷ multiplier ∷ must_be_zero ∷ []
rules_of Export = energy ∷ energy ∷ adjustment ∷ unused ∷ unused ∷ unused ∷ unused ∷ unused ∷ must_be_zero ∷ []
rules_of Unknown = []

-- word w of a record of this kind, for so many members and areas
unfoldable pub record_rule : (members areas kind w : ℕ) → Rule
record_rule members areas kind w = get_or (Between 1 5 ∷ LessThan members ∷ LessThan areas ∷ rules_of (kind_of kind)) w must_be_zero

-- ---- a ten-minute file: document 02, A7

-- its head: words 12 to 15 are zero; an area has its zone, and no ties; from 48 on each zone has six incremental prices, then six
-- decremental
unfoldable pub ten_minutes_head_rule : (zones areas w : ℕ) → Rule
ten_minutes_head_rule zones areas w =
    cond (ltb w 9) Any
    (cond (ltb w 12) (get_or count_rules (w - 9) must_be_zero)
    (cond (ltb w 16) must_be_zero
    (cond (ltb w 48) (cond (ltb ((w - 16) / 4) areas && eqb ((w - 16) % 4) 0) (LessThan zones) must_be_zero)
    (cond (ltb w 96) (cond (ltb ((w - 48) / 12) zones) (AtMostInSize 100000) must_be_zero)
    must_be_zero))))

abbrev pub six : Rule → List Rule
six rule = rule ∷ rule ∷ rule ∷ rule ∷ rule ∷ rule ∷ []

-- words 3 to 25 of each kind: the schedules of this hour, the one before and the next, the multipliers, six actuals, six adjustments, six
-- ancillary figures. Only ramped kinds use 4 and 5; a profile load has an hourly reading in word 8
unfoldable pub ten_minutes_rules_of : Kind → List Rule
--                             this     before   next     F            H            actuals           adjustments        ancillary
ten_minutes_rules_of Generator = energy ∷ energy ∷ energy ∷ multiplier ∷ multiplier ∷ six energy ++ six adjustment ++ six energy
ten_minutes_rules_of RealTimeLoad = energy ∷ energy ∷ energy ∷ unused ∷ unused ∷ six energy ++ six adjustment ++ six energy
ten_minutes_rules_of ProfileLoad = energy ∷ unused ∷ unused ∷ unused ∷ unused
    ∷ (energy ∷ unused ∷ unused ∷ unused ∷ unused ∷ unused ∷ []) ++ six adjustment ++ six energy
ten_minutes_rules_of Import = energy ∷ unused ∷ unused ∷ multiplier ∷ multiplier ∷ six unused ++ six adjustment ++ six energy
ten_minutes_rules_of Export = energy ∷ unused ∷ unused ∷ unused ∷ unused ∷ six energy ++ six adjustment ++ six unused
ten_minutes_rules_of Unknown = []

-- word w of a record of this kind: "0 to 2 as before", "the rest zero"
unfoldable pub ten_minutes_record_rule : (members areas kind w : ℕ) → Rule
ten_minutes_record_rule members areas kind w =
    get_or (Between 1 5 ∷ LessThan members ∷ LessThan areas ∷ ten_minutes_rules_of (kind_of kind)) w must_be_zero

-- ---- a kind of file

-- its layout, and the rule of every word of its head and of its records
pub record Form : Type 0 where
  pub layout : Layout
  pub head_rule : (zones areas w : ℕ) → Rule
  pub record_rule : (members areas kind w : ℕ) → Rule

-- the first release's
abbrev pub hourly_form : Form
hourly_form = record { layout = hourly; head_rule = head_rule; record_rule = record_rule }

-- document 02, A7
abbrev pub ten_minutes_form : Form
ten_minutes_form = record { layout = ten_minutes; head_rule = ten_minutes_head_rule; record_rule = ten_minutes_record_rule }

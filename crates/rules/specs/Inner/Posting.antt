-- Records posted in file order, as values: the hour's tally, the members' lines of which a posting touches one, and a member's heads.
-- Document 01, "The sums", "Records are posted in file order"; document 02, A5.
use Rattle.std.specs.Prelude.{ℕ, zero, suc, ◌+◌, cond, List, ℤ, pos, neg_ℤ, ◌+ℤ◌, ◌-ℤ◌, ◌*ℤ◌, eqb, get_or, set, replicate}
use Rattle.whole.specs.Below.{replacing_first}
use Rattle.rules.specs.declared.Kind.{Kind}
use Rattle.rules.specs.declared.Kind.TheVariants.{Generator, RealTimeLoad, ProfileLoad, Import, Export, Unknown}
use Rattle.rules.specs.declared.Line.{Line}
use Rattle.rules.specs.declared.Tally.{Tally}
use Rattle.rules.specs.Record.{Hour, Entry, members, price, member_of, area_of, entry_of, is_load}
use Rattle.rules.specs.Deviation.{units_per_kwh, multiplier_one}
use Rattle.rules.specs.Ufe.{D}
use Rattle.rules.specs.Charge.{entering, share_of, grains}
use Rattle.rules.specs.Settling.{empty_line}
use Rattle.rules.specs.Explanation.{no_heads, head_at}

-- ---- the tally

-- what a record adds to its area's energy: generation less its losses, minus load, minus an import's losses
unfoldable pub accounted_as : Kind → (A H : ℤ) → ℤ
accounted_as Generator A H = units_per_kwh *ℤ A -ℤ A *ℤ (multiplier_one -ℤ H)
accounted_as RealTimeLoad A H = neg_ℤ (units_per_kwh *ℤ A)
accounted_as ProfileLoad A H = neg_ℤ (units_per_kwh *ℤ A)
accounted_as Import A H = neg_ℤ (A *ℤ (multiplier_one -ℤ H))
accounted_as Export A H = pos 0
accounted_as Unknown A H = pos 0

unfoldable pub accounted : Entry → ℤ
accounted r = accounted_as r.kind r.A r.H

unfoldable pub empty_tally : Tally
empty_tally = record { records = 0; demand = replicate 8 0; energy = replicate 8 (pos 0) }

-- a record of area a, with its demand and its energy, brings the tally up to date
unfoldable pub tallied : Tally → (a demand : ℕ) (energy : ℤ) → Tally
tallied t a d e = record {
  records = t.records + 1;
  demand = set t.demand a (get_or t.demand a 0 + d);
  energy = set t.energy a (get_or t.energy a (pos 0) +ℤ e);
}

-- what a record demands: a load its D, another kind nothing
unfoldable pub demand_by : Entry → ℕ
demand_by r = cond (is_load r.kind) (D r) 0

module _ (h : Hour) where
  abbrev pub demand_of : ℕ → ℕ
  demand_of i = demand_by (entry_of h i)

  -- the tally once the first n records are posted
  unfoldable pub tally_after : ℕ → Tally
  tally_after zero = empty_tally
  tally_after (suc n) = tallied (tally_after n) (area_of h n) (demand_of n) (accounted (entry_of h n))

-- ---- the members' lines

unfoldable pub line_with : Line → ℤ → Line
line_with l g = record { amount = l.amount +ℤ g; records = l.records + 1 }

-- a posting touches one line and no other
unfoldable pub lines_with : List Line → (m : ℕ) (grains : ℤ) → List Line
lines_with ls m g = set ls m (line_with (get_or ls m empty_line) g)

module _ (h : Hour) (old : List Line) where
  -- the lines once the first n records are posted: what a member's line held before isn't read
  unfoldable pub lines_after : ℕ → List Line
  lines_after zero = replacing_first (λ m. empty_line) (members h) old
  lines_after (suc n) = lines_with (lines_after n) (member_of h n) (grains h n)

-- ---- a member's heads

-- where among the five the deviation of a kind stands; an unknown kind enters with nothing
abbrev pub head_place : Kind → ℕ
head_place Generator = 0
head_place RealTimeLoad = 1
head_place ProfileLoad = 1
head_place Import = 2
head_place Export = 3
head_place Unknown = 4

unfoldable pub head_with : List ℤ → (k : ℕ) (grains : ℤ) → List ℤ
head_with hs k g = set hs k (head_at hs k +ℤ g)

-- the grains of a record's deviation as it enters, and of its share
unfoldable pub heads_with : List ℤ → Kind → (deviation share : ℤ) → List ℤ
heads_with hs kind d s = head_with (head_with hs (head_place kind) d) 4 s

module _ (h : Hour) (m : ℕ) where
  -- the heads once the first n records are posted: of the member's alone
  unfoldable pub heads_after : ℕ → List ℤ
  heads_after zero = no_heads
  heads_after (suc n) = let p = price h (area_of h n) in let r = entry_of h n in
      cond (eqb (member_of h n) m) (heads_with (heads_after n) r.kind (p *ℤ entering r) (p *ℤ share_of h n)) (heads_after n)

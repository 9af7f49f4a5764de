-- `pool::answered` meets its contract, answer by answer: the rows before it are whole, and its own is broken, or none is.
use mathlib.Core.Path.{◌≡◌, sym, ◌∙◌, ap}
use Rattle.rules.specs.Refusals.{place_zero_if, bad_area}
use Rattle.hour.specs.Held.{held}
use Rattle.byarea.proofs.Tallies.{few_areas, unshared_is_bad}
use Rattle.pool.proofs.Answers.{area-refused, demand-refused, some-short, all_pass}
use Rattle.pool.proofs.answered.Goals as goal
use Rattle.pool.proofs.answered.Goals.{After-area_without_demand}

-- ---- row 6

pub ufe_figures-figures-requires : goal.ufe_figures-figures-requires
ufe_figures-figures-requires c = c.tally_of-tally.ensures

pub area_without_demand-requires : goal.area_without_demand-requires
area_without_demand-requires c = few_areas c.args.hour.now c.tally_of-tally.ensures

-- the first area found is the hour's
searched-is : (c : goal.After-area_without_demand) → c.area_without_demand.result ≡ bad_area (held c.args.hour.now)
searched-is c = c.area_without_demand.ensures ∙ unshared_is_bad c.args.hour.now c.tally_of-tally.ensures c.ufe_figures-figures.ensures

-- return Err(Refusal::BadArea(a))
pub returns-in-Some : goal.returns-in-Some
returns-in-Some c =
    let broken = sym (searched-is (goal.at.returns-in-Some c).After-area_without_demand) ∙ c.in-Some.is in
    record { says = λ b l. area-refused c.args.hour.now.file.now b c.requires c.args.hour.now.kept broken }

-- ---- row 12

pub no_demand-requires : goal.no_demand-requires
no_demand-requires c = c.tally_of-tally.ensures

-- return Err(Refusal::NoDemand)
pub returns-then-no_demand : goal.returns-then-no_demand
returns-then-no_demand c =
    let areas-pass = sym (searched-is (goal.at.returns-then-no_demand c).After-area_without_demand) ∙ c.in_default.is in
    let broken = sym c.no_demand.ensures ∙ ap place_zero_if c.if-no_demand.true in
    record { says = λ b l. demand-refused c.args.hour.now.file.now b c.requires c.args.hour.now.kept areas-pass broken }

-- ---- row 11

-- return Err(Refusal::TooShort)
pub returns-then-too_short : goal.returns-then-too_short
returns-then-too_short c =
    let areas-pass = sym (searched-is (goal.at.returns-then-too_short c).After-area_without_demand) ∙ c.in_default.is in
    let demand-passes = sym c.no_demand.ensures ∙ ap place_zero_if c.if-no_demand.false in
    let x = c.args.hour.now in record {
      says = λ b l. some-short x.file.now b c.requires x.kept areas-pass demand-passes l x.members_are x.records_are
          (sym c.too_short.ensures ∙ c.if-too_short.true);
    }

-- Ok(figures)
pub returns : goal.returns
returns c =
    let areas-pass = sym (searched-is (goal.at.returns c).After-area_without_demand) ∙ c.in_default.is in
    let demand-passes = sym c.no_demand.ensures ∙ ap place_zero_if c.if-no_demand.false in
    let x = c.args.hour.now in record {
      says = λ b l. all_pass x.file.now b c.requires x.kept areas-pass demand-passes l x.members_are x.records_are
          (sym c.too_short.ensures ∙ c.if-too_short.false) c.ufe_figures-figures.ensures;
    }

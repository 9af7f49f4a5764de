-- How far an hour is posted: what the functions that go on from there ask of their callers. And what a tally gives, whoever's it is.
use Rattle.std.specs.Prelude.{ℕ, ◌≡◌, Bool, not, ◌&&◌, List, eqb, ℤ, pos, nat_abs, get_or}
use Rattle.whole.specs.Below.{sum_below}
use Rattle.rules.specs.declared.Tally.{Tally}
use Rattle.rules.specs.Inner.Posting.{tally_after}
use Rattle.hour.specs.declared.examined.Hour.{Hour}
use Rattle.hour.specs.Held.{held}

-- all records are in the tally
abbrev pub Tallied : Hour → Tally → Type 0
Tallied x t = t ≡ tally_after (held x) (held x).count

-- an area in which nobody demands anything and whose figure isn't 0
abbrev pub unshared : Tally → List ℤ → ℕ → Bool
unshared t figures a = eqb (get_or t.demand a 0) 0 && not (eqb (nat_abs (get_or figures a (pos 0))) 0)

-- what the first areas demand together
abbrev pub demand_in : Tally → ℕ → ℕ
demand_in t = sum_below (λ a. get_or t.demand a 0)

-- A record posted to a member's heads, and what a posting asks of its callers: that the sums still fit their words.
use Rattle.std.specs.Prelude.{ℕ, List, ℤ, ◌*ℤ◌}
use Rattle.whole.specs.Signed.{Under}
use Rattle.rules.specs.Record.{Hour, price, area_of, entry_of}
use Rattle.rules.specs.Charge.{entering, share_of}
use Rattle.rules.specs.Explanation.{head_at}
use Rattle.rules.specs.Inner.Posting.{heads_with}

-- no head is larger
abbrev pub AllUnder : ℕ → List ℤ → Type 0
AllUnder most heads = (k : ℕ) → Under (head_at heads k) most

-- the heads with record i's grains
abbrev pub with_record : Hour → ℕ → List ℤ → List ℤ
with_record h i heads = let p = price h (area_of h i) in let r = entry_of h i in heads_with heads r.kind (p *ℤ entering r) (p *ℤ share_of h i)

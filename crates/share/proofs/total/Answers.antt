-- `share::total` meets its contract: what all demand is the sum of the list.
use mathlib.Core.Path.{◌≡◌, sym, ◌∙◌}
use Prim.Native.Nat.{◌<◌}
use Rattle.std.proofs.Common.{rules}
use Rattle.std.specs.List.{sum}
use Rattle.share.proofs.Parts.{demanded_sum}
use Rattle.share.proofs.total.Goals as goal

pub sum-requires-clause-fits : goal.sum-requires-clause-fits
sum-requires-clause-fits c =
    let h : sum c.args.demands.now < 18446744073709551616 = rw (← demanded_sum c.args.demands.now) c.requires in search rules

pub returns : goal.returns
returns c = let e : c.sum.result ≡ sum c.args.demands.now = search rules in e ∙ sym (demanded_sum c.args.demands.now)

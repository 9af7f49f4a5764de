-- `explain::heads::post` meets its contract: price, deviation and share each keep their range, so that the products fit, and the heads have
-- room for them.
use mathlib.Core.Path.{◌≡◌, ◌∙◌, ap, ap₂}
use mathlib.Core.List.{List}
use Prim.Native.Nat.{ℕ}
use lib.IntN.{ℤ}
use lib.ListN.{set}
use Rattle.whole.proofs.Ranges.{u_more}
use Rattle.whole.proofs.Machine.{Num, at, result, ◌:+◌, ◌:*◌, fits, stored, bound, read_back}
use Rattle.rules.specs.Record.{Hour, entry_of, area_of}
use Rattle.rules.specs.Charge.{entering_as, entering}
use Rattle.rules.specs.Explanation.{head_at}
use Rattle.rules.specs.Inner.Posting.{head_place, head_with, heads_with}
use Rattle.rules.specs.Inner.Kept.{RecordKept}
use Rattle.rules.proofs.Bounds.{deviation_under, entering_under, share_under, price_under}
use Rattle.hour.specs.Held.{held}
use Rattle.explain.proofs.Posting.{with_under}
use Rattle.explain.proofs.heads.post.Goals as goal
use Rattle.explain.proofs.heads.post.Goals.{After-entering}

-- price, deviation and share, each as a number with its range
module _ (c : After-entering) where
  abbrev h : Hour
  h = held c.args.hour.now

  own : RecordKept h c.args.i
  own = c.args.hour.now.kept.hour_kept.record_kept c.args.i c.requires.0.there

  entering_is : c.entering.result ≡ entering (entry_of h c.args.i)
  unfolding entering
  entering_is =
      c.entering.ensures ∙ ap₂ entering_as c.kind_of-kind.ensures (read_back c.ranges.deviation ∙ c.requires.0.deviation_is)

  abbrev priced : Num
  priced = result c.price_of-price.ensures (price_under c.args.hour.now.kept.hour_kept (area_of h c.args.i) own.area_there)

  abbrev deviated : Num
  deviated = priced :* result entering_is (entering_under own.entry_kept)

  abbrev shared : Num
  shared = priced :* result c.requires.0.share_is (share_under c.args.hour.now.kept.hour_kept c.args.i c.requires.0.there)

  -- the heads with the deviation's grains at their place, and then with the share's
  module _ (p : ℕ) where
    abbrev heads : List ℤ
    heads = c.args.heads.now

    abbrev first : Num
    first = at (c.requires.1 p) :+ deviated

    entered_is : set heads p first.rd ≡ head_with heads p deviated.z
    unfolding head_with
    entered_is = ap (set heads p) (stored first tt)

    abbrev second : Num
    second =
        result (ap (λ (l : List ℤ). head_at l 4) entered_is) (with_under heads p 4 c.requires.1 (bound deviated tt)) :+ shared

    posted : set (set heads p first.rd) 4 second.rd ≡ head_with (head_with heads p deviated.z) 4 shared.z
    unfolding head_with
    posted = ap₂ (λ (l : List ℤ) (v : ℤ). set l 4 v) entered_is (stored second tt)

pub entering-requires : goal.entering-requires
entering-requires c =
    let own = c.args.hour.now.kept.hour_kept.record_kept c.args.i c.requires.0.there in
    rw (read_back c.ranges.deviation ∙ c.requires.0.deviation_is) (u_more 144000000000 (deviation_under own.entry_kept) tt)

-- price * formula::deviation::entering(kind, deviation)
pub overflow_mul-heads : goal.overflow_mul-heads
overflow_mul-heads c = fits (deviated (goal.at.overflow_mul-heads c).After-entering) tt

-- heads[head_place(kind)] += ..
pub overflow_add-heads : goal.overflow_add-heads
overflow_add-heads c = fits (first (goal.at.overflow_add-heads c).After-entering c.head_place.result) tt

-- price * share
pub overflow_mul-heads-2 : goal.overflow_mul-heads-2
overflow_mul-heads-2 c = fits (shared (goal.at.overflow_mul-heads-2 c).After-entering) tt

-- heads[4] += ..
pub overflow_add-heads-2 : goal.overflow_add-heads-2
overflow_add-heads-2 c = fits (second (goal.at.overflow_add-heads-2 c).After-entering c.head_place.result) tt

pub returns : goal.returns
unfolding heads_with
returns c =
    let own = (goal.at.returns c).After-entering in
    posted own c.head_place.result
    ∙ ap (λ k. head_with (head_with c.args.heads.now k (deviated own).z) 4 (shared own).z)
    (c.head_place.ensures.0 ∙ ap head_place c.kind_of-kind.ensures)

-- `bymember::grains` meets its contract: price, deviation and share each keep their range, so that the product fits.
use mathlib.Core.Path.{◌≡◌, ◌∙◌, ap₂}
use Rattle.whole.proofs.Ranges.{u_more}
use Rattle.whole.proofs.Machine.{Num, result, ◌:+◌, ◌:*◌, fits, stored, read_back}
use Rattle.rules.specs.Record.{entry_of, area_of}
use Rattle.rules.specs.Charge.{entering_as, entering, grains}
use Rattle.rules.specs.Inner.Kept.{RecordKept}
use Rattle.rules.proofs.Bounds.{deviation_under, entering_under, share_under, price_under}
use Rattle.hour.specs.Held.{held}
use Rattle.bymember.proofs.grains.Goals as goal
use Rattle.bymember.proofs.grains.Goals.{After-price_of}

-- price, deviation and share, each as a number with its range
module _ (c : After-price_of) where
  own : RecordKept (held c.args.hour.now) c.args.i
  own = c.args.hour.now.kept.hour_kept.record_kept c.args.i c.requires.there

  entering_is : c.entering-entering.result ≡ entering (entry_of (held c.args.hour.now) c.args.i)
  unfolding entering
  entering_is =
      c.entering-entering.ensures ∙ ap₂ entering_as c.kind_of.ensures (read_back c.ranges.deviation ∙ c.requires.deviation_is)

  abbrev sum : Num
  sum = result entering_is (entering_under own.entry_kept)
      :+ result c.requires.share_is (share_under c.args.hour.now.kept.hour_kept c.args.i c.requires.there)

  abbrev product : Num
  product =
      let h = held c.args.hour.now in
      result c.price_of.ensures (price_under c.args.hour.now.kept.hour_kept (area_of h c.args.i) own.area_there) :* sum

pub entering-entering-requires : goal.entering-entering-requires
entering-entering-requires c =
    let own = c.args.hour.now.kept.hour_kept.record_kept c.args.i c.requires.there in
    rw (read_back c.ranges.deviation ∙ c.requires.deviation_is) (u_more 144000000000 (deviation_under own.entry_kept) tt)

-- entering + share
pub overflow_add-result : goal.overflow_add-result
overflow_add-result c = fits (sum (goal.at.overflow_add-result c).After-price_of) tt

-- hour.price_of(i) * (entering + share)
pub overflow_mul-result : goal.overflow_mul-result
overflow_mul-result c = fits (product (goal.at.overflow_mul-result c).After-price_of) tt

pub returns : goal.returns
unfolding grains
returns c = stored (product (goal.at.returns c).After-price_of) tt

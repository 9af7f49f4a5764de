-- `hour::price` meets its contract: an area's zone is one of at most four, whose prices stand in the head.
use mathlib.Core.Path.{◌≡◌, ◌∙◌, ap}
use Prim.Native.Nat.{◌+◌, ◌*◌, ◌<◌}
use native.Mathlib.Omega.{arith}
use borrow.Author.Rules.{sfits_of}
use Rattle.whole.proofs.Machine.{read_back}
use Rattle.rules.specs.Record.{price, zone_price, zone_of, signed}
use Rattle.hour.proofs.Inside.{head_inside, head_there}
use Rattle.rules.specs.HourFile.{hour_in}
use Rattle.hour.proofs.price.Goals as goal
use Rattle.hour.proofs.price.Goals.{After-whole_word-zone, Start}

area-few : (c : goal.Start) → c.args.a < 8
area-few c = omega (arith, c.requires.0.hour_kept.areas_most, c.requires.1)

module _ (c : goal.After-whole_word-zone) where
  zone-is : c.whole_word-zone.result ≡ zone_of (hour_in c.args.file.now) c.args.a
  unfolding zone_of
  zone-is =
      c.whole_word-zone.ensures
      ∙ head_there c.requires.0 (16 + 4 * c.args.a) (omega (arith, c.requires.0.hour_kept.areas_most, c.requires.1)) (omega arith)

  zone-few : 12 + c.whole_word-zone.result < 16
  zone-few =
      let ranges = c.requires.0.hour_kept in
      omega (arith, zone-is, (ranges.area_kept c.args.a c.requires.1).zone_there, ranges.zones_most)

-- blocks::whole_word(file, 16 + 4 * a)
pub whole_word-zone-requires : goal.whole_word-zone-requires
whole_word-zone-requires c = head_inside c.requires.0 (16 + 4 * c.args.a) (omega (arith, area-few (goal.at.whole_word-zone-requires c).Start))

-- 12 + zone
pub overflow_add-zone : goal.overflow_add-zone
overflow_add-zone c = omega (arith, zone-few (goal.at.overflow_add-zone c).After-whole_word-zone)

-- blocks::whole_word(file, 12 + zone)
pub whole_word-requires : goal.whole_word-requires
whole_word-requires c =
    head_inside c.requires.0 (12 + c.whole_word-zone.result)
    (omega (arith, zone-few (goal.at.whole_word-requires c).After-whole_word-zone))

pub returns : goal.returns
unfolding price zone_price
returns c =
    let zoned = (goal.at.returns c).After-whole_word-zone in
    let h = hour_in c.args.file.now in
    read_back (sfits_of c.signed.type_inv)
    ∙ c.signed.ensures
    ∙ ap signed (c.whole_word.ensures
    ∙ head_there c.requires.0 (12 + c.whole_word-zone.result) (omega (arith, zone-few zoned)) (omega arith)
    ∙ ap (λ z. h.head (12 + z)) (zone-is zoned))

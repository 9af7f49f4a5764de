-- `tenminutes::nets::post` meets its contract: a record's intervals go to its zone's places.
use mathlib.Core.Path.{◌≡◌, refl, ◌∙◌, ap}
use mathlib.Core.List.{List}
use Prim.Native.Nat.{ℕ, ◌<◌}
use native.Mathlib.Omega.{arith}
use Rattle.rules.specs.Record.{area_of, zone_of, areas}
use Rattle.rules.specs.Charge.{entering}
use Rattle.rules.specs.HourFile.{ten_minutes, word}
use Rattle.rules.specs.TenMinutes.{ten_minutes_in}
use Rattle.rules.specs.Inner.Kept.{TenMinutesFileKept}
use Rattle.blocks.specs.Part.{record_part}
use Rattle.tenminutes.proofs.Inside.{part_length, part_area, part_kept, part_interval}
use Rattle.tenminutes.proofs.Adding.{spare, its_own}
use Rattle.tenminutes.proofs.nets.post.Goals as goal

module _ {s words : List ℕ} {i : ℕ} (kept : TenMinutesFileKept s) (there : i < (ten_minutes_in s).count)
    (part : words ≡ record_part ten_minutes s i) where
  area_there : {a : ℕ} → a ≡ word words 2 → a < areas (ten_minutes_in s)
  area_there e = omega (arith, e, part_area kept there part, (kept.hour_kept.record_kept i there).area_there)

  zone-is : {a z : ℕ} → a ≡ word words 2 → z ≡ zone_of (ten_minutes_in s) a → z ≡ zone_of (ten_minutes_in s) (area_of (ten_minutes_in s) i)
  zone-is e f = f ∙ ap (zone_of (ten_minutes_in s)) (e ∙ part_area kept there part)

  zone-few : {a z : ℕ} → a ≡ word words 2 → z ≡ zone_of (ten_minutes_in s) a → z < 4
  zone-few {a} e f = omega (arith, f, kept.hour_kept.zone_there a (area_there e), kept.hour_kept.zones_most)

pub new-part-requires : goal.new-part-requires
new-part-requires c =
    let kept = c.args.hour.now.kept in
    (part_length kept c.requires.0 c.record.ensures, part_kept kept c.requires.0 c.record.ensures)

pub zone_of-zone-requires : goal.zone_of-zone-requires
zone_of-zone-requires c =
    area_there c.args.hour.now.kept c.requires.0 (c.new-part.ensures ∙ c.record.ensures) c.area.ensures

-- nets[zone]
pub offset_bounds-nets-zone : goal.offset_bounds-nets-zone
offset_bounds-nets-zone c =
    omega (arith, zone-few c.args.hour.now.kept c.requires.0 (c.new-part.ensures ∙ c.record.ensures) c.area.ensures c.zone_of-zone.ensures)

pub bounds-nets-zone : goal.bounds-nets-zone
bounds-nets-zone c =
    omega (arith, zone-few c.args.hour.now.kept c.requires.0 (c.new-part.ensures ∙ c.record.ensures) c.area.ensures c.zone_of-zone.ensures)

pub add-requires : goal.add-requires
add-requires c =
    let kept = c.args.hour.now.kept in
    spare c.requires.1 kept.hour_kept (omega (arith, c.requires.0)) _
    (zone-few kept c.requires.0 (c.new-part.ensures ∙ c.record.ensures) c.area.ensures c.zone_of-zone.ensures)

pub returns : goal.returns
returns c =
    let kept = c.args.hour.now.kept in
    let part = c.new-part.ensures ∙ c.record.ensures in
    rw c.add.ensures (
    its_own c.requires.1 refl (zone-is kept c.requires.0 part c.area.ensures c.zone_of-zone.ensures)
    (zone-few kept c.requires.0 part c.area.ensures c.zone_of-zone.ensures)
    (λ k l. ap entering (part_interval kept c.requires.0 part k l)))

-- `tenminutes::words::Hour::zone_of` meets its contract: an area is one of eight, four words each.
use mathlib.Core.Path.{◌∙◌}
use Prim.Native.Nat.{◌+◌, ◌*◌}
use native.Mathlib.Omega.{arith}
use Rattle.rules.specs.Record.{zone_of}
use Rattle.tenminutes.proofs.Inside.{head_inside, head_there}
use Rattle.tenminutes.proofs.words.Hour.zone_of.Goals as goal

pub whole_word-requires : goal.whole_word-requires
whole_word-requires c =
    let kept = c.args.self.now.kept in
    head_inside kept (16 + 4 * c.args.area) (omega (arith, kept.hour_kept.areas_most, c.requires))

pub returns : goal.returns
unfolding zone_of
returns c =
    let kept = c.args.self.now.kept in
    c.whole_word.ensures ∙ head_there kept (16 + 4 * c.args.area) (omega (arith, kept.hour_kept.areas_most, c.requires)) (omega arith)

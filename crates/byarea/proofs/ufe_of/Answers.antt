-- `byarea::ufe_of` meets its contract: ties and energy keep their ranges, so that their sum fits.
use mathlib.Core.Path.{◌≡◌, ◌∙◌, ap}
use lib.IntN.{pos}
use mir.Syntax.{w64}
use mir.Val.{to_z, of_z}
use borrow.Author.Rules.{sfits_of}
use Rattle.whole.proofs.Ranges.{u_upto}
use Rattle.whole.proofs.Machine.{read_back, Num, #, at, local, ◌:+◌, ◌:-◌, ◌:*◌, fits, stored}
use Rattle.rules.specs.Record.{tie_in, tie_out}
use Rattle.hour.specs.Held.{held}
use Rattle.byarea.proofs.Tallies.{energy_under, ufe_is}
use Rattle.byarea.proofs.ufe_of.Goals as goal
use Rattle.byarea.proofs.ufe_of.Goals.{After-from-tie_out}

module _ (c : goal.After-from-tie_out) where
  tie-in-is : to_z w64 (of_z w64 c.from-tie_in.result) ≡ tie_in (held c.args.hour.now) c.args.a
  unfolding tie_in
  tie-in-is = read_back (sfits_of c.from-tie_in.type_inv) ∙ c.from-tie_in.ensures ∙ ap pos c.head_word.ensures

  tie-out-is : to_z w64 (of_z w64 c.from-tie_out.result) ≡ tie_out (held c.args.hour.now) c.args.a
  unfolding tie_out
  tie-out-is = read_back (sfits_of c.from-tie_out.type_inv) ∙ c.from-tie_out.ensures ∙ ap pos c.head_word-2.ensures

  -- tie in - tie out
  abbrev ties : Num
  ties =
      let kept = c.args.hour.now.kept.hour_kept.area_kept c.args.a c.requires.1 in
      local tie-in-is (u_upto kept.tie_in_lem) :- local tie-out-is (u_upto kept.tie_out_lem)

  abbrev whole : Num
  whole = # (pos 10000) :* ties :+ at (energy_under c.args.hour.now c.requires.0 c.args.a c.requires.1)

-- tie_in - tie_out
pub overflow_sub-result : goal.overflow_sub-result
overflow_sub-result c = fits (ties (goal.at.overflow_sub-result c).After-from-tie_out) tt

-- 10000 * (tie_in - tie_out)
pub overflow_mul-result : goal.overflow_mul-result
overflow_mul-result c = fits (# (pos 10000) :* ties (goal.at.overflow_mul-result c).After-from-tie_out) tt

-- 10000 * (tie_in - tie_out) + t.energy[a]
pub overflow_add-result : goal.overflow_add-result
overflow_add-result c = fits (whole (goal.at.overflow_add-result c).After-from-tie_out) tt

pub returns : goal.returns
returns c = stored (whole (goal.at.returns c).After-from-tie_out) tt ∙ ufe_is c.args.hour.now c.requires.0 c.args.a c.requires.1

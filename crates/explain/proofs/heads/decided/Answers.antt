-- `explain::heads::decided` meets its contract: a head takes the lead, or the lead stays, until all five are weighed.
use mathlib.Core.Path.{◌≡◌, sym, ◌∙◌, ap}
use lib.IntN.{nat_abs}
use native.Mathlib.Omega.{arith}
use Rattle.whole.proofs.Machine.{element_fits, read_back, back}
use Rattle.rules.specs.Explanation.{head_at, same_sign, decided_by}
use Rattle.explain.proofs.Search.{none_leads, takes_lead, keeps_lead, passed_over}
use Rattle.explain.proofs.heads.decided.Goals as goal
use Rattle.explain.proofs.heads.decided.Goals.{After-same_sign, then-same_sign+then-most-unsigned_abs, else-same_sign, else-same_sign-via-then-same_sign+else-most-unsigned_abs, else-same_sign-via-else-same_sign}

-- a head as it is read
module _ (c : After-same_sign) where
  head_is : back (head_at c.args.heads c.loop-place.place) ≡ head_at c.args.heads c.loop-place.place
  head_is = read_back (element_fits c.args.heads _ c.loop-place.place c.well_formed.1.0.1.1)

  asked : c.same_sign.result ≡ same_sign (back c.args.charge) (head_at c.args.heads c.loop-place.place)
  asked = c.same_sign.ensures ∙ ap (same_sign (back c.args.charge)) head_is

pub loop-place-init : goal.loop-place-init
loop-place-init c = none_leads c.args.heads _

pub loop-place-preserved : goal.loop-place-preserved
loop-place-preserved c =
    let at = (goal.at.loop-place-preserved c).After-same_sign in
    let size = ap nat_abs (head_is at) in
    elim c.if-same_sign.branch [
      | then-same_sign+then-most-unsigned_abs w ↦ rw (w.best-is, w.most-is, w.unsigned_abs-most.ensures.value ∙ size)
          (takes_lead _ _ c.loop-place.invariant (sym (asked at) ∙ w.if-same_sign.true)
          (omega (arith, w.if-most-unsigned_abs.true, w.unsigned_abs.ensures.value, size)))
      | else-same_sign w ↦ rw (w.best-is, w.most-is) (elim w.else-same_sign.branch [
        | else-same_sign-via-then-same_sign+else-most-unsigned_abs v ↦ keeps_lead _ _ c.loop-place.invariant (sym (asked at) ∙ v.if-same_sign.true)
            (omega (arith, v.if-most-unsigned_abs.false, v.unsigned_abs.ensures.value, size))
        | else-same_sign-via-else-same_sign v ↦ passed_over _ _ c.loop-place.invariant (sym (asked at) ∙ v.if-same_sign.false)
      ])
    ]

pub returns : goal.returns
unfolding decided_by
returns c =
    let all : c.loop-place.place ≡ 5 = omega arith in
    (rw (all, read_back c.ranges.charge) at c.loop-place.invariant).best_is

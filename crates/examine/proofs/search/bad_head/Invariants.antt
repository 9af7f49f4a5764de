-- `examine::search::bad_head`. The loops' invariant: no word passed breaks its rule.
use Rattle.std.proofs.Common.{◌≡◌, None}
use Rattle.whole.specs.Below.{first_below}
use Rattle.examine.proofs.Head.{head_broken}
use Rattle.examine.proofs.search.bad_head.Given as goal

abbrev pub invariant-loop-w : goal.invariant-loop-w
invariant-loop-w g l = first_below (head_broken g.H.Form.Form.form (g.H.HourWords.hour l.hour)) l.w ≡ None

abbrev pub invariant-loop-w-2 : goal.invariant-loop-w-2
invariant-loop-w-2 g l = first_below (head_broken g.H.Form.Form.form (g.H.HourWords.hour l.hour)) l.w ≡ None

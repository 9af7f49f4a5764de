-- `examine::search::first_fault`. The loops' invariants: no word of the record passed breaks its rule; no record passed has such a word, and
-- `above` is the first of them that row 14 names.
use Rattle.std.proofs.Common.{◌≡◌, None}
use Rattle.whole.specs.Below.{first_below}
use Rattle.examine.proofs.Records.{record_broken, word_broken, named_by_14}
use Rattle.examine.proofs.search.first_fault.Given as goal

abbrev pub invariant-rows : goal.invariant-rows
invariant-rows g l = let h = g.H.HourWords.hour l.hour in record {
  nowhere : l.fault ≡ None;
  kept : first_below (record_broken g.H.Form.Form.form h) l.i ≡ None;
  above : l.above ≡ first_below (named_by_14 g.H.Form.Searched.compares h) l.i;
}

abbrev pub invariant-loop-w : goal.invariant-loop-w
invariant-loop-w g l = record {
  nowhere : l.fault ≡ None;
  kept : first_below (word_broken g.H.Form.Form.form (g.H.HourWords.hour l.hour) l.i) l.w ≡ None;
}

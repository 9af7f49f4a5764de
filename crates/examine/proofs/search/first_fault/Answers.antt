-- `examine::search::first_fault` meets its contract: the search stops at the first word of the first record that breaks its rule.
use Rattle.std.proofs.Common.{◌≡◌, ◌<◌, not, ◌∙◌, sym, ap, refl, arith}
use Rattle.whole.proofs.Search.{first_next, none_below}
use Rattle.rules.specs.declared.Layout.{Layout}
use Rattle.examine.proofs.Records.{named_by_14, passed_kept, word_told, whole_record, stops_at, stops_nowhere, passed_on, named_on}
use Rattle.examine.proofs.search.first_fault.Goals as goal
use Rattle.examine.proofs.search.first_fault.Goals.{else-rows-test, then-rows-test+then-loop-w-test+then-not-record_keeps, then-above_maximum, else-above_maximum}

pub rows-init : goal.rows-init
rows-init g c = record {
  nowhere = refl;
  kept = none_below _ 0 (λ k l. absurd (omega arith));
  above = sym (none_below _ 0 (λ k l. absurd (omega arith)));
}

pub loop-w-init : goal.loop-w-init
loop-w-init g c = record {
  nowhere = c.rows.invariant.nowhere;
  kept =
      let says = c.head-head.ensures.says in
      passed_kept g.H.Form.Form.form (g.H.HourWords.hour c.args.hour.now) c.rows.i _ c.record-record.ensures.says _ _
      (c.word-members.ensures ∙ says 9 (omega arith) (omega arith))
      (c.word-areas.ensures ∙ says 11 (omega arith) (omega arith))
      c.passed-w.result g.met.H.Form.Form.laws.nine_words c.passed-w.ensures.within c.passed-w.ensures.kept;
}

pub loop-w-preserved : goal.loop-w-preserved
loop-w-preserved g c = record {
  nowhere = c.loop-w.invariant.nowhere;
  kept = first_next _ c.loop-w.w c.loop-w.invariant.kept
      (let says = c.head-head.ensures.says in
      let nine = g.met.H.Form.Form.laws.nine_words in
      let size : c.layout-size.result.words ≡ g.H.Form.Form.form.layout.words = ap (λ (l : Layout). l.words) c.layout-size.ensures in
      sym (word_told g.H.Form.Form.form (g.H.HourWords.hour c.args.hour.now) c.rows.i c.loop-w.w _ _ _ _ _
      (c.word-members.ensures ∙ says 9 (omega arith) (omega arith))
      (c.word-areas.ensures ∙ says 11 (omega arith) (omega arith))
      (c.word.ensures ∙ c.record-record.ensures.says 0 (omega arith))
      (c.word-in-loop-w.ensures ∙ c.record-record.ensures.says c.loop-w.w (omega arith))
      (c.record_keeps.ensures c.word.result (sym c.from-kind.ensures))) ∙ ap not c.if-not-record_keeps.false);
}

pub rows-preserved : goal.rows-preserved
rows-preserved g c =
    let compares = g.H.Form.Searched.compares in
    let h = g.H.HourWords.hour c.args.hour.now in
    let nine = g.met.H.Form.Form.laws.nine_words in
    let size : c.layout-size.result.words ≡ g.H.Form.Form.form.layout.words = ap (λ (l : Layout). l.words) c.layout-size.ensures in
    record {
      nowhere = c.loop-w.invariant.nowhere;
      kept = first_next _ c.rows.i c.rows.invariant.kept
          (whole_record g.H.Form.Form.form h c.rows.i c.loop-w.w c.loop-w.invariant.kept (omega arith));
      above =
          let says = c.record-record.ensures.says in
          let named : c.above_maximum.result ≡ named_by_14 compares h c.rows.i =
          c.above_maximum.ensures ∙ rw (says 0 (omega arith), says 3 (omega arith), says 8 (omega arith)) in
          elim c.if-above_maximum.branch [
            | then-above_maximum w ↦ w.above-is ∙ w.or-above.ensures
                ∙ named_on compares h c.rows.i c.rows.above _ c.rows.invariant.above named w.if-above_maximum.true
            | else-above_maximum w ↦ w.above-is ∙ passed_on compares h c.rows.i c.rows.above _ c.rows.invariant.above named w.if-above_maximum.false
          ];
    }

-- Err(fault): only where the search was left
pub returns-in-Some : goal.returns-in-Some
returns-in-Some g c =
    elim c.rows-test.branch [
      | else-rows-test w ↦ absurd (cc (w.fault-is, c.in-Some.is, c.rows.invariant.nowhere))
      | then-rows-test+then-loop-w-test+then-not-record_keeps w ↦
          let says = c.head-head.ensures.says in
          let h = g.H.HourWords.hour c.args.hour.now in
          let nine = g.met.H.Form.Form.laws.nine_words in
          let size : c.layout-size.result.words ≡ g.H.Form.Form.form.layout.words = ap (λ (l : Layout). l.words) c.layout-size.ensures in
          let inside : w.loop-w.w < g.H.Form.Form.form.layout.words = omega (arith, w.loop-w-test.true) in
          let broken = sym (word_told g.H.Form.Form.form h c.rows.i w.loop-w.w _ _ _ _ _
          (c.word-members.ensures ∙ says 9 (omega arith) (omega arith))
          (c.word-areas.ensures ∙ says 11 (omega arith) (omega arith))
          (w.word.ensures ∙ w.record-record.ensures.says 0 (omega arith))
          (w.word-in-loop-w.ensures ∙ w.record-record.ensures.says w.loop-w.w inside)
          (w.record_keeps.ensures w.word.result (sym w.from-kind.ensures))) ∙ ap not w.if-not-record_keeps.true in
          stops_at g.H.Form.Form.form h c.rows.i w.loop-w.w c.rows.invariant.kept w.loop-w.invariant.kept broken inside
          (omega (arith, w.rows-test.true)) ∙ (sym w.fault-is ∙ c.in-Some.is)
    ]

-- Ok(above): only where it went on to the end
pub returns-in-None : goal.returns-in-None
returns-in-None g c =
    elim c.rows-test.branch [
      | else-rows-test w ↦
          let h = g.H.HourWords.hour c.args.hour.now in
          let all : c.rows.i ≡ h.count = omega (arith, w.rows-test.false) in
          (stops_nowhere g.H.Form.Form.form h (rw all at c.rows.invariant.kept), w.above-is ∙ (rw all at c.rows.invariant.above))
      | then-rows-test+then-loop-w-test+then-not-record_keeps w ↦ absurd (cc (w.fault-is, c.in-None.is))
    ]

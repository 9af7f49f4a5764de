-- `examine::search::bad_head` meets its contract: nothing is asked of the words before 9, and from some word on all are zero.
use Rattle.std.proofs.Common.{◌≡◌, not, ◌∙◌, sym, ap, arith}
use Rattle.whole.proofs.Search.{first_next, first_hit, first_less, none_below}
use Rattle.rules.specs.Record.{zones, areas}
use Rattle.rules.specs.Ranges.{first_broken}
use Rattle.rules.specs.Refusals.{bad_head}
use Rattle.examine.proofs.Head.{head_broken, none_before, zero_broken, zero_keeps}
use Rattle.examine.proofs.search.bad_head.Given as given
use Rattle.examine.proofs.search.bad_head.Goals as goal
use Rattle.examine.proofs.search.bad_head.Goals.{After-keeps}

-- whether a word of the head breaks its rule
told : (g : given.Over) (c : goal.After-keeps g) → not c.keeps.result ≡ head_broken g.H.Form.Form.form (g.H.HourWords.hour c.args.hour.now) c.loop-w.w
told g c =
    let says = c.head-head.ensures.says in
    let h = g.H.HourWords.hour c.args.hour.now in
    let inside = g.met.H.Form.Form.laws.zeros_inside in
    let z : c.word-zones.result ≡ zones h = c.word-zones.ensures ∙ says 10 (omega arith) (omega arith) in
    let a : c.word-areas.result ≡ areas h = c.word-areas.ensures ∙ says 11 (omega arith) (omega arith) in
    let v : c.word.result ≡ h.head c.loop-w.w = c.word.ensures ∙ says c.loop-w.w (omega arith) (omega arith) in
    ap not (c.keeps.ensures ∙ rw (c.head_rule.ensures, z, a, v))

pub loop-w-init : goal.loop-w-init
loop-w-init g c = none_below _ 9 (none_before g.met.H.Form.Form.laws (g.H.HourWords.hour c.args.hour.now))

-- return Some(w)
pub returns-then-not-keeps : goal.returns-then-not-keeps
unfolding bad_head first_broken
returns-then-not-keeps g c =
    let inside = g.met.H.Form.Form.laws.zeros_inside in
    sym (first_hit _ c.loop-w.w 128 c.loop-w.invariant
    (sym (told g (goal.at.returns-then-not-keeps g c).After-keeps) ∙ ap not c.if-not-keeps.true) (omega arith))

pub loop-w-preserved : goal.loop-w-preserved
loop-w-preserved g c =
    first_next _ c.loop-w.w c.loop-w.invariant
    (sym (told g (goal.at.loop-w-preserved g c).After-keeps) ∙ ap not c.if-not-keeps.false)

pub loop-w-2-init : goal.loop-w-2-init
loop-w-2-init g c =
    let counts = g.met.H.Form.Form.laws.counts_before in
    let at : c.loop-w.w ≡ c.HEAD_END-w.result = omega arith in
    rw at at c.loop-w.invariant

-- return Some(w), where a word isn't zero
pub returns-then-word-ne0 : goal.returns-then-word-ne0
unfolding bad_head first_broken
returns-then-word-ne0 g c =
    let laws = g.met.H.Form.Form.laws in
    let h = g.H.HourWords.hour c.args.hour.now in
    let counts = laws.counts_before in
    let says = c.word-in-loop-w-2.ensures ∙ c.head-head.ensures.says c.loop-w-2.w (omega arith) (omega arith) in
    sym (first_hit _ c.loop-w-2.w 128 c.loop-w-2.invariant (zero_broken laws h c.loop-w-2.w _ (omega arith) says c.if-word-ne0.true) (omega arith))

pub loop-w-2-preserved : goal.loop-w-2-preserved
loop-w-2-preserved g c =
    let laws = g.met.H.Form.Form.laws in
    let h = g.H.HourWords.hour c.args.hour.now in
    let counts = laws.counts_before in
    let says = c.word-in-loop-w-2.ensures ∙ c.head-head.ensures.says c.loop-w-2.w (omega arith) (omega arith) in
    first_next _ c.loop-w-2.w c.loop-w-2.invariant (zero_keeps laws h c.loop-w-2.w _ (omega arith) says c.if-word-ne0.false)

-- None
pub returns : goal.returns
unfolding bad_head first_broken
returns g c = sym (first_less _ _ 128 c.loop-w-2.invariant c.loop-w-2-test.false)

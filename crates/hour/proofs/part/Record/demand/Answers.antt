-- `Record::demand` meets its contract: a load's word 4, and 0 for any other kind.
use mathlib.Core.Path.{◌≡◌, sym, ◌∙◌, ap}
use Rattle.rules.specs.Record.{kind_of, is_load, entry}
use Rattle.rules.specs.HourFile.{word}
use Rattle.rules.specs.Inner.Posting.{demand_by}
use Rattle.rules.proofs.Posting.{load_word}
use Rattle.hour.proofs.part.Record.demand.Goals as goal
use Rattle.hour.proofs.part.Record.demand.Goals.{After-is_load}

-- what the test answered of the kind is what the definition asks
is-load : (c : goal.After-is_load) → is_load (kind_of (word c.args.self.now.words.now 0)) ≡ c.is_load.result
is-load c = sym (ap is_load c.kind.ensures) ∙ sym c.is_load.ensures

-- return blocks::whole_word(words, 4)
pub returns-then-is_load : goal.returns-then-is_load
unfolding demand_by entry
returns-then-is_load c =
    let load = is-load (goal.at.returns-then-is_load c).After-is_load ∙ c.if-is_load.true in
    let words = c.args.self.now.words.now in
    rw load (c.whole_word.ensures ∙ sym (load_word (word words) load))

-- 0
pub returns : goal.returns
unfolding demand_by entry
returns c = rw (is-load (goal.at.returns c).After-is_load ∙ c.if-is_load.false)

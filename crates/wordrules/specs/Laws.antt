-- What a kind of file keeps, whatever its words mean.
use Rattle.std.specs.Prelude.{◌≡◌, ℕ, ◌-◌, ◌≤◌, true, cond, List, get_or}
use Rattle.rules.specs.declared.Kind.{Kind}
use Rattle.rules.specs.declared.Kind.TheVariants.{Generator}
use Rattle.rules.specs.declared.Rule.{Rule}
use Rattle.rules.specs.declared.Rule.TheVariants.{Between, LessThan}
use Rattle.rules.specs.Record.{kind_of}
use Rattle.rules.specs.Ranges.{keeps, must_be_zero, Form}
use Rattle.rules.specs.Inner.Layouts.{FitsBody}

module _ (rules_of : Kind → List Rule) where
  -- of a record's words from word 3 on: the rule in this kind's row
  abbrev pub rule_for : Kind → ℕ → Rule
  rule_for kind w = get_or (rules_of kind) (w - 3) must_be_zero

  -- a form whose records have these rows, and whose head is zero from some word on
  pub record FormLaws (form : Form) (head_end : ℕ) : Type 0 where
    -- its records fit into the body of a block, and its blocks are few
    pub fits : FitsBody form.layout
    pub few_blocks : form.layout.blocks ≤ 26
    -- row 4 doesn't ask for the block's own words and the hour number
    pub front_any : (zones areas w v : ℕ) → w ≤ 8 → keeps (form.head_rule zones areas w) v ≡ true
    -- the head's zeros begin behind the counts, and inside the first block
    pub counts_before : 9 ≤ head_end
    pub zeros_inside : head_end ≤ 128
    pub zero_from : (zones areas w : ℕ) → head_end ≤ w → form.head_rule zones areas w ≡ must_be_zero
    -- a record has words 0 to 8
    pub nine_words : 9 ≤ form.layout.words
    -- words 0 to 2: kind, member and area
    pub named : (members areas kind : ℕ) → (form.record_rule members areas kind 0 ≡ Between 1 5)
        × (form.record_rule members areas kind 1 ≡ LessThan members) × (form.record_rule members areas kind 2 ≡ LessThan areas)
    -- a word in use has the same rule in all kinds, the generator's; any other is zero
    pub used_or_zero : (members areas kind w : ℕ) → 3 ≤ w → form.record_rule members areas kind w
        ≡ cond (keeps (rule_for (kind_of kind) w) 1) (rule_for Generator w) must_be_zero

-- What row 4 asks of a word of the head: nothing of the block's own words and the hour number, and zero from some word on.
use Rattle.std.proofs.Common.{◌≡◌, ℕ, ◌≤◌, ◌<◌, Bool, true, false, not, eqb, List, ap, ◌∙◌, arith}
use borrow.Author.Tests.{eq-eqb, ne_eqb}
use Rattle.rules.specs.declared.Kind.{Kind}
use Rattle.rules.specs.declared.Rule.{Rule}
use Rattle.rules.specs.Record.{Hour, zones, areas}
use Rattle.rules.specs.Ranges.{keeps, Form}
use Rattle.rules.proofs.RuleTables.{zero_kept}
use Rattle.wordrules.specs.Laws.{FormLaws}

module _ (form : Form) (h : Hour) where
  -- word w of the first block breaks its rule
  abbrev pub head_broken : ℕ → Bool
  head_broken w = not (keeps (form.head_rule (zones h) (areas h) w) (h.head w))

module _ {rules_of : Kind → List Rule} {form : Form} {head_end : ℕ} (laws : FormLaws rules_of form head_end) (h : Hour) where
  pub none_before : (w : ℕ) → w < 9 → head_broken form h w ≡ false
  none_before w l = ap not (laws.front_any (zones h) (areas h) w (h.head w) (omega arith))

  -- from some word on: broken by any other than zero
  module _ (w v : ℕ) (l : head_end ≤ w) (says : v ≡ h.head w) where
    by_zero : head_broken form h w ≡ not (eqb v 0)
    by_zero = rw says (ap not (rw (laws.zero_from (zones h) (areas h) w l) (zero_kept (h.head w))))

    pub zero_broken : (v ≡ 0 → ⊥) → head_broken form h w ≡ true
    zero_broken other = by_zero ∙ ap not (ne_eqb v 0 other)

    pub zero_keeps : v ≡ 0 → head_broken form h w ≡ false
    zero_keeps is = by_zero ∙ ap not (eq-eqb v 0 is)

-- Rows 5 and 14 of an hour, record by record and word by word.
use Rattle.std.proofs.Common.{◌≡◌, ℕ, ◌+◌, ◌≤◌, ◌<◌, Bool, true, false, not, refl, ap, sym, ◌∙◌, arith, Option, None, Some}
use Rattle.std.specs.Option.{option_or}
use Rattle.whole.specs.Below.{first_below}
use Rattle.whole.proofs.Search.{first_hit, first_less, first_so_far, none_below}
use Rattle.rules.specs.Record.{Hour, members, areas}
use Rattle.rules.specs.Ranges.{keeps, first_broken, Form}
use Rattle.rules.specs.Refusals.{is_broken, bad_word, bad_record, first_fault}
use Rattle.rules.proofs.Faults.{fault_at_lem, no_fault}
use Rattle.examine.specs.Fault.{above_by}

or_none : (o : Option ℕ) → o ≡ option_or o None
or_none None = refl
or_none (Some k) = refl

module _ (form : Form) (h : Hour) where
  abbrev pub record_broken : ℕ → Bool
  record_broken i = is_broken (bad_word form h i)

  abbrev pub word_broken : (i w : ℕ) → Bool
  word_broken i w = not (keeps (form.record_rule (members h) (areas h) (h.rec i 0) w) (h.rec i w))

  -- what a record's part tells of its words
  module _ (i : ℕ) (at : ℕ → ℕ) (says : (w : ℕ) → w < form.layout.words → at w ≡ h.rec i w) (m a : ℕ) (e : m ≡ members h) (f : a ≡ areas h) where
    pub passed_kept : (n : ℕ) → 9 ≤ form.layout.words → n ≤ form.layout.words →
        ((w : ℕ) → w < n → keeps (form.record_rule m a (at 0) w) (at w) ≡ true) → first_below (word_broken i) n ≡ None
    passed_kept n nine l k = none_below (word_broken i) n
        (λ w b. ap not (rw (e, f, says 0 (omega arith), says w (omega arith)) at (k w b)))

  -- what a test of a word tells, by the words that the code has read
  pub word_told : (i w : ℕ) (kept : Bool) (m a k v : ℕ) → m ≡ members h → a ≡ areas h → k ≡ h.rec i 0 → v ≡ h.rec i w →
      kept ≡ keeps (form.record_rule m a k w) v → not kept ≡ word_broken i w
  word_told i w kept m a k v e f p q t = ap not (t ∙ rw (e, f, p, q))

  pub whole_record : (i w : ℕ) → first_below (word_broken i) w ≡ None → form.layout.words ≤ w → record_broken i ≡ false
  unfolding bad_word first_broken
  whole_record i w e l = ap is_broken (first_less (word_broken i) w form.layout.words e l)

  -- the search stops at this word of this record, or nowhere
  pub stops_at : (i w : ℕ) → first_below record_broken i ≡ None → first_below (word_broken i) w ≡ None → word_broken i w ≡ true →
      w < form.layout.words → i < h.count → first_fault form h ≡ Some (i, w)
  unfolding bad_word bad_record first_broken
  stops_at i w before kept broken inside counted =
      let word = first_hit (word_broken i) w form.layout.words kept broken inside in
      fault_at_lem form h i w (first_hit record_broken i h.count before (ap is_broken word) counted) word

  pub stops_nowhere : first_below record_broken h.count ≡ None → first_fault form h ≡ None
  unfolding bad_record
  stops_nowhere e = no_fault form h e

module _ (compares : Bool) (h : Hour) where
  -- row 14 names a record
  abbrev pub named_by_14 : ℕ → Bool
  named_by_14 i = above_by compares (h.rec i 0) (h.rec i 3) (h.rec i 8)

  -- one record more
  module _ (i : ℕ) (above : Option ℕ) (here : Bool) (e : above ≡ first_below named_by_14 i) (f : here ≡ named_by_14 i) where
    pub passed_on : here ≡ false → above ≡ first_below named_by_14 (i + 1)
    passed_on t = or_none above ∙ first_so_far named_by_14 i above false e (sym t ∙ f)

    pub named_on : here ≡ true → option_or above (Some i) ≡ first_below named_by_14 (i + 1)
    named_on t = first_so_far named_by_14 i above true e (sym t ∙ f)

-- Chains of records: none is chained, one more is, and who follows a member's chain misses none of its records.
use mathlib.Core.Path.{◌≡◌, refl, sym, ◌∙◌, ap, subst}
use mathlib.Core.List.{List}
use Prim.Native.Nat.{ℕ, zero, suc, ◌+◌, ◌-◌, ◌≤◌, ◌<◌}
use native.Mathlib.Nat.{le_refl}
use native.Mathlib.Omega.{arith}
use lib.IntN.{ℤ}
use lib.Dec.{eqb}
use lib.ListN.{get_or, set, replicate, length-set, length-replicate, get_or-replicate}
use lib.Seq.{get_or-set_same, get_or-set_other}
use borrow.Author.Tests.{eqb-true, eqb-false}
use Rattle.std.specs.Prelude.{Option, None, Some}
use Rattle.std.proofs.lemmas.Option.{none-some}
use Rattle.whole.proofs.Tests.{split}
use Rattle.rules.specs.Record.{Hour, member_of}
use Rattle.tenminutes.specs.Room.{NetsAfter}
use Rattle.tenminutes.specs.Chain.{First, Leads, Chained}
use Rattle.tenminutes.proofs.Adding.{not_its}

-- ---- making a chain

pub none_chained : {h : Hour} → Chained h h.count (replicate 32 None) (replicate 64 None)
none_chained {h} = record {
  a_place_each_member = length-replicate {A = Option ℕ} 32 None;
  a_place_each_record = length-replicate {A = Option ℕ} 64 None;
  first_is = λ m l. rw (get_or-replicate {A = Option ℕ} 32 m None None l) (nowhere m);
  next_is = λ k l j. absurd (omega arith);
}
  where
    nowhere : (m : ℕ) → Leads h m h.count None
    nowhere m = record { first = λ j e. absurd (none-some j e); ended = λ e k l there same. omega arith }

-- the record that is named
named_place : Option ℕ → ℕ
named_place None = 0
named_place (Some i) = i

module _ {h : Hour} {i : ℕ} where
  here : i < h.count → Leads h (member_of h i) i (Some i)
  unfolding named_place
  here there = record { first = λ j e. subst (First h (member_of h i) i) (ap named_place e) own; ended = λ e. absurd (none-some i (sym e)) }
    where
      own : First h (member_of h i) i i
      own = record { onward = le_refl i; there = there; its_own = refl; others_between = λ k l before e. omega arith }

  -- record i is another member's
  earlier : {m : ℕ} {named : Option ℕ} → (member_of h i ≡ m → ⊥) → Leads h m (i + 1) named → Leads h m i named
  earlier {m} {named} other leads = record {
    first = λ j e. let own = leads.first j e in record {
      onward = omega (arith, own.onward);
      there = own.there;
      its_own = own.its_own;
      others_between = λ k l before. between k l (λ more. own.others_between k more before);
    };
    ended = λ e k l there. between k l (λ more. leads.ended e k more there);
  }
    where
      between : (k : ℕ) → i ≤ k → (i + 1 ≤ k → member_of h k ≡ m → ⊥) → member_of h k ≡ m → ⊥
      between k l past e = split (eqb k i)
          (λ t. other (subst (λ a. member_of h a ≡ m) (eqb-true k i t) e))
          (λ t. let apart = eqb-false k i t in past (omega arith) e)

  module _ {firsts nexts : List (Option ℕ)} (chained : Chained h (i + 1) firsts nexts) (there : i < h.count) (known : member_of h i < 32) where
    abbrev own : ℕ
    own = member_of h i

    pub linked : i < 64 → Chained h i (set firsts own (Some i)) (set nexts i (get_or firsts own None))
    linked few = record {
      a_place_each_member = length-set firsts own (Some i) ∙ chained.a_place_each_member;
      a_place_each_record = length-set nexts i (get_or firsts own None) ∙ chained.a_place_each_record;
      first_is = first_of;
      next_is = next_of;
    }
      where
        first_of : (m : ℕ) → m < 32 → Leads h m i (get_or (set firsts own (Some i)) m None)
        first_of m l = split (eqb m own)
            (λ t. subst (λ a. Leads h a i (get_or (set firsts own (Some i)) a None)) (sym (eqb-true m own t))
            (rw (get_or-set_same firsts own (Some i) None (omega (arith, chained.a_place_each_member))) (here there)))
            (λ t. let apart = eqb-false m own t in
            rw (get_or-set_other firsts own m (Some i) None apart) (earlier (λ e. apart (sym e)) (chained.first_is m l)))

        next_of : (k : ℕ) → i ≤ k → k < h.count → Leads h (member_of h k) (k + 1) (get_or (set nexts i (get_or firsts own None)) k None)
        next_of k l j = split (eqb k i)
            (λ t. subst (λ a. Leads h (member_of h a) (a + 1) (get_or (set nexts i (get_or firsts own None)) a None)) (sym (eqb-true k i t))
            (rw (get_or-set_same nexts i (get_or firsts own None) None (omega (arith, chained.a_place_each_record)))
            (chained.first_is own known)))
            (λ t. let apart = eqb-false k i t in
            rw (get_or-set_other nexts i k (get_or firsts own None) None apart) (chained.next_is k (omega arith) j))

-- ---- following a chain

-- a member's nets at the record that is named, which is its own, or where its records have ended
pub record Reached (h : Hour) (m : ℕ) (named : Option ℕ) (nets : List (List ℤ)) : Type 0 where
  pub at_own : (i : ℕ) → named ≡ Some i → (i < h.count) × (member_of h i ≡ m) × NetsAfter h m i nets
  pub at_end : named ≡ None → NetsAfter h m h.count nets

-- at most so many records are left
abbrev pub left_from : Option ℕ → ℕ
left_from None = 0
left_from (Some i) = 65 - i

pub fewer : {h : Hour} {m i : ℕ} {old named : Option ℕ} → old ≡ Some i → i < 65 → Leads h m (i + 1) named → left_from named < left_from old
fewer {h} {m} {i} {old} {named} e few leads = rw e (behind named leads)
  where
    behind : (n : Option ℕ) → Leads h m (i + 1) n → left_from n < 65 - i
    behind None l = omega arith
    behind (Some j) l = omega (arith, (l.first j refl).onward)

module _ {h : Hour} {m n : ℕ} {nets : List (List ℤ)} (after : NetsAfter h m n nets) where
  -- d records that are not the member's
  passed : (d : ℕ) → ((k : ℕ) → n ≤ k → k < n + d → member_of h k ≡ m → ⊥) → NetsAfter h m (n + d) nets
  passed zero others = subst (λ j. NetsAfter h m j nets) (omega arith) after
  passed (suc d) others = subst (λ j. NetsAfter h m j nets) (omega arith)
      (not_its (passed d (λ k l j e. others k l (omega arith) e)) (λ e. others (n + d) (omega arith) (omega arith) e))

  passed_to : (j : ℕ) → n ≤ j → ((k : ℕ) → n ≤ k → k < j → member_of h k ≡ m → ⊥) → NetsAfter h m j nets
  passed_to j l others = subst (λ a. NetsAfter h m a nets) (omega arith) (passed (j - n) (λ k low high e. others k low (omega arith) e))

  pub reached : {named : Option ℕ} → n ≤ h.count → Leads h m n named → Reached h m named nets
  reached before leads = record {
    at_own = λ j e. let own = leads.first j e in (own.there, own.its_own, passed_to j own.onward own.others_between);
    at_end = λ e. passed_to h.count before (leads.ended e);
  }

-- the record just added is the member's own
pub reached_behind : {h : Hour} {own m n : ℕ} {named : Option ℕ} {nets : List (List ℤ)} → own ≡ m → NetsAfter h own n nets → n ≤ h.count →
    Leads h own n named → Reached h m named nets
reached_behind {h} {named = named} {nets = nets} mine after before leads =
    subst (λ a. Reached h a named nets) mine (reached after before leads)

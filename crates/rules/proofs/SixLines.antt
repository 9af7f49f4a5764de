-- The lines of an explanation, read, give what was answered, and tell it from every other answer. Document 02, A5.
use mathlib.Core.Path.{◌≡◌, refl, sym, ◌∙◌, ap}
use mathlib.Core.Logic.{◌↔◌}
use mathlib.Core.Bool.{true, cond}
use Rattle.std.specs.Prelude.{Option, None, Some}
use Rattle.std.proofs.lemmas.Option.{same_Some}
use mathlib.Core.List.{List, [], ◌∷◌, ◌++◌, append_assoc}
use Prim.Native.Nat.{ℕ, zero, suc, ◌+◌, ◌^◌, ◌≤◌, ◌<◌}
use native.Mathlib.Nat.{le_refl}
use native.Mathlib.Omega.{arith}
use lib.Dec.{ltb, leb, eqb}
use lib.IntN.{ℤ, pos, nat_abs}
use lib.ListN.{length, get_or}
use lib.Seq.{ext_get_or, get_or-drop}
use borrow.Author.Tests.{ltb-true, ltb-false, leb-true, leb-false, eqb-true, eqb-false, lt-ltb, le-ltb, ne_eqb}
use Rattle.whole.proofs.Tests.{split}
use Rattle.rules.specs.Record.{Hour, members}
use Rattle.rules.specs.Text.{bytes}
use Rattle.rules.specs.HourFile.{hour_in}
use Rattle.rules.specs.Refusals.{row, Verdict, accepted, no_member, refused_at, verdict, hour_rows, explain_rows, Buffers}
use Rattle.rules.specs.Settling.{is_accepted, settle, empty_line}
use Rattle.rules.specs.Statement.{refused_line}
use Rattle.rules.specs.Explanation.{Explanation, heads, decided, no_heads, head_at, signed_decimal, head_name, decided_name, head_line, decided_line}
use Rattle.rules.specs.Explanation.{explain, explanation_lines, worded, member_asked, hour_asked, explanation}
use Rattle.rules.specs.Promised.Demands.{Accepts}
use Rattle.rules.specs.Promised.Deciding.{Explains}
use Rattle.rules.specs.Promised.Lines.{parts_at, lines_of, line_at, words_of, SaysRefused}
use Rattle.rules.specs.Promised.Finals.{AreBytes}
use Rattle.rules.specs.Promised.SixLines.{name_at, name_or_none, SaysNumber, SaysHeads, answer_to, SixLines}
use Rattle.rules.proofs.Rows.{accepts_when_whole, zero_accepts, whole_parts, hour_numbered}
use Rattle.rules.proofs.Kept.{passed_kept}
use Rattle.rules.proofs.Heads.{heads_posted, heads_running, five_heads}
use Rattle.rules.proofs.Explaining.{explain_numbered, explain_verdict, explain_accepted, explain_refused, one_of_five, explaining}
use Rattle.rules.proofs.Explaining.{rows_refused_alike, rows_member, rows_no_member}
use Rattle.rules.proofs.Worded.{too_few_bytes, four_bytes}
use Rattle.rules.proofs.Told.{Small, hour_small, refusal_told}
use Rattle.rules.proofs.PartsCut.{lacks, lacks_both, part_and_rest, last_part, signed_lacks, number_read, refused_cut, says_refused}

-- ---- the six lines, cut

-- a line without its line feed
abbrev head_text : ℕ → ℤ → List ℕ
head_text k z = head_name k ++ bytes " " ++ signed_decimal z

-- no name has a line feed or a blank in it
name_lacks : (k : ℕ) → (lacks 10 (head_name k) ≡ true) × (lacks 32 (head_name k) ≡ true)
unfolding lacks
name_lacks zero = (refl, refl)
name_lacks (suc zero) = (refl, refl)
name_lacks (suc (suc zero)) = (refl, refl)
name_lacks (suc (suc (suc zero))) = (refl, refl)
name_lacks (suc (suc (suc (suc zero)))) = (refl, refl)
name_lacks (suc (suc (suc (suc (suc k))))) = (refl, refl)

decided_lacks : (d : Option ℕ) → (lacks 10 (decided_name d) ≡ true) × (lacks 32 (decided_name d) ≡ true)
unfolding lacks
decided_lacks None = (refl, refl)
decided_lacks (Some k) = name_lacks k

line_cut : (k : ℕ) (z : ℤ) (rest : List ℕ) → lines_of (head_line k z ++ rest) ≡ head_text k z ∷ lines_of rest
unfolding head_line lacks
line_cut k z rest = ap lines_of (append_assoc (head_text k z) (bytes "\n") rest) ∙ part_and_rest 10 (head_text k z) rest
    (lacks_both 10 (head_name k ++ bytes " ") (signed_decimal z) (lacks_both 10 (head_name k) (bytes " ") (name_lacks k).0 refl)
    (signed_lacks 10 (omega arith) z))

decided_cut : (d : Option ℕ) → lines_of (decided_line d) ≡ (bytes "decided " ++ decided_name d) ∷ [] ∷ []
unfolding decided_line lacks parts_at
decided_cut d = part_and_rest 10 (bytes "decided " ++ decided_name d) [] (decided_lacks d).0

cut : (hs : List ℤ) (d : Option ℕ) → lines_of (explanation_lines hs d)
    ≡ head_text 0 (head_at hs 0) ∷ head_text 1 (head_at hs 1) ∷ head_text 2 (head_at hs 2) ∷ head_text 3 (head_at hs 3) ∷ head_text 4 (head_at hs 4)
    ∷ (bytes "decided " ++ decided_name d) ∷ [] ∷ []
unfolding explanation_lines
cut hs d = simp (append_assoc, line_cut, decided_cut)

-- ---- they say the heads and the head that decided

head_words_lem : (k : ℕ) (z : ℤ) → words_of (head_text k z) ≡ head_name k ∷ signed_decimal z ∷ []
unfolding lacks
head_words_lem k z = ap words_of (append_assoc (head_name k) (bytes " ") (signed_decimal z))
    ∙ part_and_rest 32 (head_name k) (signed_decimal z) (name_lacks k).1
    ∙ ap (λ (t : List (List ℕ)). head_name k ∷ t) (last_part 32 (signed_decimal z) (signed_lacks 32 (omega arith) z))

decided_words : (d : Option ℕ) → words_of (bytes "decided " ++ decided_name d) ≡ bytes "decided" ∷ decided_name d ∷ []
unfolding lacks
decided_words d = part_and_rest 32 (bytes "decided") (decided_name d) refl
    ∙ ap (λ (t : List (List ℕ)). bytes "decided" ∷ t) (last_part 32 (decided_name d) (decided_lacks d).1)

says_number : (k : ℕ) (z : ℤ) → nat_abs z < 10 ^ 20 → SaysNumber (head_text k z) (name_at k) z
says_number k z h = record {
  two_words = rw (head_words_lem k z);
  word_is = rw (head_words_lem k z);
  number_read = rw (head_words_lem k z) (number_read z h);
}

same_name : (d : Option ℕ) → decided_name d ≡ name_or_none d
same_name None = refl
same_name (Some k) = refl

module _ (hs : List ℤ) (d : Option ℕ) (five : length hs ≡ 5) (small : (k : ℕ) → nat_abs (head_at hs k) < 10 ^ 20)
    (one_of_five : (k : ℕ) → d ≡ Some k → k < 5) where
  head_said : (k : ℕ) → k < 5 → SaysNumber (line_at (explanation_lines hs d) k) (name_at k) (head_at hs k)
  head_said zero l = rw (cut hs d) (says_number 0 (head_at hs 0) (small 0))
  head_said (suc zero) l = rw (cut hs d) (says_number 1 (head_at hs 1) (small 1))
  head_said (suc (suc zero)) l = rw (cut hs d) (says_number 2 (head_at hs 2) (small 2))
  head_said (suc (suc (suc zero))) l = rw (cut hs d) (says_number 3 (head_at hs 3) (small 3))
  head_said (suc (suc (suc (suc zero)))) l = rw (cut hs d) (says_number 4 (head_at hs 4) (small 4))
  head_said (suc (suc (suc (suc (suc k))))) l = absurd (omega arith)

  lines_say : SaysHeads (explanation_lines hs d) hs d
  lines_say = record {
    six_lines = rw (cut hs d);
    nothing_else = rw (cut hs d);
    five_heads = five;
    head_said = head_said;
    one_of_five = one_of_five;
    decided_said = rw (cut hs d) (decided_words d ∙ ap (λ (w : List ℕ). bytes "decided" ∷ w ∷ []) (same_name d));
  }

-- ---- a text says one thing

one_number : {line word : List ℕ} {y z : ℤ} → SaysNumber line word y → SaysNumber line word z → y ≡ z
one_number a b = same_Some _ _ (sym a.number_read ∙ b.number_read)

-- the names differ in their first letter
head_named : (letter : ℕ) → Option ℕ
head_named c =
    cond (eqb c 103) (Some 0) (cond (eqb c 108) (Some 1) (cond (eqb c 105) (Some 2) (cond (eqb c 101) (Some 3) (cond (eqb c 115) (Some 4) None))))

by_first_letter : (d : Option ℕ) → ((k : ℕ) → d ≡ Some k → k < 5) → head_named (get_or (name_or_none d) 0 0) ≡ d
unfolding head_named
by_first_letter None five = refl
by_first_letter (Some zero) five = refl
by_first_letter (Some (suc zero)) five = refl
by_first_letter (Some (suc (suc zero))) five = refl
by_first_letter (Some (suc (suc (suc zero)))) five = refl
by_first_letter (Some (suc (suc (suc (suc zero))))) five = refl
by_first_letter (Some (suc (suc (suc (suc (suc k)))))) five = absurd (omega (arith, five _ refl))

one_reading : (text : List ℕ) (hs gs : List ℤ) (d e : Option ℕ) → SaysHeads text hs d → SaysHeads text gs e → (hs ≡ gs) × (d ≡ e)
one_reading text hs gs d e a b = (
  ext_get_or (pos 0) hs gs (a.five_heads ∙ sym b.five_heads)
      (λ k l. let five : k < 5 = omega (arith, a.five_heads) in one_number (a.head_said k five) (b.head_said k five)),
  sym (by_first_letter d a.one_of_five)
      ∙ ap (λ (ws : List (List ℕ)). head_named (get_or (get_or ws 1 []) 0 0)) (sym a.decided_said ∙ b.decided_said)
      ∙ by_first_letter e b.one_of_five,
)

-- ---- what is answered

data Answered (e : Explanation) : Type 0 where
  explained : e.verdict ≡ accepted → SaysHeads (worded e) e.heads e.decided → Answered e
  refused : (e.verdict.number ≡ 0 → ⊥) → e.heads ≡ no_heads → e.decided ≡ None → Answered e

same_answer : {e f : Explanation} → e.verdict ≡ f.verdict → e.heads ≡ f.heads → e.decided ≡ f.decided → e ≡ f
same_answer {e} {f} v hs d =
    ap (λ (x : Verdict). record { verdict = x; heads = e.heads; decided = e.decided }) v
    ∙ ap (λ (x : List ℤ). record { verdict = f.verdict; heads = x; decided = e.decided }) hs
    ∙ ap (λ (x : Option ℕ). record { verdict = f.verdict; heads = f.heads; decided = x }) d

worded_refused : (e : Explanation) → (e.verdict.number ≡ 0 → ⊥) → worded e ≡ refused_line e.verdict
unfolding worded
worded_refused e r = rw (ne_eqb e.verdict.number 0 r)

says_alike : {text : List ℕ} {hs gs : List ℤ} {d c : Option ℕ} → hs ≡ gs → d ≡ c → SaysHeads text hs d → SaysHeads text gs c
says_alike p q says = rw (p, q) at says

says_exactly : (e : Explanation) → Answered e → (hs : List ℤ) (d : Option ℕ) →
    SaysHeads (worded e) hs d ↔ (e ≡ record { verdict = accepted; heads = hs; decided = d })
says_exactly e (explained v says) hs d = (
  λ t. let one = one_reading (worded e) e.heads hs e.decided d says t in same_answer v one.0 one.1,
  λ t. says_alike (ap (λ (x : Explanation). x.heads) t) (ap (λ (x : Explanation). x.decided) t) says,
)
says_exactly e (refused r hs₀ d₀) hs d = (
  λ t. absurd (omega (arith, t.six_lines, ap (λ (x : List ℕ). length (lines_of x)) (worded_refused e r), ap length (refused_cut e.verdict))),
  λ t. absurd (r (ap (λ (x : Explanation). x.verdict.number) t)),
)

told_apart : (e f : Explanation) → Answered e → Answered f → Small e.verdict → Small f.verdict → worded e ≡ worded f → e ≡ f
told_apart e f (explained v says) b small₁ small₂ same =
    same_answer v refl refl ∙ sym ((says_exactly f b e.heads e.decided).0 (rw same at says))
told_apart e f (refused r hs d) (explained v says) small₁ small₂ same =
    (says_exactly e (refused r hs d) f.heads f.decided).0 (rw (← same) at says) ∙ sym (same_answer v refl refl)
told_apart e f (refused r hs d) (refused q gs c) small₁ small₂ same = same_answer
    (refusal_told e.verdict f.verdict small₁ small₂ (sym (worded_refused e r) ∙ same ∙ worded_refused f q))
    (hs ∙ sym gs) (d ∙ sym c)

-- ---- of a file and a member

module _ (s : List ℕ) (m : ℕ) where
  abbrev h : Hour
  h = hour_in s

  accepted_says : verdict (explain_rows s m) ≡ accepted → Answered (explain s m)
  unfolding worded explain_rows
  accepted_says e =
      let whole = (accepts_when_whole (explain_rows s m) (explain_numbered s m)).0 e in
      let kept = (passed_kept s ((whole_parts (hour_rows s) (row 13 (no_member h m) ∷ [])).0 whole).0).hour_kept in
      let five : length (heads h m) ≡ 5 = rw heads_posted at (five_heads kept m h.count) in
      let small : (k : ℕ) → nat_abs (head_at (heads h m) k) < 10 ^ 20 = λ k.
      let u = rw heads_posted at (heads_running kept m h.count k (le_refl h.count)) in omega (arith, u.under) in
      rw (explain_accepted s m e) (explained refl (lines_say (heads h m) (decided h m) five small
      (λ k d. one_of_five s m k (rw (explain_accepted s m e) d))))

  each_answered : Answered (explain s m)
  each_answered = split (is_accepted (verdict (explain_rows s m)))
      (λ t. accepted_says (zero_accepts (explain_rows s m) (explain_numbered s m) (eqb-true _ _ t)))
      (λ f. rw (explain_refused s m (eqb-false _ _ f)) (refused (eqb-false _ _ f) refl refl))

  -- numbers and places that are refused are small
  answer_small : AreBytes s → Small (explain s m).verdict
  answer_small bytes = rw (explain_verdict s m) (split (is_accepted (verdict (hour_rows s)))
      (λ t. let whole = (accepts_when_whole (hour_rows s) (hour_numbered s)).0 (zero_accepts (hour_rows s) (hour_numbered s) (eqb-true _ _ t)) in
      split (leb (members h) m)
      (λ l. rw (rows_no_member s m whole (leb-true _ _ l)) (omega arith, omega arith))
      (λ l. rw (rows_member s m whole (leb-false _ _ l)) (omega arith, omega arith)))
      (λ f. rw (rows_refused_alike s m (λ e. eqb-false _ _ f (ap (λ (v : Verdict). v.number) e))) (hour_small s bytes)))

-- ---- of the program's input

module _ (s : List ℕ) where
  too_short : length s < 4 → answer_to s ≡ record { verdict = refused_at 1 0; heads = no_heads; decided = None }
  unfolding answer_to
  too_short l = rw (lt-ltb (length s) 4 l)

  pub long_enough : 4 ≤ length s → answer_to s ≡ explain (hour_asked s) (member_asked s)
  unfolding answer_to
  long_enough l = rw (le-ltb (length s) 4 l)

  -- the answer, and its words
  either_way : {X : Type 0} → (length s < 4 → X) → (4 ≤ length s → X) → X
  either_way f g = split (ltb (length s) 4) (λ t. f (ltb-true _ _ t)) (λ t. g (ltb-false _ _ t))

  answer_worded : explanation s ≡ worded (answer_to s)
  unfolding worded
  answer_worded = either_way (λ l. too_few_bytes s l ∙ rw (too_short l)) (λ l. four_bytes s l ∙ rw (long_enough l))

  answered : Answered (answer_to s)
  answered = either_way
      (λ l. rw (too_short l) (refused (λ e. omega arith) refl refl))
      (λ l. rw (long_enough l) (each_answered (hour_asked s) (member_asked s)))

  small : AreBytes s → Small (answer_to s).verdict
  small bytes = either_way
      (λ l. rw (too_short l) (omega arith, omega arith))
      (λ l. rw (long_enough l) (answer_small (hour_asked s) (member_asked s) (λ i. rw (get_or-drop 4 s i 0) (bytes (4 + i)))))

refused_read : (s : List ℕ) → AreBytes s → ((answer_to s).verdict ≡ accepted → ⊥) → SaysRefused (explanation s) (answer_to s).verdict
refused_read s bytes r = rw (answer_worded s) (of (answer_to s) (answered s) (small s bytes) r)
  where
    of : (e : Explanation) → Answered e → Small e.verdict → (e.verdict ≡ accepted → ⊥) → SaysRefused (worded e) e.verdict
    of e (explained v says) l r = absurd (r v)
    of e (refused q hs d) l r = rw (worded_refused e q) (says_refused e.verdict l.0 l.1)

read_back : (s : List ℕ) (hs : List ℤ) (d : Option ℕ) →
    SaysHeads (explanation s) hs d ↔ (answer_to s ≡ record { verdict = accepted; heads = hs; decided = d })
read_back s hs d = rw (answer_worded s) (says_exactly (answer_to s) (answered s) hs d)

as_settled : (s : List ℕ) (b : Buffers) (hs : List ℤ) (d : Option ℕ) → let h = hour_in (hour_asked s) in let m = member_asked s in
    4 ≤ length s → Accepts (hour_asked s) b → m < members h → SaysHeads (explanation s) hs d →
    let after = (settle (hour_asked s) b).buffers in
    Explains h m (get_or after.lines m empty_line).amount (get_or after.charges m (pos 0)) hs d
as_settled s b hs d l accepts there says =
    let e = sym (long_enough s l) ∙ (read_back s hs d).0 says in
    rw e at (explaining.explained (hour_asked s) b (member_asked s) accepts there).1

pub six_lines : SixLines
six_lines = record {
  one_reading = one_reading;
  read_back = read_back;
  refused_read = refused_read;
  as_settled = as_settled;
  tells = λ s t a b same. told_apart (answer_to s) (answer_to t) (answered s) (answered t) (small s a) (small t b)
      (sym (answer_worded s) ∙ same ∙ answer_worded t);
}

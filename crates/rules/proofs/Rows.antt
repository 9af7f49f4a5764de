-- The table of refusals in its order: the first broken row answers, and nothing else does; what settling and writing answer and
-- leave behind, refused or accepted; a refusal is told by its number and place.
use mathlib.Core.Path.{◌≡◌, refl, sym, ◌∙◌, ap, ap₂}
use mathlib.Core.Logic.{◌↔◌}
use mathlib.Core.Bool.{Bool, true, false, cond, ◌||◌}
use Rattle.std.specs.Prelude.{Option, None, Some, Result, Ok, Err}
use mathlib.Core.List.{List, [], ◌∷◌, ◌++◌, append_assoc}
use Prim.Native.Nat.{ℕ, suc, ◌-◌, ◌≤◌}
use native.Mathlib.Omega.{arith}
use lib.IntN.{ℤ}
use lib.ListN.{length, get_or}
use lib.Dec.{eqb}
use borrow.Author.Tests.{eqb-true, eqb-false}
use Rattle.whole.proofs.Tests.{split, neither, never, never_some}
use Rattle.rules.specs.declared.Refusal.{Refusal}
use Rattle.rules.specs.declared.Refusal.TheVariants.{BadLength, BadSum, BadBlock, BadHead, BadRecord, BadArea, BadAmount}
use Rattle.rules.specs.declared.Refusal.TheVariants.{OutOfRange, TooNarrow, NotAnAmount, TooShort, NoDemand, NoMember, AboveMaximum}
use Rattle.rules.specs.declared.Layout.{Layout}
use Rattle.rules.specs.Record.{Hour}
use Rattle.rules.specs.HourFile.{hour_of, hour_in}
use Rattle.rules.specs.Refusals.{Row, row, Verdict, accepted, refused_at, refusal_verdict, verdict_of, verdict, place_zero_if}
use Rattle.rules.specs.Refusals.{Buffers, too_short, block_rows, word_rows, comparison_rows, sum_rows, form_rows, file_rows, hour_rows, settle_rows}
use Rattle.rules.specs.Refusals.{bad_area, bad_amount, no_demand, write_amount_rows}
use Rattle.rules.specs.Settling.{Settlement, is_accepted, filled, ufe_figures, no_figures, figures_of, settle, write}
use Rattle.rules.specs.Promised.Demands.{Accepts, AllWhole, FirstBrokenRow, ByTheTable, OneSettlement}
use Rattle.rules.specs.Ranges.{Form, hourly_form}

-- ---- any table

-- no row has the number of acceptance
abbrev pub Numbered : List Row → Type 0
Numbered [] = Unit {0}
Numbered (row n broken ∷ rows) = (1 ≤ n) × Numbered rows

pub numbered_on : (rows more : List Row) → Numbered rows → Numbered more → Numbered (rows ++ more)
numbered_on [] more n k = k
numbered_on (row i o ∷ rows) more n k = (n.0, numbered_on rows more n.1 k)

zero_never : {X : Type 0} (n : ℕ) → suc n ≡ 0 → X
zero_never n e = absurd (omega arith)

-- a table accepts exactly when every row is whole
pub accepts_when_whole : (rows : List Row) → Numbered rows → (verdict rows ≡ accepted) ↔ AllWhole rows
unfolding verdict
accepts_when_whole [] n = (λ e. tt, λ w. refl)
accepts_when_whole (row k None ∷ rows) n = let r = accepts_when_whole rows n.1 in (λ e. (refl, r.0 e), λ w. r.1 w.1)
accepts_when_whole (row k (Some p) ∷ rows) n = (
  λ e. absurd (let z : k ≡ 0 = ap (λ (v : Verdict). v.number) e in omega (arith, n.0)),
  λ w. absurd (let z : ◌≡◌ {A = ℕ} 0 1 = cc w.0 in omega arith),
)

-- number 0 says that a call was accepted
pub zero_accepts : (rows : List Row) → Numbered rows → (verdict rows).number ≡ 0 → verdict rows ≡ accepted
unfolding verdict
zero_accepts [] n e = refl
zero_accepts (row k None ∷ rows) n e = zero_accepts rows n.1 e
zero_accepts (row k (Some p) ∷ rows) n e = absurd (omega (arith, n.0))

-- a whole row in front decides nothing
whole_in_front : {rows : List Row} {n p : ℕ} (k : ℕ) → FirstBrokenRow rows n p → FirstBrokenRow (row k None ∷ rows) n p
whole_in_front k f = record {
  before = row k None ∷ f.before;
  after = f.after;
  in_order = ap (λ (l : List Row). row k None ∷ l) f.in_order;
  whole_before = (refl, f.whole_before);
}

first_broken_answers : (before after : List Row) (n p : ℕ) → AllWhole before → verdict (before ++ row n (Some p) ∷ after) ≡ refused_at n p
unfolding verdict
first_broken_answers [] after n p w = refl
first_broken_answers (row k None ∷ before) after n p w = first_broken_answers before after n p w.1
first_broken_answers (row k (Some q) ∷ before) after n p w = absurd (let z : ◌≡◌ {A = ℕ} 0 1 = cc w.0 in omega arith)

answered_by : (rows : List Row) (n p : ℕ) → verdict rows ≡ refused_at (suc n) p → FirstBrokenRow rows (suc n) p
unfolding verdict
answered_by [] n p e = zero_never n (sym (ap (λ (v : Verdict). v.number) e))
answered_by (row k None ∷ rows) n p e = whole_in_front k (answered_by rows n p e)
answered_by (row k (Some q) ∷ rows) n p e = record {
  before = [];
  after = rows;
  in_order = ap₂ (λ (x y : ℕ). row x (Some y) ∷ rows) (ap (λ (v : Verdict). v.number) e) (ap (λ (v : Verdict). v.place) e);
  whole_before = tt;
}

-- a table refuses with a number and place exactly when that row is broken there and every row before it is whole
pub refuses_at_first : (rows : List Row) (n p : ℕ) → (verdict rows ≡ refused_at (suc n) p) ↔ FirstBrokenRow rows (suc n) p
refuses_at_first rows n p =
    (answered_by rows n p, λ f. ap verdict f.in_order ∙ first_broken_answers f.before f.after (suc n) p f.whole_before)

-- so what a table says is given exactly as it says
pub by_the_table : {rows : List Row} {told : Verdict} → Numbered rows → told ≡ verdict rows → ByTheTable rows told
by_the_table {rows} numbered e = record {
  accepts = let r = accepts_when_whole rows numbered in (λ a. r.0 (sym e ∙ a), λ w. e ∙ r.1 w);
  refuses = λ n p. let r = refuses_at_first rows n p in (λ a. r.0 (sym e ∙ a), λ f. e ∙ r.1 f);
}

-- what the first rows refuse, all refuse alike
pub refused_first : (rows more : List Row) → (verdict rows ≡ accepted → ⊥) → verdict (rows ++ more) ≡ verdict rows
unfolding verdict
refused_first [] more r = absurd (r refl)
refused_first (row n (Some p) ∷ rows) more r = refl
refused_first (row n None ∷ rows) more r = refused_first rows more r

-- what they pass, the others decide
pub passed_on : (rows more : List Row) → AllWhole rows → verdict (rows ++ more) ≡ verdict more
unfolding verdict
passed_on [] more w = refl
passed_on (row n None ∷ rows) more w = passed_on rows more w.1
passed_on (row n (Some p) ∷ rows) more w = absurd (let z : ◌≡◌ {A = ℕ} 0 1 = cc w.0 in omega arith)

-- whether there is a row of this number
unfoldable pub has_row : ℕ → List Row → Bool
has_row n [] = false
has_row n (row k broken ∷ rows) = eqb k n || has_row n rows

not_answered : (rows : List Row) (n p : ℕ) → has_row (suc n) rows ≡ false → verdict rows ≡ refused_at (suc n) p → ⊥
unfolding verdict has_row
not_answered [] n p other e = zero_never n (sym (ap (λ (v : Verdict). v.number) e))
not_answered (row k None ∷ rows) n p other e = not_answered rows n p (neither (eqb k (suc n)) (has_row (suc n) rows) other).1 e
not_answered (row k (Some q) ∷ rows) n p other e =
    eqb-false k (suc n) (neither (eqb k (suc n)) (has_row (suc n) rows) other).0 (ap (λ (v : Verdict). v.number) e)

-- the only row of its number answers exactly when it is broken and every row before it is passed
module _ (n p : ℕ) (broken : Option ℕ) (after : List Row) (none_after : has_row (suc n) after ≡ false) where
  only_broken : (before : List Row) → has_row (suc n) before ≡ false → verdict (before ++ row (suc n) broken ∷ after) ≡ refused_at (suc n) p →
      (verdict before ≡ accepted) × (broken ≡ Some p)
  unfolding verdict has_row
  only_broken [] other e = (refl, at broken e)
    where
      at : (o : Option ℕ) → verdict (row (suc n) o ∷ after) ≡ refused_at (suc n) p → o ≡ Some p
      at None e = absurd (not_answered after n p none_after e)
      at (Some q) e = ap (λ (v : Verdict). Some v.place) e
  only_broken (row k None ∷ before) other e = only_broken before (neither (eqb k (suc n)) (has_row (suc n) before) other).1 e
  only_broken (row k (Some q) ∷ before) other e =
      absurd (eqb-false k (suc n) (neither (eqb k (suc n)) (has_row (suc n) before) other).0 (ap (λ (v : Verdict). v.number) e))

  pub only_row : (before : List Row) → Numbered before → has_row (suc n) before ≡ false →
      (verdict (before ++ row (suc n) broken ∷ after) ≡ refused_at (suc n) p) ↔ ((verdict before ≡ accepted) × (broken ≡ Some p))
  only_row before numbered other = (
    only_broken before other,
    λ r. rw r.1 (first_broken_answers before after (suc n) p ((accepts_when_whole before numbered).0 r.0)),
  )

-- a last row that is whole wherever all others are decides nothing
pub last_decides_nothing : (rows : List Row) (n : ℕ) (broken : Option ℕ) → (AllWhole rows → broken ≡ None) →
    verdict (rows ++ row n broken ∷ []) ≡ verdict rows
unfolding verdict
last_decides_nothing [] n broken e = ap (λ (o : Option ℕ). verdict (row n o ∷ [])) (e tt)
last_decides_nothing (row k None ∷ rows) n broken e = last_decides_nothing rows n broken (λ w. e (refl, w))
last_decides_nothing (row k (Some p) ∷ rows) n broken e = refl

-- a table in two parts is whole when both are
pub whole_parts : (rows more : List Row) → AllWhole (rows ++ more) ↔ (AllWhole rows × AllWhole more)
whole_parts [] more = (λ w. (tt, w), λ w. w.1)
whole_parts (row n o ∷ rows) more = let r = whole_parts rows more in
    (λ w. ((w.0, (r.0 w.1).0), (r.0 w.1).1), λ w. (w.0.0, r.1 (w.0.1, w.1)))

-- a row whose only place is 0 is whole when its test fails
pub no_place : (b : Bool) → place_zero_if b ≡ None → b ≡ false
no_place true e = never_some e
no_place false e = refl

-- ---- the tables of document 01

pub block_numbered : (l : Layout) (s : List ℕ) → Numbered (block_rows l s)
unfolding block_rows
block_numbered l s = omega arith

pub form_numbered : (f : Form) (s : List ℕ) → Numbered (form_rows f s)
unfolding form_rows word_rows
form_numbered f s = numbered_on (block_rows f.layout s) (word_rows f (hour_of f.layout s)) (block_numbered f.layout s) (omega arith)

module _ (s : List ℕ) where
  abbrev h : Hour
  h = hour_in s

  pub file_numbered : Numbered (file_rows s)
  unfolding file_rows comparison_rows
  file_numbered = numbered_on (form_rows hourly_form s) (comparison_rows h) (form_numbered hourly_form s) (omega arith)

  pub hour_numbered : Numbered (hour_rows s)
  unfolding hour_rows sum_rows
  hour_numbered = numbered_on (file_rows s) (sum_rows h) file_numbered (omega arith)

  -- which rows are whole where more are
  pub form_whole : AllWhole (file_rows s) → AllWhole (form_rows hourly_form s)
  unfolding file_rows
  form_whole w = ((whole_parts (form_rows hourly_form s) (comparison_rows h)).0 w).0

  pub file_whole : AllWhole (hour_rows s) → AllWhole (file_rows s)
  unfolding hour_rows
  file_whole w = ((whole_parts (file_rows s) (sum_rows h)).0 w).0

  sums_whole : AllWhole (hour_rows s) → AllWhole (sum_rows h)
  unfolding hour_rows
  sums_whole w = ((whole_parts (file_rows s) (sum_rows h)).0 w).1

  pub areas_whole : AllWhole (hour_rows s) → bad_area h ≡ None
  unfolding sum_rows
  areas_whole w = (sums_whole w).0

  pub demand_whole : AllWhole (hour_rows s) → no_demand h ≡ None
  unfolding sum_rows
  demand_whole w = let all : AllWhole (row 6 (bad_area h) ∷ row 7 (bad_amount h) ∷ row 12 (no_demand h) ∷ []) = sums_whole w in all.1.1.0

  module _ (b : Buffers) where
    abbrev length_row : List Row
    length_row = row 11 (too_short h b) ∷ []

    pub settle_numbered : Numbered (settle_rows s b)
    unfolding settle_rows
    settle_numbered = numbered_on (hour_rows s) length_row hour_numbered (omega arith)

    -- what rows 1 to 5 and 14 refuse, settling refuses alike
    pub file_decides : (verdict (file_rows s) ≡ accepted → ⊥) → verdict (settle_rows s b) ≡ verdict (file_rows s)
    unfolding settle_rows hour_rows
    file_decides r =
        let hour-refuses = refused_first (file_rows s) (sum_rows h) r in
        refused_first (hour_rows s) length_row (λ e. r (sym hour-refuses ∙ e)) ∙ hour-refuses

    -- what they pass, the sums and the lengths decide
    pub file_passed : verdict (file_rows s) ≡ accepted → verdict (settle_rows s b) ≡ verdict (sum_rows h ++ length_row)
    unfolding settle_rows hour_rows
    file_passed e =
        ap verdict (append_assoc (file_rows s) (sum_rows h) length_row)
        ∙ passed_on (file_rows s) (sum_rows h ++ length_row) ((accepts_when_whole (file_rows s) file_numbered).0 e)

    pub table_whole : AllWhole (settle_rows s b) → AllWhole (hour_rows s) × (too_short h b ≡ None)
    unfolding settle_rows
    table_whole w = let parts = (whole_parts (hour_rows s) length_row).0 w in (parts.0, parts.1.0)

pub write_numbered : (width : ℕ) (z : ℤ) → Numbered (write_amount_rows width z)
unfolding write_amount_rows
write_numbered width z = omega arith

-- ---- settling

module _ (s : List ℕ) (b : Buffers) where
  pub settle_verdict : (settle s b).verdict ≡ verdict (settle_rows s b)
  unfolding settle
  settle_verdict = either_way (is_accepted (verdict (settle_rows s b))) _ _ refl refl
    where
      either_way : (c : Bool) (x y : Settlement) → x.verdict ≡ verdict (settle_rows s b) → y.verdict ≡ verdict (settle_rows s b) →
          (cond c x y).verdict ≡ verdict (settle_rows s b)
      either_way true x y p q = p
      either_way false x y p q = q

  pub settle_by_the_table : ByTheTable (settle_rows s b) (settle s b).verdict
  settle_by_the_table = by_the_table (settle_numbered s b) settle_verdict

  -- accepted: every row but 11 is whole, and no buffer is too short
  pub settle_whole : Accepts s b → AllWhole (hour_rows s) × (too_short (hour_in s) b ≡ None)
  settle_whole a = table_whole s b (settle_by_the_table.accepts.0 a)

  -- refused: every buffer is what it was, and all UFE figures are 0
  pub settle_changes_nothing : (Accepts s b → ⊥) → ((settle s b).buffers ≡ b) × ((settle s b).ufe ≡ no_figures)
  unfolding settle
  settle_changes_nothing r = split (is_accepted (verdict (settle_rows s b)))
      (λ e. absurd (r (settle_verdict ∙ zero_accepts (settle_rows s b) (settle_numbered s b) (eqb-true _ _ e))))
      (λ e. rw e (refl, refl))

  -- accepted: the buffers are filled, and the UFE figures are the areas'
  pub settle_fills : Accepts s b → ((settle s b).buffers ≡ filled (hour_in s) b) × ((settle s b).ufe ≡ ufe_figures (hour_in s))
  unfolding settle
  settle_fills a = rw (sym settle_verdict ∙ a) (refl, refl)

-- ---- writing

module _ (f : List ℕ) (z : ℤ) where
  pub write_by_the_table : ByTheTable (write_amount_rows (length f) z) (write f z).verdict
  unfolding write
  write_by_the_table = by_the_table (write_numbered (length f) z) refl

  pub write_changes_nothing : ((write f z).verdict ≡ accepted → ⊥) → (write f z).field ≡ f
  unfolding write
  write_changes_nothing r = split (is_accepted (verdict (write_amount_rows (length f) z)))
      (λ e. absurd (r (zero_accepts (write_amount_rows (length f) z) (write_numbered (length f) z) (eqb-true _ _ e))))
      (λ e. rw e)

-- ---- no second result fits

-- the refusal with this number and place
abbrev refusal_of : Verdict → Refusal
refusal_of v = let p = v.place in
    get_or (
    BadLength ∷ BadSum p ∷ BadBlock p ∷ BadHead p ∷ BadRecord p ∷ BadArea p ∷ BadAmount p
    ∷ OutOfRange ∷ TooNarrow ∷ NotAnAmount ∷ TooShort ∷ NoDemand ∷ NoMember ∷ AboveMaximum p ∷ []) (v.number - 1) BadLength

told : (r : Refusal) → refusal_of (refusal_verdict r) ≡ r
told BadLength = refl
told (BadSum b) = refl
told (BadBlock b) = refl
told (BadHead w) = refl
told (BadRecord i) = refl
told (BadArea a) = refl
told (BadAmount m) = refl
told OutOfRange = refl
told TooNarrow = refl
told NotAnAmount = refl
told TooShort = refl
told NoDemand = refl
told NoMember = refl
told (AboveMaximum i) = refl

-- no two refusals have the same number and place
pub one_refusal : (r t : Refusal) → refusal_verdict r ≡ refusal_verdict t → r ≡ t
one_refusal r t e = sym (told r) ∙ ap refusal_of e ∙ told t

-- no refusal has the number of what is accepted
pub numbered : (r : Refusal) → is_accepted (refusal_verdict r) ≡ false
numbered BadLength = refl
numbered (BadSum b) = refl
numbered (BadBlock b) = refl
numbered (BadHead w) = refl
numbered (BadRecord i) = refl
numbered (BadArea a) = refl
numbered (BadAmount m) = refl
numbered OutOfRange = refl
numbered TooNarrow = refl
numbered NotAnAmount = refl
numbered TooShort = refl
numbered NoDemand = refl
numbered NoMember = refl
numbered (AboveMaximum i) = refl

pub never_accepted : {X : Type 0} (r : Refusal) → refusal_verdict r ≡ accepted → X
never_accepted r e = never (ap is_accepted e) (numbered r)

-- what is accepted by its verdict has a value
pub accepted_ok : {T : Type 0} (r : Result T Refusal) → verdict_of r ≡ accepted → (value : T) × (r ≡ Ok value)
accepted_ok (Ok value) e = (value, refl)
accepted_ok (Err r) e = never_accepted r e

-- an answer is known by its verdict and by its value, which a mapping tells of both
pub one_answer : {T : Type 0} (value_of : Result T Refusal → T) → ((x : T) → value_of (Ok x) ≡ x) →
    (r t : Result T Refusal) → verdict_of r ≡ verdict_of t → value_of r ≡ value_of t → r ≡ t
one_answer value_of of_ok (Ok x) (Ok y) e f = ap Ok (sym (of_ok x) ∙ f ∙ of_ok y)
one_answer value_of of_ok (Ok x) (Err t) e f = never_accepted t (sym e)
one_answer value_of of_ok (Err r) (Ok y) e f = never_accepted r e
one_answer value_of of_ok (Err r) (Err t) e f = ap Err (one_refusal r t e)

-- what settling answers and leaves in the buffers is determined by the file and by what the buffers held
pub one_settlement : OneSettlement
one_settlement s b r t x y f g = (
  one_answer figures_of (λ u. refl) r t (f.verdict_is ∙ sym g.verdict_is) (f.ufe_is ∙ sym g.ufe_is),
  f.buffers_are ∙ sym g.buffers_are,
)

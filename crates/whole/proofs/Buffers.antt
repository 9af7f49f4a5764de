-- Laws of the list of the values f 0, .., f (n - 1), and of a buffer whose first n places hold them.
use mathlib.Core.Path.{◌≡◌, refl, sym, ◌∙◌, ap, ap₂}
use mathlib.Core.Bool.{cond}
use mathlib.Core.List.{List, [], ◌∷◌, ◌++◌, append_assoc, append-nil}
use Prim.Native.Nat.{ℕ, zero, suc, ◌+◌, ◌-◌, ◌≤◌, ◌<◌}
use native.Mathlib.Nat.{add-zero, add-suc, not-suc-le-zero}
use native.Mathlib.Numerals.{add-one}
use native.Mathlib.Omega.{arith}
use lib.Dec.{ltb, eqb}
use lib.ListN.{length, take, drop, get_or, set, replicate, length-append, length-drop, length-set, drop_of_length-le, get_or-append}
use lib.Seq.{drop-cons, drop_at, drop-drop, take_at, set_at, get_or_at, get_or-drop, append_snoc, set-append_left}
use lib.Seq.{get_or-set_same, get_or-set_other, ext_get_or}
use Rattle.std.proofs.lemmas.List.{replicate_more}
use borrow.Author.Tests.{ltb-true, ltb-false, eqb-true, eqb-false}
use Rattle.whole.specs.Below.{values_below, replacing_first}
use Rattle.whole.proofs.Tests.{split, last_or_below}

module _ {ℓ} {A : Type ℓ} where
  pub values_ext : (f g : ℕ → A) (n : ℕ) → ((i : ℕ) → i < n → f i ≡ g i) → values_below f n ≡ values_below g n
  unfolding values_below
  values_ext f g zero e = refl
  values_ext f g (suc n) e = ap₂ (λ (l : List A) (a : A). l ++ a ∷ []) (values_ext f g n (λ i l. e i (omega arith))) (e n (omega arith))

  pub replacing_ext : (f g : ℕ → A) (n : ℕ) (old : List A) → ((i : ℕ) → i < n → f i ≡ g i) → replacing_first f n old ≡ replacing_first g n old
  unfolding replacing_first
  replacing_ext f g n old e = ap (λ (l : List A). l ++ drop n old) (values_ext f g n e)

module _ {ℓ} {A : Type ℓ} (f : ℕ → A) where
  pub length_values : (n : ℕ) → length (values_below f n) ≡ n
  unfolding values_below
  length_values zero = refl
  length_values (suc n) = length-append (values_below f n) (f n ∷ []) ∙ let e = length_values n in omega arith

  pub get_or_values : (n i : ℕ) (d : A) → i < n → get_or (values_below f n) i d ≡ f i
  unfolding values_below
  get_or_values zero i d l = absurd (not-suc-le-zero l)
  get_or_values (suc n) i d l = last_or_below i n l
      (λ e. rw e (get_or_at (values_below f n) (f n) [] d n (length_values n)))
      (λ m. get_or-append (values_below f n) (f n ∷ []) d i (let e = length_values n in omega arith) ∙ get_or_values n i d m)

  -- the first n, then the others
  values_then : (n m : ℕ) → values_below f (n + m) ≡ values_below f n ++ values_below (λ i. f (n + i)) m
  unfolding values_below
  values_then n zero = rw add-zero (sym (append-nil (values_below f n)))
  values_then n (suc m) =
      ap (values_below f) (add-suc n m)
      ∙ ap (λ (l : List A). l ++ f (n + m) ∷ []) (values_then n m)
      ∙ append_assoc (values_below f n) (values_below (λ i. f (n + i)) m) (f (n + m) ∷ [])

  pub replacing_none : (old : List A) → replacing_first f 0 old ≡ old
  unfolding replacing_first values_below
  replacing_none old = refl

  -- one more place is written, at n + 1 and at the code's n + 1
  pub replacing_more : (n : ℕ) (old : List A) → n < length old → set (replacing_first f n old) n (f n) ≡ replacing_first f (suc n) old
  unfolding replacing_first values_below
  replacing_more n old l =
      ap (λ (t : List A). set (values_below f n ++ t) n (f n)) (drop-cons old n (f n) l)
      ∙ set_at (values_below f n) (get_or old n (f n)) (drop (suc n) old) (f n) n (length_values n)
      ∙ sym (append_snoc (values_below f n) (f n) (drop (suc n) old))

  pub replacing_next : (n : ℕ) (old : List A) → n < length old → set (replacing_first f n old) n (f n) ≡ replacing_first f (n + 1) old
  replacing_next n old l = replacing_more n old l ∙ sym (ap (λ (m : ℕ). replacing_first f m old) (add-one n))

  pub length_replacing : (n : ℕ) (old : List A) → n ≤ length old → length (replacing_first f n old) ≡ length old
  unfolding replacing_first
  length_replacing n old l =
      length-append (values_below f n) (drop n old) ∙ let e = length_values n in let d = length-drop n old in omega arith

  -- a buffer of just as many places
  pub replacing_all : (n : ℕ) (old : List A) → length old ≡ n → replacing_first f n old ≡ values_below f n
  unfolding replacing_first
  replacing_all n old e = rw (drop_of_length-le old {i = n} (omega arith), append-nil)

  take_replacing : (n : ℕ) (old : List A) → take n (replacing_first f n old) ≡ values_below f n
  unfolding replacing_first
  take_replacing n old = take_at (values_below f n) (drop n old) n (length_values n)

  pub drop_replacing : (n : ℕ) (old : List A) → drop n (replacing_first f n old) ≡ drop n old
  unfolding replacing_first
  drop_replacing n old = drop_at (values_below f n) (drop n old) n (length_values n)

  pub get_or_replacing : (n : ℕ) (old : List A) (i : ℕ) (d : A) → i < n → get_or (replacing_first f n old) i d ≡ f i
  unfolding replacing_first
  get_or_replacing n old i d l =
      get_or-append (values_below f n) (drop n old) d i (let e = length_values n in omega arith) ∙ get_or_values n i d l

  pub get_d_kept : (n : ℕ) (old : List A) (i : ℕ) (d : A) → n ≤ i → get_or (replacing_first f n old) i d ≡ get_or old i d
  get_d_kept n old i d l =
      let k : n + (i - n) ≡ i = omega arith in
      rw (← k) (sym (get_or-drop n (replacing_first f n old) (i - n) d) ∙ ap (λ (t : List A). get_or t (i - n) d) (drop_replacing n old)
      ∙ get_or-drop n old (i - n) d)

  -- nothing changes where each is replaced by what it holds
  pub replacing_same : (n : ℕ) (old : List A) (d : A) → n ≤ length old → ((i : ℕ) → i < n → f i ≡ get_or old i d) →
      replacing_first f n old ≡ old
  replacing_same n old d h same = ext_get_or d _ _ (length_replacing n old h) (λ i l. split (ltb i n)
      (λ t. let m = ltb-true i n t in get_or_replacing n old i d m ∙ same i m)
      (λ t. get_d_kept n old i d (ltb-false i n t)))

  -- what is past the first n is as it was
  drop_past : (n m : ℕ) (old : List A) → drop (n + m) (replacing_first f n old) ≡ drop (n + m) old
  drop_past n m old =
      sym (drop-drop m n (replacing_first f n old)) ∙ ap (λ (l : List A). drop m l) (drop_replacing n old) ∙ drop-drop m n old

  -- the next m places replaced too
  pub replacing_then : (g : ℕ → A) (n m : ℕ) (old : List A) → ((i : ℕ) → i < m → g i ≡ f (n + i)) →
      let out = replacing_first f n old in take n out ++ (values_below g m ++ drop (n + m) out) ≡ replacing_first f (n + m) old
  unfolding replacing_first
  replacing_then g n m old same =
      ap₂ (λ (l r : List A). l ++ (values_below g m ++ r)) (take_replacing n old) (drop_past n m old)
      ∙ ap (λ (l : List A). values_below f n ++ (l ++ drop (n + m) old)) (values_ext g (λ i. f (n + i)) m same)
      ∙ sym (append_assoc (values_below f n) (values_below (λ i. f (n + i)) m) (drop (n + m) old))
      ∙ ap (λ (l : List A). l ++ drop (n + m) old) (sym (values_then n m))

  -- more places than were replaced before
  pub replacing_longer : (n m : ℕ) (old : List A) → n ≤ m → replacing_first f m (replacing_first f n old) ≡ replacing_first f m old
  unfolding replacing_first
  replacing_longer n m old l =
      let whole : n + (m - n) ≡ m = omega arith in
      ap (λ (t : List A). values_below f m ++ t) (rw whole at (drop_past n (m - n) old))

  -- the first n places are replaced again
  pub replacing_twice : (g : ℕ → A) (n : ℕ) (old : List A) → replacing_first g n (replacing_first f n old) ≡ replacing_first g n old
  unfolding replacing_first
  replacing_twice g n old = ap (λ (l : List A). values_below g n ++ l) (drop_replacing n old)

-- ---- one place changed to g of what it held: what the places then hold
module _ {ℓ} {A : Type ℓ} where
  pub get_or_changed : (g : A → A) (l : List A) (m i : ℕ) (d : A) → i < length l →
      get_or (set l m (g (get_or l m d))) i d ≡ cond (eqb m i) (g (get_or l i d)) (get_or l i d)
  get_or_changed g l m i d h = split (eqb m i)
      (λ t. let e : m ≡ i = eqb-true m i t in rw (t, e) (get_or-set_same l i (g (get_or l i d)) d h))
      (λ f. rw f (get_or-set_other l m i (g (get_or l m d)) d (λ e. eqb-false m i f (sym e))))

  values_changed : (g : A → A) (f : ℕ → A) (n m : ℕ) (d : A) →
      set (values_below f n) m (g (get_or (values_below f n) m d)) ≡ values_below (λ i. cond (eqb m i) (g (f i)) (f i)) n
  values_changed g f n m d = ext_get_or d _ _ (length-set (values_below f n) m _ ∙ length_values f n ∙ sym (length_values _ n)) (λ i l.
      let k : i < length (values_below f n) = rw length-set at l in
      let j : i < n = omega (arith, length_values f n) in
      get_or_changed g (values_below f n) m i d k ∙ rw (get_or_values f n i d j) (sym (get_or_values _ n i d j)))

  pub replacing_changed : (g : A → A) (f : ℕ → A) (n : ℕ) (old : List A) (m : ℕ) (d : A) → m < n →
      set (replacing_first f n old) m (g (get_or (replacing_first f n old) m d)) ≡ replacing_first (λ i. cond (eqb m i) (g (f i)) (f i)) n old
  unfolding replacing_first
  replacing_changed g f n old m d h =
      let k : m < length (values_below f n) = omega (arith, length_values f n) in
      rw (get_or-append (values_below f n) (drop n old) d m k) (
      set-append_left (values_below f n) (drop n old) m (g (get_or (values_below f n) m d)) k
      ∙ ap (λ (l : List A). l ++ drop n old) (values_changed g f n m d))

-- ---- a loop that writes f's values into a buffer, one place a turn: i of them are written
module _ {ℓ} {A : Type ℓ} (f : ℕ → A) (i : ℕ) (old out : List A) (written : out ≡ replacing_first f i old) where
  pub written_length : i ≤ length old → length out ≡ length old
  written_length h = ap length written ∙ length_replacing f i old h

  pub written_next : (v : A) → i < length old → v ≡ f i → set out i v ≡ replacing_first f (i + 1) old
  written_next v h e = rw (written, e) (replacing_next f i old h)

  -- what is not yet written is as it was
  pub unwritten : (k : ℕ) (d : A) → i ≤ k → get_or out k d ≡ get_or old k d
  unwritten k d h = rw written (get_d_kept f i old k d h)

-- a buffer's first places, all filled with one value
module _ {A : Type 0} (v : A) where
  values_same : (n : ℕ) → replicate n v ≡ values_below (λ i. v) n
  unfolding values_below
  values_same zero = refl
  values_same (suc n) = ap (λ (m : ℕ). replicate m v) (sym (add-one n)) ∙ sym (replicate_more n v) ∙ ap (λ (l : List A). l ++ v ∷ []) (values_same n)

  pub filled_first : (n : ℕ) (old : List A) → replicate n v ++ drop n old ≡ replacing_first (λ i. v) n old
  unfolding replacing_first
  filled_first n old = ap (λ (l : List A). l ++ drop n old) (values_same n)

  pub filled_all : (old : List A) → replicate (length old) v ≡ replacing_first (λ i. v) (length old) old
  filled_all old = values_same (length old) ∙ sym (replacing_all (λ i. v) (length old) old refl)

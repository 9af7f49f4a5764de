-- A bound down to which the units suffice: fewer stand ahead of a place than there are units exactly if its remainder is above the bound,
-- or equal to it and early enough.
use mathlib.Core.Path.{◌≡◌, sym, ◌∙◌, ap}
use mathlib.Core.Bool.{Bool, true, false, ◌&&◌, ◌||◌}
use Prim.Native.Nat.{ℕ, ◌+◌, ◌≤◌, ◌<◌}
use native.Mathlib.Nat.{le_trans}
use native.Mathlib.Omega.{arith}
use lib.Dec.{ltb, eqb}
use borrow.Author.Tests.{ltb-true, ltb-false, eqb-true, eqb-false, lt-ltb, le-ltb, ne_eqb}
use Rattle.whole.specs.Below.{one_if, count_below}
use Rattle.whole.proofs.Tests.{split}
use Rattle.whole.proofs.Sums.{count_mono, count_less, count_or, count_cut, none_pass}
use Rattle.whole.proofs.Rank.{by_key, why_ahead}
use Rattle.rules.specs.Share.{ahead}

-- one more on equal numbers, as the code has it
pub nudged : (bound rest : ℕ) (b : Bool) → ltb bound (rest + one_if b) ≡ (ltb bound rest || (eqb rest bound && b))
nudged bound rest b = split (ltb bound rest)
    (λ s. rw s (lt-ltb bound (rest + one_if b) (omega (arith, ltb-true bound rest s))))
    (λ f. rw f (split (eqb rest bound)
    (λ s. rw s (at_bound b (eqb-true rest bound s)))
    (λ g. rw g (below b (omega (arith, ltb-false bound rest f, eqb-false rest bound g))))))
  where
    at_bound : (b : Bool) → rest ≡ bound → ltb bound (rest + one_if b) ≡ b
    at_bound true e = lt-ltb bound (rest + 1) (omega arith)
    at_bound false e = le-ltb bound (rest + 0) (omega arith)

    below : (b : Bool) → rest < bound → ltb bound (rest + one_if b) ≡ false
    below true l = le-ltb bound (rest + 1) (omega arith)
    below false l = le-ltb bound (rest + 0) (omega arith)

-- what is left of the units, once `a` have theirs
less_left : (a b units spare : ℕ) → a + spare ≡ units → ltb (a + b) units ≡ ltb b spare
less_left a b units spare e = split (ltb b spare)
    (λ s. lt-ltb (a + b) units (omega (arith, ltb-true b spare s)) ∙ sym s)
    (λ f. le-ltb (a + b) units (omega (arith, ltb-false b spare f)) ∙ sym f)

module _ (rem : ℕ → ℕ) (n : ℕ) where
  abbrev above : ℕ → ℕ
  above x = count_below (λ j. ltb x (rem j)) n

  -- how many stand ahead of i
  abbrev rank : ℕ → ℕ
  rank i = count_below (λ j. ahead rem j i) n

  above_less : (x y : ℕ) → x ≤ y → above y ≤ above x
  above_less x y l = count_mono _ _ n (λ j m t. lt-ltb x (rem j) (omega (arith, ltb-true y (rem j) t)))

  pub none_above : (x : ℕ) → ((j : ℕ) → rem j < x) → above x ≡ 0
  none_above x h = none_pass _ n (λ j m. le-ltb x (rem j) (omega (arith, h j)))

  module _ (i : ℕ) (l : i < n) where
    -- whoever is ahead of i is above what i is above, and so is i itself
    rank_most : (x : ℕ) → x < rem i → rank i < above x
    unfolding ahead
    rank_most x h = count_less _ _ n
        (λ j m t. why_ahead rem j i t (λ k. lt-ltb x (rem j) (omega arith)) (λ e k. lt-ltb x (rem j) (omega arith)))
        i l ((by_key rem).irrefl i) (lt-ltb x (rem i) h)

    rank_least : above (rem i) ≤ rank i
    unfolding ahead
    rank_least = count_mono _ _ n (λ j m t. rw t)

    rank_equal : rank i ≡ above (rem i) + count_below (λ j. eqb (rem j) (rem i)) i
    unfolding ahead
    rank_equal =
        count_or (λ j. ltb (rem i) (rem j)) (λ j. eqb (rem j) (rem i) && ltb j i) n
        (λ j t. rw (ne_eqb (rem j) (rem i) (λ e. omega (arith, ltb-true (rem i) (rem j) t))))
        ∙ ap (λ (x : ℕ). above (rem i) + x) (count_cut (λ j. eqb (rem j) (rem i)) i n (omega arith))

    -- Fewer stand ahead of i than there are units exactly if i is above the bound, or at it and early enough.
    module _ (units bound spare : ℕ) (with_spare : above bound + spare ≡ units) (enough : (x : ℕ) → x < bound → units ≤ above x) where
      pub by_threshold : ltb (rank i) units ≡
          (ltb bound (rem i) || (eqb (rem i) bound && ltb (count_below (λ j. eqb (rem j) bound) i) spare))
      by_threshold = split (ltb bound (rem i))
          (λ s. rw s (lt-ltb (rank i) units (omega (arith, rank_most bound (ltb-true bound (rem i) s)))))
          (λ f. rw f (split (eqb (rem i) bound)
          (λ s. let e : rem i ≡ bound = eqb-true (rem i) bound s in
          rw (s, rank_equal, e) (less_left (above bound) (count_below (λ j. eqb (rem j) bound) i) units spare with_spare))
          (λ g. rw g (le-ltb (rank i) units (le_trans
          (enough (rem i) (omega (arith, ltb-false bound (rem i) f, eqb-false (rem i) bound g))) rank_least)))))

  -- ---- where the search may end: as many are above the bound as there are units, or nothing is left between it and a number that no fewer
  -- are above

  pub from_exact : (units bound : ℕ) → above bound ≡ units → (x : ℕ) → x < bound → units ≤ above x
  from_exact units bound e x l = omega (arith, above_less x bound (omega arith))

  pub from_low : (units low bound : ℕ) → bound ≤ low + 1 → units ≤ above low → (x : ℕ) → x < bound → units ≤ above x
  from_low units low bound e h x l = le_trans h (above_less x low (omega arith))

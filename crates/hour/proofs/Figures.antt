-- Eight figures, one an area and 0 past the areas: as a loop fills them, and an area's own among them. And the head that was read once.
use mathlib.Core.Path.{◌≡◌, sym, ◌∙◌}
use mathlib.Core.Bool.{cond}
use mathlib.Core.List.{List}
use Prim.Native.Nat.{ℕ, ◌≤◌, ◌<◌}
use native.Mathlib.Omega.{arith}
use lib.Dec.{ltb}
use lib.IntN.{ℤ, pos}
use lib.ListN.{get_or, replicate, get_or-replicate}
use lib.Seq.{ext_get_or}
use borrow.Author.Tests.{lt-ltb, ltb-true, ltb-false}
use Rattle.whole.specs.Below.{values_below, replacing_first}
use Rattle.whole.proofs.Tests.{split}
use Rattle.whole.proofs.Buffers.{length_values, get_or_values, length_replacing, get_or_replacing, get_d_kept}
use Rattle.rules.specs.Record.{Hour, areas, price}
use Rattle.rules.specs.Ufe.{ufe}
use Rattle.rules.specs.Settling.{ufe_figures}
use Rattle.hour.specs.Prices.{prices_of}

module _ (f : ℕ → ℤ) (n : ℕ) (few : n ≤ 8) where
  abbrev zeros : List ℤ
  zeros = replicate 8 (pos 0)

  abbrev figures : List ℤ
  figures = values_below (λ a. cond (ltb a n) (f a) (pos 0)) 8

  -- eight zeros of which the areas' places are written
  pub eight_filled : replacing_first f n zeros ≡ figures
  eight_filled = ext_get_or (pos 0) _ _ (length_replacing f n zeros few ∙ sym (length_values _ 8)) (λ a l.
      let m : a < 8 = omega (arith, length_replacing f n zeros few) in
      let figure = get_or_values _ 8 a (pos 0) m in
      split (ltb a n)
      (λ t. get_or_replacing f n zeros a (pos 0) (ltb-true a n t) ∙ sym (figure ∙ rw t))
      (λ e. get_d_kept f n zeros a (pos 0) (ltb-false a n e) ∙ get_or-replicate 8 a (pos 0) (pos 0) m ∙ sym (figure ∙ rw e)))

  own_figure : (a : ℕ) → a < n → get_or figures a (pos 0) ≡ f a
  own_figure a there = get_or_values _ 8 a (pos 0) (omega arith) ∙ rw (lt-ltb a n there)

module _ (h : Hour) (few : areas h ≤ 8) (a : ℕ) (there : a < areas h) where
  pub figure_at : get_or (ufe_figures h) a (pos 0) ≡ ufe h a
  unfolding ufe_figures
  figure_at = own_figure (ufe h) (areas h) few a there

  pub price_at : get_or (prices_of h) a (pos 0) ≡ price h a
  unfolding prices_of
  price_at = own_figure (price h) (areas h) few a there

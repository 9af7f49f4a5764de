-- `tenminutes::interval::Part::entry` meets its contract, letter by letter.
use mathlib.Core.Path.{◌≡◌, refl, ◌∙◌, ap}
use Prim.Native.Nat.{ℕ, ◌≤◌}
use lib.Dec.{T, ltb}
use lib.IntN.{ℤ, pos}
use borrow.Author.Rules.{sfits_of}
use Rattle.whole.proofs.Machine.{Num, #, result, ◌:*◌, stored, back, read_back}
use Rattle.whole.proofs.Ranges.{upto_pos, u_upto}
use Rattle.rules.specs.TenMinutes.{interval_entry, scheduled_in, ramp_part, actual_in}
use Rattle.tenminutes.specs.declared.interval.Shared.{Shared}
use Rattle.tenminutes.proofs.interval.Part.entry.Goals as goal

-- a word as a number, times 24
abbrev times24 : (w : ℕ) → w ≤ 100000 → {n : ℤ} → n ≡ pos w → Num
times24 w u e = # (pos 24) :* result e (u_upto (upto_pos w 100000 u))

-- a small number is read back as it is
whole : (w m : ℕ) → w ≤ m → T (ltb m 9223372036854775808) → {n : ℤ} → n ≡ pos w → back n ≡ pos w
whole w m u t e = stored (result e (u_upto (upto_pos w m u))) t

pub returns : goal.returns
unfolding interval_entry scheduled_in ramp_part actual_in
returns c =
    let part = c.args.self.now in
    let own_is = whole _ 100000 (part.kept.actuals_most _ c.requires) tt c.number.ensures in
    let metered = read_back (sfits_of c.actual-metered.type_inv) ∙ (rw (part.shared_is, own_is) at c.actual-metered.ensures) in
    λ k. record {
      kind = ap (λ (r : Shared). r.kind) part.shared_is k;
      S = (read_back (sfits_of c.scheduled.type_inv) ∙ (rw (part.shared_is) at c.scheduled.ensures)) k;
      A = metered k;
      J = (read_back (sfits_of c.adjustment.type_inv) ∙ c.adjustment.ensures) k;
      N = stored (times24 _ (part.kept.ancillary_most _ c.requires) c.number-2.ensures) tt k;
      O = pos 0;
      M = metered k;
      F = (ap (λ (r : Shared). back r.f) part.shared_is ∙ whole _ 20000 part.kept.F_most tt refl) k;
      H = (ap (λ (r : Shared). back r.h) part.shared_is ∙ whole _ 20000 part.kept.H_most tt refl) k;
    }

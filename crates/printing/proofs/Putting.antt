-- Text put after text is put as one.
use mathlib.Core.Path.{◌≡◌, refl, sym, ◌∙◌, ap, subst}
use mathlib.Core.List.{List, [], ◌++◌, append_assoc}
use Prim.Native.Nat.{ℕ, ◌+◌, ◌-◌, ◌≤◌}
use native.Mathlib.Nat.{zero-add}
use native.Mathlib.Omega.{arith}
use lib.ListN.{length, take, drop, length-append}
use lib.Seq.{length-sets, sets-eq}
use borrow.Rule.Slice.PartMut.{put_mid, Post-is}
use Rattle.whole.proofs.Stores.{stored_on}
use Rattle.printing.specs.Put.{Put}

pub put_nothing : (o : List ℕ) (at : ℕ) → Put o at [] at o
put_nothing o at = record { next_is = omega arith; after_is = refl }

pub put_length : {o p xs : List ℕ} {at next : ℕ} → Put o at xs next p → length p ≡ length o
put_length {o} {p} {xs} {at} f = ap length f.after_is ∙ length-sets o at xs

pub put_on : {o p q xs ys : List ℕ} {at next last : ℕ} → Put o at xs next p → Put p next ys last q → Put o at (xs ++ ys) last q
put_on {o} {p} {q} {xs} {ys} {at} f g = record {
  next_is = omega (arith, f.next_is, g.next_is, length-append xs ys);
  after_is = g.after_is ∙ rw (f.after_is, f.next_is) (stored_on xs ys o at);
}

pub put_as : {o p xs ys : List ℕ} {at next : ℕ} → xs ≡ ys → Put o at xs next p → Put o at ys next p
put_as {o} {p} {xs} {ys} {at} {next} e f = subst (λ (t : List ℕ). Put o at t next p) e f

-- words with their number, after text
pub put_count_on : (words digits : List ℕ) {o p q xs : List ℕ} {at next last : ℕ} →
    Put o at xs next p → Put p next (words ++ digits) last q → Put o at (xs ++ words ++ digits) last q
put_count_on words digits {xs = xs} f g = put_as (sym (append_assoc xs words digits)) (put_on f g)

-- a lent part that comes back with other bytes
pub part_put : (o ys : List ℕ) (at end : ℕ) → at ≤ end → end ≤ length o → length ys ≡ end - at → Put o at ys end (put_mid at (end - at) o ys)
part_put o ys at end l m e =
    let room : at + length ys ≡ end = omega arith in
    record {
      next_is = omega arith;
      after_is = rw Post-is (sym (append_assoc (take at o) ys (drop end o))) ∙ sym (rw room at (sets-eq ys o at (omega arith)));
    }

-- at the start of a list that is long enough: the text, and the rest as it was
pub put_first : {o p xs : List ℕ} {next : ℕ} → Put o 0 xs next p → length xs ≤ length o →
    (next ≡ length xs) × (p ≡ xs ++ drop (length xs) o)
put_first {o} {p} {xs} f l = (f.next_is ∙ zero-add (length xs), f.after_is ∙ sets-eq xs o 0 (omega arith) ∙ rw zero-add)

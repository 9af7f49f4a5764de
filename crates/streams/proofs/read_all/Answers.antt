-- A read puts what the reader loses behind what was read before.
use Rattle.std.proofs.Common.{◌≡◌, ℕ, ◌+◌, ◌-◌, ◌<◌, ◌≤◌, List, ◌++◌, None, Some, Ok, IfSome, rules, arith, length, take, slice_range, sym, ap, ◌∙◌, subst, le_refl, drop_at, length-take-le, take_all, append-nil}
use Rattle.std.proofs.lemmas.Bool.{cases_lt}
use Rattle.std.proofs.lemmas.Grind.{common_steps}
use Rattle.std.proofs.lemmas.Slice.{take-put_mid_below}
use Rattle.std.proofs.Math.Logic.{inl, inr}
use Rattle.std.proofs.Math.Seq.{take-append_seam}
use Rattle.std.specs.declared.option.Option.{Option}
use Rattle.std.specs.Io.{ReadsAtMost}
use Rattle.std.specs.Io.KnownBytes.{Consumes, IsAtEnd, ReadConsumes}
use Rattle.std.proofs.KnownBytes.{Consumes-trans}
use borrow.Rule.Slice.PartMut.{put_mid, post_of}
use lib.Seq.{take-add, take-append-le}
use Rattle.streams.proofs.read_all.Goals as goal

take_split : (a b : ℕ) (old new : List ℕ) → a ≤ b → take a new ≡ take a old → take a old ++ slice_range new a b ≡ take b new
take_split a b old new h front =
    let same : a + (b - a) ≡ b = omega arith in
    ap (λ l. l ++ slice_range new a b) (sym front) ∙ sym (take-add a (b - a) new) ∙ ap (λ n. take n new) same

slice_range-put_mid : (a k n : ℕ) (xs ys : List ℕ) → a ≤ length xs → n ≤ length ys → slice_range (put_mid a k xs ys) a (a + n) ≡ take n ys
slice_range-put_mid a k n xs ys within fits =
    let same : (a + n) - a ≡ n = omega arith in
    let after = post_of a k xs in
    ap (take ((a + n) - a)) (drop_at (take a xs) (ys ++ after) a (length-take-le a xs within)) ∙ ap (λ m. take m (ys ++ after)) same ∙ take-append-le n ys after fits

-- the bytes that n more make with those before
more : (a k n : ℕ) (xs ys : List ℕ) → a ≤ length xs → n ≤ length ys → take a xs ++ take n ys ≡ take (a + n) (put_mid a k xs ys)
more a k n xs ys within fits =
    ap (λ l. take a xs ++ l) (sym (slice_range-put_mid a k n xs ys within fits)) ∙ take_split a (a + n) xs (put_mid a k xs ys) (omega arith) (take-put_mid_below _ _ _ _ _ (le_refl _) within)

-- what was put is the first bytes, as many as there is room for
first : (a b : Option (List ℕ)) (n : ℕ) (room : List ℕ) → n ≤ length room → Consumes a b (take n room) → (n < length room → IsAtEnd b)
    → IfSome a (λ xs. take n room ≡ take (length room) xs)
first None b n room within got end = tt
first (Some xs) None n room within got end = absurd got
first (Some xs) (Some ys) n room within got end = elim (cases_lt n (length room)) [
  | inl less ↦
      let all : xs ≡ take n room = got ∙ ap (λ l. take n room ++ l) (end less) ∙ append-nil (take n room) in
      let fits : length xs ≤ length room = rw (all, length-take-le n room within) within in
      sym (take_all (length room) xs fits ∙ all)
  | inr full ↦
      let whole : take n room ≡ room = take_all n room full in
      let front : xs ≡ room ++ ys = got ∙ ap (λ l. l ++ ys) whole in
      whole ∙ sym (ap (take (length room)) front ∙ take-append_seam room ys)
]

pub loop-length-preserved : goal.loop-length-preserved
loop-length-preserved g c =
    let got : c.read.result ≡ Ok c.in_ok-more.more = grind (arith, common_steps) in
    let bound = subst (λ r. ReadsAtMost r c.read.new.buf) got c.read.ensures.bound in
    let bytes = subst (λ r. ReadConsumes (g.R.Read.remaining c.loop-length.input) (g.R.Read.remaining c.read.new.self) r c.read.new.buf) got c.read.ensures.bytes in
    let before = c.loop-length.invariant in
    record {
      within = search rules;
      consumed = subst (Consumes _ _) (more _ _ _ _ _ before.within bound.0) (Consumes-trans _ _ _ _ _ before.consumed bytes.0);
    }

-- return Ok(length), where a read gave no byte
pub returns-then-more-eq0-clause-first : goal.returns-then-more-eq0-clause-first
returns-then-more-eq0-clause-first g c =
    let got : c.read.result ≡ Ok c.in_ok-more.more = grind (arith, common_steps) in
    let bound = subst (λ r. ReadsAtMost r c.read.new.buf) got c.read.ensures.bound in
    let bytes = subst (λ r. ReadConsumes (g.R.Read.remaining c.loop-length.input) (g.R.Read.remaining c.read.new.self) r c.read.new.buf) got c.read.ensures.bytes in
    let before = c.loop-length.invariant in
    let from = c.loop-length.length in
    let put = put_mid from (length c.loop-length.room - from) c.loop-length.room c.read.new.buf in
    let same : from + c.in_ok-more.more ≡ from = omega (arith, c.if-more-eq0.true) in
    let consumed = subst (Consumes _ _) (more _ _ _ _ _ before.within bound.0) (Consumes-trans _ _ _ _ _ before.consumed bytes.0) in
    first
    (g.R.Read.remaining c.args.input.now)
    (g.R.Read.remaining c.read.new.self)
    from
    put
    (search rules)
    (subst (λ n. Consumes (g.R.Read.remaining c.args.input.now) (g.R.Read.remaining c.read.new.self) (take n put)) same consumed)
    (λ _. bytes.1 c.if-more-eq0.true (search rules))

-- Ok(length), where the room is full
pub returns-clause-first : goal.returns-clause-first
returns-clause-first g c = first _ (g.R.Read.remaining c.loop-length.input) _ _ c.loop-length.invariant.within c.loop-length.invariant.consumed (λ less. absurd (omega arith))

-- A text shown whole or not at all: what has been put at the start of a slice, and what was answered and left behind, whatever code did it.
use mathlib.Core.Path.{◌≡◌, refl, sym, ◌∙◌}
use mathlib.Core.List.{List}
use Prim.Native.Nat.{ℕ, ◌≤◌, ◌<◌, zero-le}
use native.Mathlib.Omega.{arith}
use lib.Dec.{ltb}
use lib.ListN.{length, take, length-append}
use lib.Seq.{take-append_seam}
use borrow.Author.Tests.{lt-ltb, le-ltb}
use Rattle.whole.proofs.Tests.{split}
use Rattle.printing.specs.Put.{Put}
use Rattle.printing.specs.Shown.{shown, HasShown}
use denote.Ref.{MutBor}
use Rattle.printing.specs.declared.page.Page.{Page}
use Rattle.printing.specs.Page.{Adds, Opens}
use Rattle.printing.proofs.Putting.{put_first}
use Rattle.printing.proofs.Pages.{put_by_page}

-- what a function answers and leaves that looks at the room, and then puts the text
pub no_room : {longest : ℕ} (text : List ℕ) {out : List ℕ} → length out < longest →
    (0 ≡ (shown longest text out).count) × (out ≡ (shown longest text out).out)
unfolding shown
no_room {longest} text {out} short = rw (lt-ltb (length out) longest short) (refl, refl)

module _ {longest : ℕ} {text out : List ℕ} where
  pub put_shown : {n : ℕ} {after : List ℕ} → longest ≤ length out → length text ≤ longest → Put out 0 text n after →
      (n ≡ (shown longest text out).count) × (after ≡ (shown longest text out).out)
  unfolding shown
  put_shown room fits put = rw (le-ltb (length out) longest room) (put_first put (omega arith))

  -- no second result fits
  pub one_shown : {n m : ℕ} {a b : List ℕ} → HasShown longest text out n a → HasShown longest text out m b → (n ≡ m) × (a ≡ b)
  one_shown f g = (f.count_is ∙ sym g.count_is, f.out_is ∙ sym g.out_is)

  module _ {after : List ℕ} {n : ℕ} (f : HasShown longest text out n after) where
    -- where there is room, the bytes handed back are the text, all of it and nothing else
    pub whole_text : longest ≤ length out → take n after ≡ text
    unfolding shown
    whole_text room = rw (f.count_is, f.out_is, le-ltb (length out) longest room) (take-append_seam text _)

    -- where there is none, nothing is put
    pub nothing_put : length out < longest → (n ≡ 0) × (after ≡ out)
    nothing_put short = (f.count_is ∙ sym (no_room text short).0, f.out_is ∙ sym (no_room text short).1)

    -- the bytes put are bytes of the slice
    pub count_within : n ≤ length after
    unfolding shown
    count_within =
        rw (f.count_is, f.out_is) (split (ltb (length out) longest) (λ e. rw e zero-le) (λ e. rw (e, length-append) (omega arith)))

-- the text, put by a page on the slice
pub page_shown : {longest m : ℕ} {text after : List ℕ} {o : MutBor (List ℕ)} {p q : Page} → longest ≤ length o.now → length text ≤ longest → Opens o p →
    Adds p q m text → after ≡ q.out.now → (q.at ≡ (shown longest text o.now).count) × (after ≡ (shown longest text o.now).out)
page_shown room fits opens put e = put_shown room fits (put_by_page opens put e)

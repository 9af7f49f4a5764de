-- Text put on a page after text is put as one.
use mathlib.Core.Path.{◌≡◌, refl, ◌∙◌, subst, sym, ap₂}
use mathlib.Core.List.{List, [], ◌++◌}
use Prim.Native.Nat.{ℕ, ◌+◌, ◌≤◌}
use native.Mathlib.Numerals.{add-one}
use native.Mathlib.Omega.{arith}
use lib.ListN.{length}
use denote.Ref.{MutBor}
use Rattle.rules.specs.Statement.{member_lines}
use Rattle.printing.specs.declared.page.Page.{Page}
use Rattle.printing.specs.Put.{Put}
use Rattle.printing.specs.Page.{Adds, Opens, page_shows}
use Rattle.printing.proofs.Putting.{put_on, put_length, put_nothing}

pub adds_nothing : (p : Page) → Adds p p 0 []
adds_nothing p = record { same = refl; put = put_nothing p.out.now p.at; within = omega arith; room = refl }

-- from what was put
pub adds : {p q : Page} {xs : List ℕ} (most : ℕ) → q.out.ghost_name ≡ p.out.ghost_name → Put p.out.now p.at xs q.at q.out.now → length xs ≤ most → Adds p q most xs
adds most same put within = record { same = same; put = put; within = omega (arith, put.next_is, within); room = put_length put }

pub adds_on : {p q r : Page} {xs ys : List ℕ} {m n : ℕ} → Adds p q m xs → Adds q r n ys → Adds p r (m + n) (xs ++ ys)
adds_on f g = record {
  same = g.same ∙ f.same;
  put = put_on f.put g.put;
  within = omega (arith, f.within, g.within);
  room = g.room ∙ f.room;
}

pub adds_as : {p q : Page} {xs ys : List ℕ} {m : ℕ} → xs ≡ ys → Adds p q m xs → Adds p q m ys
adds_as {p} {q} {m = m} e f = subst (λ (t : List ℕ). Adds p q m t) e f

pub adds_within : {p q : Page} {xs : List ℕ} {m : ℕ} (n : ℕ) → m ≤ n → Adds p q m xs → Adds p q n xs
adds_within n l f = record { same = f.same; put = f.put; within = omega (arith, f.within, l); room = f.room }

-- by the text's own length
pub adds_short : {p q : Page} {xs : List ℕ} {m : ℕ} (n : ℕ) → length xs ≤ n → Adds p q m xs → Adds p q n xs
adds_short n l f = record { same = f.same; put = f.put; within = omega (arith, f.put.next_is, l); room = f.room }

-- no second page fits
pub one_page : {p q r : Page} {xs : List ℕ} {m n : ℕ} → Adds p q m xs → Adds p r n xs → page_shows q ≡ page_shows r
one_page f g = ap₂ (λ (at : ℕ) (out : List ℕ). (at, out)) (f.put.next_is ∙ sym g.put.next_is) (f.put.after_is ∙ sym g.put.after_is)

-- lines of members, or of whatever there is in an order
pub no_lines : (line : ℕ → List ℕ) (p : Page) → Adds p p 0 (member_lines line 0)
unfolding member_lines
no_lines line p = adds_nothing p

pub line_on : (line : ℕ → List ℕ) (n : ℕ) {p q r : Page} {m k : ℕ} → Adds p q m (member_lines line n) → Adds q r k (line n) →
    Adds p r (m + k) (member_lines line (n + 1))
unfolding member_lines
line_on line n f g = rw (add-one n) (adds_on f g)

-- what a slice holds when the page that it was lent to is let go
pub put_by_page : {out : MutBor (List ℕ)} {p q : Page} {m : ℕ} {xs after : List ℕ} → Opens out p → Adds p q m xs → after ≡ q.out.now → Put out.now 0 xs q.at after
put_by_page {xs = xs} o f e = rw (e, ← o.room, ← o.at) f.put

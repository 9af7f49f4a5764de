-- What the functions say that put text on a page.
use Rattle.std.specs.Prelude.{ℕ, ◌+◌, ◌≡◌, ◌≤◌, List, length}
use denote.Ref.{MutBor}
use Rattle.printing.specs.declared.page.Page.{Page}
use Rattle.printing.specs.Put.{Put}

-- so many more bytes fit
abbrev pub HasRoom : (page : Page) (more : ℕ) → Type 0
HasRoom page more = page.at + more ≤ length page.out.now

-- the text, of at most so many bytes, stands behind what stood before, in the same slice, and nothing else is changed
pub record Adds (old new : Page) (most : ℕ) (text : List ℕ) : Type 0 where
  pub same : new.out.ghost_name ≡ old.out.ghost_name
  pub put : Put old.out.now old.at text new.at new.out.now
  pub within : new.at ≤ old.at + most
  pub room : length new.out.now ≡ length old.out.now

-- a page of this slice, with nothing on it
pub record Opens (out : MutBor (List ℕ)) (page : Page) : Type 0 where
  pub same : page.out.ghost_name ≡ out.ghost_name
  pub room : page.out.now ≡ out.now
  pub at : page.at ≡ 0

-- how far a page is filled, and what its slice holds
abbrev pub page_shows : Page → ℕ × List ℕ
page_shows page = (page.at, page.out.now)

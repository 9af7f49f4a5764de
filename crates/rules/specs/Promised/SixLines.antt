-- The lines that an explanation prints, read as `Lines` reads them, whatever put them together. What is read is what was answered, and it is
-- tied to what settling wrote. Document 02, A5.
use Rattle.std.specs.Prelude.{ℕ, ◌<◌, ◌≤◌, ◌≡◌, ◌↔◌, cond, List, [], ◌∷◌, ℤ, pos, length, get_or, ltb, Option, None, Some}
use Rattle.rules.specs.Record.{members}
use Rattle.rules.specs.Text.{bytes}
use Rattle.rules.specs.HourFile.{hour_in}
use Rattle.rules.specs.Refusals.{accepted, refused_at, Buffers}
use Rattle.rules.specs.Settling.{settle, empty_line}
use Rattle.rules.specs.Explanation.{Explanation, no_heads, head_at, explain, member_asked, hour_asked, explanation}
use Rattle.rules.specs.Promised.Lines.{lines_of, line_at, words_of, word_at, number_in, SaysRefused}
use Rattle.rules.specs.Promised.Demands.{Accepts}
use Rattle.rules.specs.Promised.Deciding.{Explains}
use Rattle.rules.specs.Promised.Finals.{AreBytes}

-- ---- six lines

-- the document's five names, in its order
abbrev pub name_at : ℕ → List ℕ
name_at k = get_or (bytes "generation" ∷ bytes "load" ∷ bytes "import" ∷ bytes "export" ∷ bytes "share" ∷ []) k []

abbrev pub name_or_none : Option ℕ → List ℕ
name_or_none None = bytes "none"
name_or_none (Some k) = name_at k

-- a line of two words: this one and a number
pub record SaysNumber (line word : List ℕ) (number : ℤ) : Type 0 where
  pub two_words : length (words_of line) ≡ 2
  pub word_is : word_at line 0 ≡ word
  pub number_read : number_in (word_at line 1) ≡ Some number

-- a text that says these five heads and which of them decided
pub record SaysHeads (text : List ℕ) (heads : List ℤ) (decided : Option ℕ) : Type 0 where
  -- six lines, each with its line feed, and nothing after the last
  pub six_lines : length (lines_of text) ≡ 7
  pub nothing_else : line_at text 6 ≡ []
  pub five_heads : length heads ≡ 5
  pub head_said : (k : ℕ) → k < 5 → SaysNumber (line_at text k) (name_at k) (head_at heads k)
  pub one_of_five : (k : ℕ) → decided ≡ Some k → k < 5
  pub decided_said : words_of (line_at text 5) ≡ bytes "decided" ∷ name_or_none decided ∷ []

-- what is answered to the program's input; without four bytes of member number it is 1
unfoldable pub answer_to : List ℕ → Explanation
answer_to s = cond (ltb (length s) 4)
    (record { verdict = refused_at 1 0; heads = no_heads; decided = None })
    (explain (hour_asked s) (member_asked s))

pub record SixLines : Type 0 where
  -- a text says one thing at most
  pub one_reading : (text : List ℕ) (hs gs : List ℤ) (d e : Option ℕ) → SaysHeads text hs d → SaysHeads text gs e → (hs ≡ gs) × (d ≡ e)
  -- what is printed says exactly what was answered
  pub read_back : (s : List ℕ) (hs : List ℤ) (d : Option ℕ) →
      SaysHeads (explanation s) hs d ↔ (answer_to s ≡ record { verdict = accepted; heads = hs; decided = d })
  -- or it says the refusal, and nothing else
  pub refused_read : (s : List ℕ) → AreBytes s → ((answer_to s).verdict ≡ accepted → ⊥) → SaysRefused (explanation s) (answer_to s).verdict
  -- of an hour that settling accepts, into any buffers: what is read adds up to the member's line, and decided on its charge
  pub as_settled : (s : List ℕ) (b : Buffers) (hs : List ℤ) (d : Option ℕ) → let h = hour_in (hour_asked s) in let m = member_asked s in
      4 ≤ length s → Accepts (hour_asked s) b → m < members h → SaysHeads (explanation s) hs d →
      let after = (settle (hour_asked s) b).buffers in
      Explains h m (get_or after.lines m empty_line).amount (get_or after.charges m (pos 0)) hs d
  -- no two different answers print the same text
  pub tells : (s t : List ℕ) → AreBytes s → AreBytes t → explanation s ≡ explanation t → answer_to s ≡ answer_to t

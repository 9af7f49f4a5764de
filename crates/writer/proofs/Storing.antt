-- Words stored one after the other are the buffer's first words replaced.
use Rattle.std.proofs.Common.{◌≡◌, ℕ, zero, suc, ◌+◌, ◌*◌, ◌/◌, ◌%◌, ◌<◌, ◌≤◌, List, ◌++◌, length, take, drop, sym, refl, ap, ap₂, ◌∙◌, add-zero, add-one, arith}
use Rattle.std.proofs.Math.ListN.{replicate, get_or-replicate}
use Rattle.std.proofs.lemmas.List.{length-replicate}
use lib.Seq.{ext_get_or, drop-drop}
use borrow.Rule.Slice.PartMut.{put_mid}
use Rattle.whole.specs.Below.{values_below, replacing_first}
use Rattle.whole.proofs.Buffers.{replacing_none, replacing_then, replacing_all, length_values, get_or_values}
use Rattle.rules.specs.HourWords.{byte_of}
use Rattle.writer.specs.Stored.{word_stored, words_stored, bytes_of}

-- ---- one word more is stored

pub stored_next : (f : ℕ → ℕ) (from k : ℕ) (old out next : List ℕ) → out ≡ words_stored f from k old → next ≡ word_stored out (from + k) (f k) →
    next ≡ words_stored f from (k + 1) old
unfolding words_stored
stored_next f from k old out next so-far is =
    is ∙ rw so-far (sym (ap (λ (m : ℕ). words_stored f from m old) (add-one k)))

-- ---- a buffer whose first n words hold f's values

pub record Begun (f : ℕ → ℕ) (old : List ℕ) (n : ℕ) (out : List ℕ) : Type 0 where
  pub first : out ≡ replacing_first (bytes_of f) (4 * n) old

module _ (f : ℕ → ℕ) (old : List ℕ) where
  -- byte t of a word that holds f's value
  byte_is : (n t k v : ℕ) → t < 4 → k ≡ 4 * n + t → v ≡ f n → byte_of v t ≡ bytes_of f k
  unfolding bytes_of
  byte_is n t k v l e w =
      let word_at : k / 4 ≡ n = omega arith in
      let byte_at : k % 4 ≡ t = omega arith in
      rw (w, word_at, byte_at)

  four_more : (n v : ℕ) (out : List ℕ) → out ≡ replacing_first (bytes_of f) (4 * n) old → v ≡ f n →
      word_stored out n v ≡ replacing_first (bytes_of f) (4 * (n + 1)) old
  unfolding word_stored
  four_more n v out e w =
      let next : 4 * n + 4 ≡ 4 * (n + 1) = omega arith in
      rw e (replacing_then (bytes_of f) (byte_of v) (4 * n) 4 old (λ i l. byte_is n i (4 * n + i) v l refl w))
      ∙ ap (λ (m : ℕ). replacing_first (bytes_of f) m old) next

  run_more : (g : ℕ → ℕ) (n k : ℕ) (out : List ℕ) → out ≡ replacing_first (bytes_of f) (4 * n) old →
      ((i : ℕ) → i < k → g i ≡ f (n + i)) → words_stored g n k out ≡ replacing_first (bytes_of f) (4 * (n + k)) old
  unfolding words_stored
  run_more g n zero out e same = e ∙ ap (λ (m : ℕ). replacing_first (bytes_of f) (4 * m) old) (sym (add-zero n))
  run_more g n (suc k) out e same =
      four_more (n + k) (g k) (words_stored g n k out) (run_more g n k out e (λ i l. same i (omega arith)))
      (same k (omega arith))
      ∙ ap (λ (m : ℕ). replacing_first (bytes_of f) (4 * m) old) more
    where
      more : n + k + 1 ≡ n + suc k
      more = omega arith

module _ {f : ℕ → ℕ} {old : List ℕ} where
  pub begun_none : Begun f old 0 old
  begun_none = record { first = sym (replacing_none (bytes_of f) old) }

  module _ {n : ℕ} {out next : List ℕ} (begun : Begun f old n out) where
    pub begun_words : (g : ℕ → ℕ) (k : ℕ) → ((i : ℕ) → i < k → g i ≡ f (n + i)) →
        next ≡ words_stored g n k out → Begun f old (n + k) next
    begun_words g k same is = record { first = is ∙ run_more f old g n k out begun.first same }

-- ---- zeros to the end

zeros : (m : ℕ) → replicate {A = ℕ} m 0 ≡ values_below (λ i. 0) m
zeros m = ext_get_or {A = ℕ} 0 _ _ (length-replicate {A = ℕ} m 0 ∙ sym (length_values (λ i. 0) m))
    (λ i l. let few : i < m = omega (arith, length-replicate {A = ℕ} m 0) in get_or-replicate m i 0 0 few ∙ sym (get_or_values (λ i. 0) m i 0 few))

zero_byte : (j : ℕ) → 0 ≡ byte_of 0 j
unfolding byte_of
zero_byte zero = refl
zero_byte (suc zero) = refl
zero_byte (suc (suc zero)) = refl
zero_byte (suc (suc (suc zero))) = refl
zero_byte (suc (suc (suc (suc j)))) = refl

-- byte i past the words is 0, since each word there is
zero_bytes : (f : ℕ → ℕ) (n : ℕ) → ((w : ℕ) → n ≤ w → f w ≡ 0) → (i : ℕ) → 0 ≡ bytes_of f (4 * n + i)
unfolding bytes_of
zero_bytes f n past i = let at : n ≤ (4 * n + i) / 4 = omega arith in rw (past ((4 * n + i) / 4) at) (zero_byte ((4 * n + i) % 4))

module _ (f : ℕ → ℕ) (old : List ℕ) (n m : ℕ) (out filled : List ℕ) (begun : out ≡ replacing_first (bytes_of f) (4 * n) old)
    (past : (w : ℕ) → n ≤ w → f w ≡ 0) (filled-is : filled ≡ replicate m 0) (whole : length old ≡ 4 * n + m) where
  zeros_behind : take (4 * n) out ++ (filled ++ drop (4 * n + m) out) ≡ values_below (bytes_of f) (4 * n + m)
  zeros_behind =
      ap₂ (λ (out filled : List ℕ). take (4 * n) out ++ (filled ++ drop (4 * n + m) out)) begun (filled-is ∙ zeros m)
      ∙ replacing_then (bytes_of f) (λ i. 0) (4 * n) m old (λ i l. zero_bytes f n past i)
      ∙ replacing_all (bytes_of f) (4 * n + m) old whole

  zeros_put : put_mid (4 * n) m out filled ≡ values_below (bytes_of f) (4 * n + m)
  zeros_put = ap (λ (after : List ℕ). take (4 * n) out ++ (filled ++ after)) (drop-drop m (4 * n) out) ∙ zeros_behind

-- zeros put behind the words, up to the buffer's end
pub zeros_end : {f : ℕ → ℕ} {old : List ℕ} {n : ℕ} {out : List ℕ} → Begun f old n out → ((w : ℕ) → n ≤ w → f w ≡ 0) →
    (from m size : ℕ) (filled : List ℕ) → from ≡ 4 * n → size ≡ 4 * n + m → length old ≡ size → filled ≡ replicate m 0 →
    put_mid from m out filled ≡ values_below (bytes_of f) size
zeros_end {f} {old} {n} {out} begun past from m size filled from-is size-is whole e =
    rw (from-is, size-is) (zeros_put f old n m out filled begun.first past e (whole ∙ size-is))

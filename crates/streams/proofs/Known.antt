-- What is made of the first bytes is made of all of them, where those behind don't count.
use Rattle.std.proofs.Common.{◌≡◌, ℕ, List, None, Some, Ok, Err, IfSome, OnOk, Result, take, ap, ◌∙◌, subst}
use Rattle.std.specs.declared.option.Option.{Option}

pub of_all : (known : Option (List ℕ)) (made : List ℕ → List ℕ) (n k : ℕ) → k ≡ n → ((s : List ℕ) → made (take n s) ≡ made s) → (P : List ℕ → Type 0) (got : List ℕ)
    → IfSome known (λ xs. got ≡ take k xs) → P (made got) → IfSome known (λ xs. P (made xs))
of_all None made n k full same P got e p = tt
of_all (Some xs) made n k full same P got e p = subst P (ap made (e ∙ ap (λ m. take m xs) full) ∙ same xs) p

pub on_ok : {T E A B : Type 0} (r : Result T E) → (A → B) → OnOk r A → OnOk r B
on_ok (Ok x) f a = f a
on_ok (Err e) f a = tt

pub of_cut : (known : Option (List ℕ)) (made : List ℕ → List ℕ) (n k : ℕ) → k ≡ n → ((s : List ℕ) → made (take n s) ≡ made s) → (P : List ℕ → Type 0)
    → IfSome known (λ xs. P (made (take k xs))) → IfSome known (λ xs. P (made xs))
of_cut None made n k full same P p = tt
of_cut (Some xs) made n k full same P p = subst P (ap (λ m. made (take m xs)) full ∙ same xs) p

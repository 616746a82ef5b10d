-- Lists to which all items of a set are appended, step by step.
use Rattle.std.proofs.Common.{◌⊎◌, inl, inr, ⊎_elim, ◌↔◌, List}
use Rattle.rb_bytes.specs.Lists.{Gains}

-- the items of one set and then of another
pub gains_both : {A : Type 0} (xs was now : List A) (P Q R : A → Type 0) → ((x : A) → (P x ⊎ Q x) ↔ R x) → Gains xs was P →
    Gains was now Q → Gains xs now R
gains_both xs was now P Q R all first more x =
    let (out, back) = first x in
    let (out', back') = more x in
    let (to, from) = all x in (
      (λ in_now. ⊎_elim (λ in_was. ⊎_elim (λ in_xs. inl in_xs) (λ is. inr (to (inl is))) (out in_was))
          (λ is. inr (to (inr is))) (out' in_now)),
      ⊎_elim
          (λ in_xs. back' (inl (back (inl in_xs))))
          (λ is. ⊎_elim (λ p. back' (inl (back (inr p)))) (λ q. back' (inr q)) (from is)),
    )

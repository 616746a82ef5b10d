-- Whether a number is in a set.
use Rattle.std.proofs.Common.{◌≡◌, ◌≢◌, ℕ, arith, nat_cmp, ⊎_elim}
use Rattle.std.specs.Prelude.{◌==◌}
use Rattle.std.specs.BTreeMap.{is_at}
use Rattle.std.proofs.lemmas.Bool.{cases_eq}
use Rattle.std.proofs.lemmas.Grind.{common_steps}

pub at_key : (k q : ℕ) → is_at (nat_cmp k) q ≡ (k == q)
at_key k q = ⊎_elim (λ (e : k ≡ q). grind (arith, common_steps)) (λ (ne : k ≢ q). grind (arith, common_steps)) (cases_eq k q)

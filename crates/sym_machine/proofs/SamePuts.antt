-- Bytes of code cells put over equal memories.
use Rattle.std.proofs.Common.{◌≡◌, ap, ℕ, List, [], ◌∷◌}
use Rattle.std.specs.Prelude.{◌==◌, if◌then◌else◌}
use Rattle.rv_code.specs.machine.Machine.{plus, put}

pub put_same : {C : Type 0} (old new : ℕ → C) → ((q : ℕ) → old q ≡ new q) → (a q : ℕ) (bytes : List C) →
    put old a bytes q ≡ put new a bytes q
unfolding put
put_same old new same a q [] = same q
put_same old new same a q (c ∷ bytes) = ap (λ rest. if q == a then c else rest) (put_same old new same (plus a 1) q bytes)

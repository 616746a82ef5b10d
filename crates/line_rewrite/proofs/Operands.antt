-- Operands that are skipped, one at a time.
use Rattle.std.proofs.Common.{◌≡◌, ◌<◌, ◌-◌, ◌+◌, ℕ, List, suc, refl, arith}
use Rattle.rb_bytes.specs.Readers.{and_then}
use Rattle.rb_bytes.specs.Leb.{uleb_at}
use Rattle.line_rewrite.specs.Operations.{unknown_at}

pub unknown_step : (n i : ℕ) (left : List ℕ) → i < n → unknown_at (n - i) left ≡ and_then (uleb_at left)
    (λ _ left. unknown_at (n - (i + 1)) left)
unknown_step n i left h =
    let e : n - i ≡ suc (n - (i + 1)) = omega arith in
    rw e refl

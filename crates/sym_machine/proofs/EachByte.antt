-- A test of several bytes, one byte after another.
use Rattle.std.proofs.Common.{◌≡◌, ◌∙◌, ap, ℕ, ◌+◌, ◌-◌, ◌<◌, ◌≤◌, Bool, true, arith}
use Rattle.std.specs.Prelude.{◌&&◌}
use Rattle.rv_code.specs.machine.Machine.{plus, all_may}
use Rattle.rv_memory.proofs.MemoryBytes.{all_may_none, all_may_next}

-- one byte was tested
pub each-next : (may : ℕ → Bool) (a i n : ℕ) (b : Bool) → i < n → all_may may a n ≡ all_may may (plus a i) (n - i) →
    may (plus a i) ≡ b → all_may may a n ≡ b && all_may may (plus a (i + 1)) (n - (i + 1))
each-next may a i n b within before is =
    before ∙ all_may_next may a i n within ∙ ap (λ first. first && all_may may (plus a (i + 1)) (n - (i + 1))) is

-- no byte is left
pub each-all : (may : ℕ → Bool) (a i n : ℕ) → n ≤ i → all_may may a n ≡ all_may may (plus a i) (n - i) → all_may may a n ≡ true
each-all may a i n none before = before ∙ all_may_none may (plus a i) (n - i) (omega (arith, none))

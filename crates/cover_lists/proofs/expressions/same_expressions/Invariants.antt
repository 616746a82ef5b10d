use Rattle.std.proofs.Common.{◌≡◌, ℕ, drop, map}
use Rattle.std.specs.Global.{Vec}
use Rattle.cover_lists.proofs.expressions.same_expressions.Given as goal

abbrev pub invariant-loop-i : goal.invariant-loop-i
invariant-loop-i l =
    drop l.i (map (λ (v : Vec ℕ). v.items) l.x) ≡ drop l.i (map (λ (v : Vec ℕ). v.items) l.y) →
    map (λ (v : Vec ℕ). v.items) l.x ≡ map (λ (v : Vec ℕ). v.items) l.y

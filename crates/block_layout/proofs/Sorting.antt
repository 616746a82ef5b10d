-- The result of a sort by counts and ends.
use Rattle.std.proofs.Common.{◌≡◌, ◌<◌, ◌≤◌, ◌+◌, ◌∙◌, ℕ, false, List, length, get_or, arith, inl, inr, ⊎_elim, AllPairs}
use Rattle.std.specs.Ordering.{nat_cmp, is_lt, ordering_then}
use Rattle.std.proofs.lemmas.Bool.{cases_lt, eq-eqb, lt-ltb, le-ltb}
use Rattle.std.proofs.lemmas.Grind.{common_steps}
use Rattle.edge_profile.proofs.Neighbours.{all_pairs}
use Rattle.block_layout.specs.EdgeLists.{IsKeyBefore}
use Rattle.block_layout.specs.declared.edge_counts.Edge.{Edge}

from_cmp : (e f : Edge) →
    is_lt (ordering_then (ordering_then (nat_cmp e.count f.count) (nat_cmp f.from e.from)) (nat_cmp f.to e.to)) ≡ false →
    IsKeyBefore e f
from_cmp e f is = grind (arith, common_steps, ⊎_elim, lt-ltb, le-ltb, eq-eqb, cases_lt)

key_trans : (x y z : Edge) → IsKeyBefore x y → IsKeyBefore y z → IsKeyBefore x z
key_trans x y z (inl a) (inl b) = inl (omega arith)
key_trans x y z (inl a) (inr (e, b)) = inl (omega arith)
key_trans x y z (inr (e, a)) (inl b) = inl (omega arith)
key_trans x y z (inr (e, inl a)) (inr (f, inl b)) = inr (e ∙ f, inl (omega arith))
key_trans x y z (inr (e, inl a)) (inr (f, inr (g, b))) = inr (e ∙ f, inl (omega arith))
key_trans x y z (inr (e, inr (g, a))) (inr (f, inl b)) = inr (e ∙ f, inl (omega arith))
key_trans x y z (inr (e, inr (g, a))) (inr (f, inr (h, b))) = inr (e ∙ f, inr (g ∙ h, omega arith))

pub edges-sorted : (xs : List Edge)
    → ((k : ℕ) (d : Edge) → 0 ≤ k → k + 1 < length xs
    → is_lt (ordering_then (ordering_then (nat_cmp (get_or xs k d).count (get_or xs (k + 1) d).count)
    (nat_cmp (get_or xs (k + 1) d).from (get_or xs k d).from)) (nat_cmp (get_or xs (k + 1) d).to (get_or xs k d).to)) ≡ false)
    → AllPairs IsKeyBefore xs
edges-sorted xs sorted =
    all_pairs IsKeyBefore key_trans xs
    (λ k e inside. from_cmp (get_or xs k e) (get_or xs (k + 1) e) (sorted k e (omega arith) inside))

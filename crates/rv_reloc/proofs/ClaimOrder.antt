-- Claims sorted by address, type and key.
use Rattle.std.proofs.Common.{◌≡◌, ℕ, ◌+◌, ◌<◌, ◌≤◌, false, List, length, slice_index_or, arith}
use Rattle.std.specs.List.{AllPairs}
use Rattle.std.specs.Ordering.{nat_cmp, is_lt, ordering_then}
use Rattle.rv_reloc.specs.declared.roles.Claim.{Claim}
use Rattle.rv_reloc.specs.Claims.{IsUpTo, IsClaimUpTo}
use Rattle.rv_reloc.proofs.Lexicographic.{number_up, then_up, less_trans, AllPairs-from_next}

-- The meaning of the comparison of keys.
from_cmp : (c d : Claim) →
    is_lt (ordering_then (nat_cmp d.at c.at) (ordering_then (nat_cmp d.kind c.kind) (nat_cmp d.key c.key))) ≡ false →
    IsClaimUpTo c d
from_cmp c d =
    then_up c.at d.at (ordering_then (nat_cmp d.kind c.kind) (nat_cmp d.key c.key)) (IsUpTo c.kind c.key d.kind d.key)
    (then_up c.kind d.kind (nat_cmp d.key c.key) (c.key ≤ d.key) (number_up c.key d.key))

trans : (c d e : Claim) → IsClaimUpTo c d → IsClaimUpTo d e → IsClaimUpTo c e
trans c d e =
    less_trans c.at d.at e.at (IsUpTo c.kind c.key d.kind d.key) (IsUpTo d.kind d.key e.kind e.key)
    (IsUpTo c.kind c.key e.kind e.key)
    (less_trans c.kind d.kind e.kind (c.key ≤ d.key) (d.key ≤ e.key) (c.key ≤ e.key) (λ p q. omega arith))

pub claims-sorted : (xs : List Claim) →
    ((k : ℕ) (d : Claim) → 0 ≤ k → k + 1 < length xs →
    is_lt (ordering_then (nat_cmp (slice_index_or xs (k + 1) d).at (slice_index_or xs k d).at)
    (ordering_then (nat_cmp (slice_index_or xs (k + 1) d).kind (slice_index_or xs k d).kind)
    (nat_cmp (slice_index_or xs (k + 1) d).key (slice_index_or xs k d).key))) ≡ false) →
    AllPairs IsClaimUpTo xs
claims-sorted xs sorted =
    AllPairs-from_next IsClaimUpTo trans xs
    (λ k d inside. from_cmp (slice_index_or xs k d) (slice_index_or xs (k + 1) d) (sorted k d (omega arith) inside))

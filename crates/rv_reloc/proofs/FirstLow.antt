-- The first lower part for an AUIPC, in a list sorted by AUIPC.
use Rattle.std.proofs.Common.{◌≡◌, ◌≢◌, ◌∙◌, ap, ℕ, ◌<◌, ◌≤◌, ⊎_elim, List, length, slice_index_or, arith}
use Rattle.std.specs.List.{Contains}
use Rattle.std.specs.List.Sorted.{IsNonDecreasingBy}
use Rattle.std.proofs.lemmas.Bool.{cases_lt}
use Rattle.std.proofs.lemmas.List.{get_or_default}
use Rattle.rv_reloc.specs.declared.lows.Low.{Low}

pub first_other : (lows : List Low) (hi n : ℕ) (l first : Low) → IsNonDecreasingBy (λ m. m.hi) lows →
    ((k : ℕ) (d : Low) → k < n → (slice_index_or lows k d).hi < hi) → n < length lows → first ≡ slice_index_or lows n first →
    hi ≤ first.hi → first.hi ≢ hi → Contains lows l → l.hi ≡ hi → ⊥
first_other lows hi n l first rising below inside is above differ (k, within, there) same =
    let at = ap (λ (m : Low). m.hi) there in
    let here = ap (λ (m : Low). m.hi) (is ∙ get_or_default lows n first l inside) in
    ⊎_elim
    (λ (less : k < n). let low = below k l less in omega arith)
    (λ (more : n ≤ k). let up = rising n k l more within in omega arith)
    (cases_lt k n)

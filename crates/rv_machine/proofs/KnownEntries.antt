-- A cache whose entries are all equal, and correct.
use Rattle.std.proofs.Common.{◌≡◌, ◌∙◌, ◌<◌, ℕ, List, sym, ap, subst, arith, length, get_or}
use Rattle.std.specs.Prelude.{replicate}
use Rattle.std.proofs.lemmas.List.{get_or-replicate, length-replicate}
use Rattle.rv_machine.specs.declared.known.KnownAction.{KnownAction}
use Rattle.rv_machine.specs.KnownInsts.{IsKnown}

pub known_entries : (entries : List KnownAction) (n : ℕ) (e : KnownAction) → entries ≡ replicate n e → IsKnown e →
    (k : ℕ) (d : KnownAction) → k < length entries → IsKnown (get_or entries k d)
known_entries entries n e is known k d within =
    let size : length entries ≡ n = ap length is ∙ length-replicate n e in
    let here : get_or entries k d ≡ e = ap (λ xs. get_or xs k d) is ∙ get_or-replicate n k e d (omega arith) in
    subst IsKnown (sym here) known

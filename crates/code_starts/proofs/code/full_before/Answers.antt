use Rattle.std.proofs.Common.{ap, ℕ, Option}
use Rattle.std.specs.Option.{option_map}
use Rattle.rv_code.specs.declared.inst.Inst.{Inst}
use Rattle.code_starts.proofs.code.full_before.Goals as goal

pub returns-then-bytes-eq4-clause-only : goal.returns-then-bytes-eq4-clause-only
returns-then-bytes-eq4-clause-only c =
    λ inst before. ap (λ (o : Option (Inst × ℕ)). option_map (λ r. r.0) o) (c.in_ok-inst.ensures.only inst 4 before)

pub returns-in_err-inst-clause-only : goal.returns-in_err-inst-clause-only
returns-in_err-inst-clause-only c = λ inst before. let is = c.in_err-inst.ensures.only inst 4 before in absurd (cc)

-- Instructions with the fields that matter.
use Rattle.std.proofs.Common.{ℕ, IfSome}
use Rattle.rv_code.specs.declared.inst.Inst.{Inst}
use Rattle.rv_code.specs.declared.inst.Inst.TheVariants.{Auipc, Jalr}
use Rattle.rv_reloc.specs.Instructions.{auipc_of, jalr_of}

pub as_auipc : (Is : Inst → Type 0) (inst : Inst) → Is inst → IfSome (auipc_of inst) (λ u. Is (Auipc u.rd u.imm))
as_auipc Is (Auipc rd imm) is = is
as_auipc Is inst is = tt

pub as_jalr : (Is : Inst → Type 0) (inst : Inst) → Is inst → IfSome (jalr_of inst) (λ j. (link : ℕ) × Is (Jalr link j.base j.imm))
as_jalr Is (Jalr link base imm) is = (link, is)
as_jalr Is inst is = tt

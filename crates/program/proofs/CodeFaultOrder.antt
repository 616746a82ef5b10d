-- The faults of references come before the faults of functions.
use Rattle.std.proofs.Common.{◌≤◌, ℕ, List, inl, inr, arith}
use Rattle.rb_bytes.specs.Fault.{number_of}
use Rattle.rb_bytes.specs.declared.fault.Fault.{Fault}
use Rattle.rb_bytes.specs.declared.fault.FaultKind.{FaultKind}
use Rattle.rb_bytes.specs.declared.fault.FaultKind.TheVariants.{RelocType, RelocMismatch, LoMismatch, NarrowDiff, IfuncOrPlt}
use Rattle.rb_bytes.specs.declared.fault.FaultKind.TheVariants.{AlreadyMoved, BadEntry, BadInstruction, BareAuipc, BadTarget}
use Rattle.rb_bytes.specs.declared.fault.Refusal.{Refusal}
use Rattle.rb_bytes.specs.declared.fault.Refusal.TheVariants as refusal
use Rattle.elf_image.specs.declared.elf.Elf.{Elf}
use Rattle.elf_code.specs.CodeFaults.{HasCodeFault}
use Rattle.rb_bytes.specs.FirstFault.{IsAnswered, IsFree, IsRefusalBy}
use Rattle.elf_code.specs.FunctionFaults.{HasFunctionFault}
use Rattle.elf_code.specs.ReferenceFaults.{HasReferenceFault}

module _ (elf : Elf) (tabled : List (ℕ × ℕ)) where
  of_references : (kind : FaultKind) (place : ℕ) → HasReferenceFault elf tabled kind place → number_of kind ≤ 14
  of_references RelocType place has = omega arith
  of_references RelocMismatch place has = omega arith
  of_references LoMismatch place has = omega arith
  of_references NarrowDiff place has = omega arith
  of_references IfuncOrPlt place has = omega arith
  of_references AlreadyMoved place has = omega arith
  of_references _ place has = absurd has

  of_functions : (kind : FaultKind) (place : ℕ) → HasFunctionFault elf tabled kind place → 15 ≤ number_of kind
  of_functions BadEntry place has = omega arith
  of_functions BadInstruction place has = omega arith
  of_functions BareAuipc place has = omega arith
  of_functions BadTarget place has = omega arith
  of_functions _ place has = absurd has

  pub free_of_both : IsFree (HasReferenceFault elf tabled) → IsFree (HasFunctionFault elf tabled) → IsFree
      (HasCodeFault elf tabled)
  free_of_both references functions = λ kind place has. elim has [
    | inl r ↦ references kind place r
    | inr f ↦ functions kind
        place f
  ]

  answered_reference : (fault : Fault) → IsAnswered (HasReferenceFault elf tabled) fault → IsAnswered
      (HasCodeFault elf tabled) fault
  answered_reference fault is =
      let low = of_references fault.kind fault.place is.present in
      record {
        present = inl is.present;
        first = λ kind below place has. elim has [
          | inl r ↦ is.first kind below place r
          | inr f ↦ let high = of_functions kind place f in absurd (omega (arith, low, high, below))
        ];
        lowest = λ kind place same has. elim has [
          | inl r ↦ is.lowest kind place same r
          | inr f ↦ let high = of_functions kind place f in absurd (omega (arith, low, high, same))
        ];
        alone = is.alone;
      }

  answered_function : (fault : Fault) → IsFree (HasReferenceFault elf tabled) → IsAnswered (HasFunctionFault elf tabled) fault
      → IsAnswered (HasCodeFault elf tabled) fault
  answered_function fault free is = record {
    present = inr is.present;
    first = λ kind below place has. elim has [ inl r ↦ free kind place r | inr f ↦ is.first kind below place f ];
    lowest = λ kind place same has. elim has [ inl r ↦ absurd (free kind place r) | inr f ↦ is.lowest kind place same f ];
    alone = is.alone;
  }

  pub refused_reference : (r : Refusal) → IsRefusalBy (HasReferenceFault elf tabled) r → IsRefusalBy (HasCodeFault elf tabled) r
  refused_reference (refusal.Fault fault) is = answered_reference fault is
  refused_reference refusal.Memory is = tt

  pub refused_function : (r : Refusal) → IsFree (HasReferenceFault elf tabled) → IsRefusalBy (HasFunctionFault elf tabled) r →
      IsRefusalBy (HasCodeFault elf tabled) r
  refused_function (refusal.Fault fault) free is = answered_function fault free is
  refused_function refusal.Memory free is = tt

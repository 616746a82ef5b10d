-- The order of the faults of references, and the consequences of their absence.
use Rattle.std.proofs.Common.{◌≡◌, sym, subst, refl, ℕ, inl, inr, List, map, arith}
use Rattle.std.specs.List.{Contains, All}
use Rattle.rb_bytes.specs.declared.fault.FaultKind.TheVariants.{RelocType, RelocMismatch, LoMismatch, NarrowDiff, IfuncOrPlt, AlreadyMoved}
use Rattle.elf_image.specs.declared.elf.Elf.{Elf}
use Rattle.elf_code.specs.Relocations.{Relocation, relocations}
use Rattle.rb_bytes.specs.FirstFault.{LacksBelow, IsFree}
use Rattle.elf_code.specs.ReferenceFaults.{HasReferenceFault, IsMisfit, IsLoMismatch}
use Rattle.elf_image.proofs.LowestPlaces.{IsLowest-none}
use Rattle.rv_reloc.specs.declared.sweep.Candidate.{Candidate}
use Rattle.rv_reloc.specs.Cells.{HasAddresses}
use Rattle.code_starts.specs.declared.parts.Part.{Part}
use Rattle.rv_reloc.specs.Refs.{AreAsked}
use Rattle.rv_reloc.specs.CountedFields.{as_field, AreCounted}
use Rattle.code_starts.specs.WholeParts.{AreWholeParts}
use Rattle.rv_reloc.proofs.CellLists.{none-bad, of_bad_field}

-- Faults with lower numbers belong to other crates.
pub lacks_others : (elf : Elf) (tabled : List (ℕ × ℕ)) → LacksBelow (HasReferenceFault elf tabled) 9
lacks_others elf tabled RelocType low = absurd (omega arith)
lacks_others elf tabled RelocMismatch low = absurd (omega arith)
lacks_others elf tabled LoMismatch low = absurd (omega arith)
lacks_others elf tabled NarrowDiff low = absurd (omega arith)
lacks_others elf tabled IfuncOrPlt low = absurd (omega arith)
lacks_others elf tabled AlreadyMoved low = absurd (omega arith)
lacks_others elf tabled _ low = λ place has. has

-- Faults with higher numbers belong to other crates, too.
pub lacks_all : (elf : Elf) (tabled : List (ℕ × ℕ)) → LacksBelow (HasReferenceFault elf tabled) 15 →
    IsFree (HasReferenceFault elf tabled)
lacks_all elf tabled lacks RelocType = lacks RelocType (omega arith)
lacks_all elf tabled lacks RelocMismatch = lacks RelocMismatch (omega arith)
lacks_all elf tabled lacks LoMismatch = lacks LoMismatch (omega arith)
lacks_all elf tabled lacks NarrowDiff = lacks NarrowDiff (omega arith)
lacks_all elf tabled lacks IfuncOrPlt = lacks IfuncOrPlt (omega arith)
lacks_all elf tabled lacks AlreadyMoved = lacks AlreadyMoved (omega arith)
lacks_all elf tabled lacks _ = λ place has. has

pub no_misfit : (elf : Elf) (tabled : List (ℕ × ℕ)) → LacksBelow (HasReferenceFault elf tabled) 15 → (r : Relocation) →
    Contains (relocations elf) r → IsMisfit elf r → ⊥
no_misfit elf tabled lacks r counts is =
    lacks RelocMismatch (omega arith) r.place (inl (record { relocation = r; counts = counts; is = is; place_is = refl }))

pub no_mismatch : (elf : Elf) (tabled : List (ℕ × ℕ)) → LacksBelow (HasReferenceFault elf tabled) 15 → (place : ℕ) →
    IsLoMismatch elf place → ⊥
no_mismatch elf tabled lacks place is = lacks LoMismatch (omega arith) place is

pub all_addresses : (elf : Elf) (tabled : List (ℕ × ℕ)) (counted : List Candidate) →
    AreCounted elf tabled (map as_field counted) →
    LacksBelow (HasReferenceFault elf tabled) 15 → All HasAddresses counted
all_addresses elf tabled counted are lacks =
    none-bad counted
    (IsLowest-none (λ p is. lacks RelocMismatch (omega arith) p (inr (of_bad_field elf tabled counted are p is))))

-- Lists as arguments of calls.

pub asked : (elf : Elf) (tabled : List (ℕ × ℕ)) (wholes passed again : List Part) (counted seen : List Candidate) →
    passed ≡ wholes → again ≡ wholes → seen ≡ counted → AreWholeParts elf tabled wholes →
    (AreWholeParts elf tabled passed → AreCounted elf tabled (map as_field counted)) → AreAsked elf tabled again seen
asked elf tabled wholes passed again counted seen e f g are counts = record {
  wholes_are = subst (AreWholeParts elf tabled) (sym f) are;
  counted_are =
      subst (λ (cs : List Candidate). AreCounted elf tabled (map as_field cs)) (sym g)
      (counts (subst (AreWholeParts elf tabled) (sym e) are));
}

-- A property of all items of an argument, or of the list passed.
pub passed_on : {A : Type 0} (P : A → Type 0) (items passed : List A) → passed ≡ items → All P items → All P passed
passed_on P items passed e all = subst (All P) (sym e) all

pub passed_from : {A : Type 0} (P : A → Type 0) (items passed : List A) → passed ≡ items → All P passed → All P items
passed_from P items passed e all = subst (All P) e all

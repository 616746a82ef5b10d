-- Faults of a file's code don't depend on the reading.
use Rattle.std.proofs.Common.{◌≡◌, ◌∙◌, sym, subst, ℕ, inl, inr, List, Option, Some, None, IsTrue, map, arith}
use Rattle.std.specs.Prelude.{IsSomeAnd, nat_eq, codes, ◌%◌, ◌≢◌, option_map}
use Rattle.std.specs.List.{slice_get, starts_with}
use Rattle.std.proofs.lemmas.Option.{slice_get-map}
use Rattle.std.proofs.lemmas.Grind.{common_steps}
use Rattle.rb_bytes.specs.declared.fault.FaultKind.{FaultKind}
use Rattle.rb_bytes.specs.declared.fault.FaultKind.TheVariants as kind
use Rattle.rv_code.specs.declared.inst.Inst.TheVariants.{Auipc}
use Rattle.rv_code.specs.declared.placed.Role.TheVariants.{CallHi}
use Rattle.elf_image.specs.declared.elf.Elf.{Elf}
use Rattle.elf_image.specs.declared.section.Section.{Section}
use Rattle.elf_image.specs.declared.symbol.Symbol.{Symbol}
use Rattle.elf_image.specs.declared.relocation.TheConstants.{R_RISCV_IRELATIVE}
use Rattle.elf_image.specs.declared.symbol.TheConstants.{STT_GNU_IFUNC}
use Rattle.elf_code.specs.Relocations.{Relocation}
use Rattle.elf_code.specs.ReferenceFaults.{IsStubs, IsIfuncOrPlt, IsAlreadyMoved, HasReferenceFault}
use Rattle.elf_code.specs.FunctionFaults.{IsBadEntry, IsBadInstruction, IsBareAuipc, IsInsideInstruction, IsBadTarget, HasFunctionFault}
use Rattle.elf_code.specs.CodeFaults.{HasCodeFault}
use Rattle.elf_readings.proofs.Alike.{bare, bare_symbol, Alike, back, any_alike}
use Rattle.elf_readings.proofs.Parts.{inst_of, starts_of, valid_of}
use Rattle.elf_readings.proofs.Roles.{role_of, no_role_of}
use Rattle.elf_readings.proofs.Misfits.{has_relocation_of, type_of, mismatch_of, lo_mismatch_of, narrow_diff_of}
use Rattle.elf_readings.proofs.Functions.{function_part_of, code_address_of}

abbrev selects : ℕ → Symbol → Type 0
selects place s = (s.info % 16 ≡ STT_GNU_IFUNC) × (s.value ≡ place)

abbrev has_stubs : ℕ → Section → Type 0
has_stubs place s = IsStubs s × (s.size ≢ 0) × (s.addr ≡ place)

abbrev is_selector : Relocation → Type 0
is_selector r = r.kind ≡ R_RISCV_IRELATIVE

ifunc_of : (e e' : Elf) → Alike e e' → (place : ℕ) → IsIfuncOrPlt e place → IsIfuncOrPlt e' place
ifunc_of e e' a place (IsIfuncOrPlt.symbol is) =
    IsIfuncOrPlt.symbol (any_alike bare_symbol (selects place)
    (λ x y same p. subst (selects place) same p) e.symbols.items e'.symbols.items a.symbols is)
ifunc_of e e' a place (IsIfuncOrPlt.section is) =
    IsIfuncOrPlt.section (any_alike bare (has_stubs place)
    (λ x y same p. subst (has_stubs place) same p) e.sections.items e'.sections.items a.sections is)
ifunc_of e e' a place (IsIfuncOrPlt.relocation h) =
    IsIfuncOrPlt.relocation (has_relocation_of e e' a is_selector is_selector (λ r s t is. is) place h)

abbrev is_old : Section → Type 0
is_old s = IsTrue (starts_with nat_eq s.name.now (codes ".old."))

moved_of : (e e' : Elf) → Alike e e' → (index : ℕ) → IsAlreadyMoved e index → IsAlreadyMoved e' index
moved_of e e' a index is =
    from e' (subst (λ (sections : List Section). IsSomeAnd (slice_get sections index) is_old) a.sections (to e is))
  where
    some : (o : Option Section) → IsSomeAnd o is_old → IsSomeAnd (option_map bare o) is_old
    some None is = is
    some (Some s) is = is

    some_back : (o : Option Section) → IsSomeAnd (option_map bare o) is_old → IsSomeAnd o is_old
    some_back None is = is
    some_back (Some s) is = is

    to : (x : Elf) → IsAlreadyMoved x index → IsSomeAnd (slice_get (map bare x.sections.items) index) is_old
    to x is = subst (λ (o : Option Section). IsSomeAnd o is_old) (sym (slice_get-map bare x.sections.items index))
        (some (slice_get x.sections.items index) is)

    from : (x : Elf) → IsSomeAnd (slice_get (map bare x.sections.items) index) is_old → IsAlreadyMoved x index
    from x is = some_back (slice_get x.sections.items index)
        (subst (λ (o : Option Section). IsSomeAnd o is_old) (slice_get-map bare x.sections.items index) is)

bad_entry_of : (e e' : Elf) → Alike e e' → (tabled : List (ℕ × ℕ)) (place : ℕ) → IsBadEntry e tabled place →
    IsBadEntry e' tabled place
bad_entry_of e e' a tabled place b = grind (arith, common_steps, code_address_of, back)

bad_instruction_of : (e e' : Elf) → Alike e e' → (tabled : List (ℕ × ℕ)) (place : ℕ) → IsBadInstruction e tabled place →
    IsBadInstruction e' tabled place
bad_instruction_of e e' a tabled place b = record {
  start = b.start;
  end = b.end;
  function = function_part_of e e' a tabled b.start b.end b.function;
  starts = starts_of e e' a b.start b.end place b.starts;
  invalid = λ inst bytes v. b.invalid inst bytes (valid_of e' e (back e e' a) b.start b.end place inst bytes v);
}

bare_auipc_of : (e e' : Elf) → Alike e e' → (tabled : List (ℕ × ℕ)) (place : ℕ) → IsBareAuipc e tabled place →
    IsBareAuipc e' tabled place
bare_auipc_of e e' a tabled place b = record {
  start = b.start;
  end = b.end;
  function = function_part_of e e' a tabled b.start b.end b.function;
  rd = b.rd;
  imm = b.imm;
  auipc = valid_of e e' a b.start b.end place (Auipc b.rd b.imm) 4 b.auipc;
  no_role = no_role_of e e' a place b.no_role;
}

inside_of : (e e' : Elf) → Alike e e' → (tabled : List (ℕ × ℕ)) (at : ℕ) → IsInsideInstruction e tabled at →
    IsInsideInstruction e' tabled at
inside_of e e' a tabled at i = grind (arith, common_steps, function_part_of, code_address_of, back)

bad_target_of : (e e' : Elf) → Alike e e' → (tabled : List (ℕ × ℕ)) (place : ℕ) → IsBadTarget e tabled place →
    IsBadTarget e' tabled place
bad_target_of e e' a tabled place (IsBadTarget.direct from inst bytes is to goes out) =
    IsBadTarget.direct (code_address_of e e' a tabled place from) inst bytes (inst_of e e' a place inst bytes is) to goes
    (λ code. out (code_address_of e' e (back e e' a) tabled to code))
bad_target_of e e' a tabled place (IsBadTarget.pair from to has inside) =
    IsBadTarget.pair (code_address_of e e' a tabled place from) to (role_of e e' a place (CallHi to) has)
    (inside_of e e' a tabled to inside)

reference_fault_of : (e e' : Elf) → Alike e e' → (tabled : List (ℕ × ℕ)) (k : FaultKind) (place : ℕ) →
    HasReferenceFault e tabled k place → HasReferenceFault e' tabled k place
reference_fault_of e e' a tabled kind.RelocType place f = type_of e e' a place f
reference_fault_of e e' a tabled kind.RelocMismatch place f = mismatch_of e e' a tabled place f
reference_fault_of e e' a tabled kind.LoMismatch place f = lo_mismatch_of e e' a place f
reference_fault_of e e' a tabled kind.NarrowDiff place f = narrow_diff_of e e' a tabled place f
reference_fault_of e e' a tabled kind.IfuncOrPlt place f = ifunc_of e e' a place f
reference_fault_of e e' a tabled kind.AlreadyMoved place f = moved_of e e' a place f
reference_fault_of e e' a tabled _ place f = absurd f

function_fault_of : (e e' : Elf) → Alike e e' → (tabled : List (ℕ × ℕ)) (k : FaultKind) (place : ℕ) →
    HasFunctionFault e tabled k place → HasFunctionFault e' tabled k place
function_fault_of e e' a tabled kind.BadEntry place f = bad_entry_of e e' a tabled place f
function_fault_of e e' a tabled kind.BadInstruction place f = bad_instruction_of e e' a tabled place f
function_fault_of e e' a tabled kind.BareAuipc place f = bare_auipc_of e e' a tabled place f
function_fault_of e e' a tabled kind.BadTarget place f = bad_target_of e e' a tabled place f
function_fault_of e e' a tabled _ place f = absurd f

pub code_fault_of : (e e' : Elf) → Alike e e' → (tabled : List (ℕ × ℕ)) (k : FaultKind) (place : ℕ) →
    HasCodeFault e tabled k place → HasCodeFault e' tabled k place
code_fault_of e e' a tabled k place (inl f) = inl (reference_fault_of e e' a tabled k place f)
code_fault_of e e' a tabled k place (inr f) = inr (function_fault_of e e' a tabled k place f)

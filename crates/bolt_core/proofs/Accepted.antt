-- Properties of an accepted program, and reasons to refuse one.
use Rattle.std.proofs.Common.{◌≡◌, ◌∙◌, ap, sym, subst, ℕ, All, List, Some, None}
use Rattle.rb_bytes.specs.FirstFault.{IsFree, IsRefusalBy}
use Rattle.rb_bytes.specs.declared.fault.Refusal.{Refusal}
use Rattle.rb_bytes.specs.declared.fault.Refusal.TheVariants as refusal
use Rattle.rv_code.specs.declared.layout.Chains.{Chains}
use Rattle.rv_code.specs.declared.placed.Block.{Block}
use Rattle.rv_code.specs.declared.placed.Func.{Func}
use Rattle.rv_code.specs.layout.FunctionLists.{AreLaidOut}
use Rattle.rv_code.specs.layout.FunctionMembers.{IsOfFunction}
use Rattle.rv_code.proofs.lists.Blocks.{blocks_of_functions}
use Rattle.rb_bytes.specs.declared.fault.FaultKind.TheVariants.{Truncated}
use Rattle.elf_image.specs.faults.Truncation.{IsReadable}
use Rattle.elf_image.specs.file.ParsedFile.{IsElfOf}
use Rattle.elf_image.proofs.LowestPlaces.{IsLowest-none}
use Rattle.elf_image.proofs.ReadableFiles.{lowest-readable}
use Rattle.edge_profile.specs.BlockPlaces.{AreBlocksApart}
use Rattle.edge_profile.specs.PairCounts.{Counted}
use Rattle.edge_profile.proofs.BlockLists.{AreApart-blocks}
use Rattle.branch_fixup.specs.Inputs.{AreBlocksOf}
use Rattle.func_place.specs.Faults.{HasPlacementFault}
use Rattle.program.specs.Limits.{IsCodeTooLarge, IsLimitFault}
use Rattle.program.specs.Program.{IsProgramOf, Program, program_of, program_seen}
use Rattle.program.specs.Refusals.{IsRefusalFor, IsUnreadable}
use Rattle.program.specs.Room.{new_start, no_program_room}
use Rattle.program.specs.declared.program.Program.{Program as ReadProgram}
use Rattle.program.proofs.Programs.{laid_out}
use Rattle.addr_map.specs.declared.span.Span.{Span}
use Rattle.bolt_core.specs.Limits.{IsTooLarge}
use Rattle.bolt_core.specs.NewCode.{IsLaidOutBy}
use Rattle.bolt_core.specs.ProfileOrder.{ArePartsBy, ArePartsOf, IsProfileOrder, cold_starts, counts_of}
use Rattle.bolt_core.specs.internal.TableLimits.{IsHeavy}
use Rattle.bolt_core.specs.TableFaults.{HasCarryingFault}
use Rattle.bolt_core.specs.Refusals.{CanStand, Fit, IsInput, IsRefusal, large_code, misplaced, no_place, not_carried, too_heavy}
use Rattle.bolt_core.specs.Refusals.{too_large, unreadable}

-- a program with its functions and blocks as slices
pub same_program : (p : ReadProgram) {funcs : List Func} {blocks : List Block} → funcs ≡ p.funcs.items →
    blocks ≡ p.blocks.items → program_seen p ≡ program_of p.elf funcs p.refs blocks
same_program p same_funcs same_blocks = λ i. program_of p.elf (sym same_funcs i) p.refs (sym same_blocks i)

pub input_of : {file profile : List ℕ} {funcs : List Func} {blocks : List Block} (p : ReadProgram) → funcs ≡ p.funcs.items →
    blocks ≡ p.blocks.items → IsProgramOf file (program_seen p) → Fit file profile →
    IsInput file profile (program_of p.elf funcs p.refs blocks)
input_of {file = file} p same_funcs same_blocks is fit = record {
  program = subst (IsProgramOf file) (same_program p same_funcs same_blocks) is;
  profile_fits = fit.profile_fits;
}

-- an input by its slices
pub as_slices : {file profile : List ℕ} {funcs : List Func} {blocks : List Block} (p : ReadProgram) → funcs ≡ p.funcs.items →
    blocks ≡ p.blocks.items → IsInput file profile (program_seen p) → IsInput file profile (program_of p.elf funcs p.refs blocks)
as_slices {file} {profile} p same_funcs same_blocks is = subst (IsInput file profile) (same_program p same_funcs same_blocks) is

pub start_by : {funcs : List Func} {blocks : List Block} (p : ReadProgram) → funcs ≡ p.funcs.items →
    blocks ≡ p.blocks.items → (start : ℕ) → start ≡ new_start (program_seen p) →
    start ≡ new_start (program_of p.elf funcs p.refs blocks)
start_by p same_funcs same_blocks start is = is ∙ ap (λ (x : Program). new_start x) (same_program p same_funcs same_blocks)

pub stands_by : {funcs : List Func} {blocks : List Block} (p : ReadProgram) → funcs ≡ p.funcs.items →
    blocks ≡ p.blocks.items → IsFree (HasPlacementFault funcs blocks) → IsFree (HasCarryingFault p.elf) →
    no_program_room (program_seen p) ≡ None → CanStand (program_of p.elf funcs p.refs blocks)
stands_by p same_funcs same_blocks placed carried room = record {
  moves = record { placed = placed; carried = carried };
  room = subst (λ (x : Program). no_program_room x ≡ None) (same_program p same_funcs same_blocks) room;
}

pub no_room_by : {funcs : List Func} {blocks : List Block} (p : ReadProgram) → funcs ≡ p.funcs.items →
    blocks ≡ p.blocks.items → (r : Refusal) → IsRefusalFor (λ fault. no_program_room (program_seen p) ≡ Some fault) r →
    IsRefusalFor (λ fault. no_program_room (program_of p.elf funcs p.refs blocks) ≡ Some fault) r
no_room_by p same_funcs same_blocks r is =
    subst (λ (x : Program). IsRefusalFor (λ fault. no_program_room x ≡ Some fault) r) (same_program p same_funcs same_blocks) is

-- reading keeps the bytes of the file
pub read_again : {file : List ℕ} {x : Program} → IsProgramOf file x → IsElfOf x.elf.file.now x.elf
read_again {x = x} is =
    let read = (is.faultless).read in
    subst (λ (f : List ℕ). IsElfOf f x.elf) (sym read.file_is) read

pub readable_again : {file : List ℕ} {x : Program} → IsProgramOf file x → IsReadable x.elf.file.now
readable_again {file} {x} is =
    let plain = (is.faultless).plain in
    let readable : IsReadable file =
    lowest-readable file None (IsLowest-none (λ place truncated. plain.sound Truncated place truncated)) in
    subst IsReadable (sym (is.faultless).read.file_is) readable

pub unreadable_refusal : (file profile : List ℕ) → Fit file profile → (r : Refusal) → IsRefusalFor (IsUnreadable file) r →
    IsRefusal file profile r
unreadable_refusal file profile fit (refusal.Fault fault) is = unreadable fit is
unreadable_refusal file profile fit refusal.Memory is = tt

module _ {file profile : List ℕ} {x : Program} (is : IsInput file profile x) where
  pub laid_program : AreLaidOut x.code.funcs
  laid_program = laid_out file x.elf (is.program).faultless x.code.funcs ((is.program).code_is).funcs

  pub apart_blocks : AreBlocksApart x.blocks
  apart_blocks = AreApart-blocks x.code x.blocks (is.program).blocks_are

  pub stretches : All (IsOfFunction x.code.funcs) x.blocks
  stretches = blocks_of_functions x.code x.blocks (is.program).blocks_are

  pub blocks_of : AreBlocksOf x.code.funcs x.blocks
  blocks_of = record { roles = x.code.roles; cells = x.code.cells; entry = x.code.entry; are = (is.program).blocks_are }

  pub misplaced_refusal : (r : Refusal) → IsRefusalBy (HasPlacementFault x.code.funcs x.blocks) r → IsRefusal file profile r
  misplaced_refusal (refusal.Fault fault) has = misplaced x is has
  misplaced_refusal refusal.Memory has = tt

  pub not_carried_refusal : IsFree (HasPlacementFault x.code.funcs x.blocks) → (r : Refusal) →
      IsRefusalBy (HasCarryingFault x.elf) r → IsRefusal file profile r
  not_carried_refusal placed (refusal.Fault fault) has = not_carried x is placed has
  not_carried_refusal placed refusal.Memory has = tt

  pub no_place_refusal : IsFree (HasPlacementFault x.code.funcs x.blocks) → IsFree (HasCarryingFault x.elf) → (r : Refusal) →
      IsRefusalFor (λ fault. no_program_room x ≡ Some fault) r → IsRefusal file profile r
  no_place_refusal placed carried (refusal.Fault fault) none = no_place x is (record { placed = placed; carried = carried }) none
  no_place_refusal placed carried refusal.Memory none = tt

  pub large_code_refusal : CanStand x → (r : Refusal) →
      IsRefusalFor (IsLimitFault (IsCodeTooLarge x.elf.file.now x.code.funcs)) r → IsRefusal file profile r
  large_code_refusal stands (refusal.Fault fault) limit = large_code x is stands limit
  large_code_refusal stands refusal.Memory limit = tt

  pub too_large_refusal : CanStand x → (pairs : List Counted) (parts : Chains) → ArePartsBy x profile pairs parts →
      (cold : List ℕ) → cold ≡ cold_starts x.code.funcs x.blocks parts → (r : Refusal) →
      IsRefusalFor (IsLimitFault (IsTooLarge x.elf x.code.funcs cold)) r → IsRefusal file profile r
  too_large_refusal stands pairs parts are cold same (refusal.Fault fault) limit =
      too_large x is stands pairs parts are
      (subst (λ (c : List ℕ). IsLimitFault (IsTooLarge x.elf x.code.funcs c) fault) same limit)
  too_large_refusal stands pairs parts are cold same refusal.Memory limit = tt

  -- a table of the file weighs too much
  pub too_heavy_refusal : CanStand x → (pairs : List Counted) (parts : Chains) (cold : List ℕ) →
      cold ≡ cold_starts x.code.funcs x.blocks parts →
      ((place : ℕ) → IsTooLarge x.elf x.code.funcs cold place → ⊥) →
      (order : List ℕ) → IsProfileOrder x profile pairs parts order → (spans : List Span) (code : List ℕ) →
      IsLaidOutBy x order spans code → (r : Refusal) → IsRefusalFor (IsHeavy x.elf spans) r → IsRefusal file profile r
  too_heavy_refusal stands pairs parts cold same fits order ordered spans code laid (refusal.Fault fault) heavy =
      too_heavy x is stands pairs parts
      (subst (λ (c : List ℕ). (place : ℕ) → IsTooLarge x.elf x.code.funcs c place → ⊥) same fits) order ordered spans code laid
      heavy.heavy heavy.fault_is
  too_heavy_refusal stands pairs parts cold same fits order ordered spans code laid refusal.Memory heavy = tt

  pub parts_by : (counts : ℕ → ℕ → ℕ) (pairs : List Counted) (parts : Chains) →
      ArePartsOf counts pairs x.code.funcs x.code.cells x.blocks parts →
      ((from to : ℕ) → counts from to ≡ counts_of x profile from to) → ArePartsBy x profile pairs parts
  parts_by counts pairs parts are counted =
      subst (λ (count : ℕ → ℕ → ℕ). ArePartsOf count pairs x.code.funcs x.code.cells x.blocks parts)
      (let all : counts ≡ counts_of x profile = λ i from to. counted from to i in all) are

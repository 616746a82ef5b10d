-- Why a program can't be rewritten is the same, whichever reading of its file it is taken from.
use Rattle.std.proofs.Common.{◌≡◌, ◌∙◌, ◌<◌, sym, ap, subst, ℕ, List}
use Rattle.rb_bytes.specs.FirstFault.{IsAnswered, IsFree}
use Rattle.rb_bytes.specs.declared.fault.Fault.{Fault}
use Rattle.rb_bytes.specs.declared.fault.FaultKind.{FaultKind}
use Rattle.rv_code.specs.declared.cell.CodeCell.{CodeCell}
use Rattle.rv_code.specs.declared.layout.Chains.{Chains}
use Rattle.rv_code.specs.declared.placed.Block.{Block}
use Rattle.elf_image.specs.file.Header.{e_phnum, e_shnum}
use Rattle.elf_code.specs.FileCode.{IsCodeOf}
use Rattle.elf_readings.proofs.Alike.{Alike, back}
use Rattle.elf_readings.proofs.Readings.{readings_alike}
use Rattle.edge_profile.specs.PairCounts.{Counted}
use Rattle.func_place.specs.Faults.{HasPlacementFault}
use Rattle.area_room.specs.Need.{need}
use Rattle.area_room.specs.RoomFault.{no_room}
use Rattle.cfi_rows.specs.Frames.{tabled}
use Rattle.program.specs.Limits.{IsCodeTooLarge}
use Rattle.program.specs.Program.{IsProgramOf, Program}
use Rattle.program.specs.Room.{no_program_room}
use Rattle.answer_runs.specs.Weights.{weight_limit}
use Rattle.bolt_core.specs.Limits.{IsTooLarge, header_limit, large_code, long_names, many_sections, many_segments}
use Rattle.bolt_core.specs.ProfileOrder.{ArePartsBy, ArePartsOf, cold_starts, counts_of}
use Rattle.bolt_core.specs.Refusals.{CanMove, CanStand}
use Rattle.bolt_core.specs.TableFaults.{HasCarryingFault}
use Rattle.cli_run.proofs.SymbolRunAnswering.{by_count}
use Rattle.cli_run.proofs.TabledRanges.{same_tabled}
use Rattle.refusal_laws.proofs.SameBlocks.{IsSameCode, same_blocks, turned}
use Rattle.refusal_laws.proofs.SameCode.{same_code}
use Rattle.refusal_laws.proofs.SameFunctions.{same_size}
use Rattle.refusal_laws.proofs.SameLimits.{same_carrying, same_names, same_need}
use Rattle.refusal_laws.proofs.SameParts.{same_cold_starts, same_counts, same_parts}
use Rattle.refusal_laws.proofs.SamePlacement.{same_placement}

pub record IsSameProgram (x y : Program) : Type 0 where
  pub alike : Alike x.elf y.elf
  pub code : IsSameCode x.code y.code
  pub blocks : x.blocks ≡ y.blocks

abbrev pub exchanged : (x y : Program) → IsSameProgram x y → IsSameProgram y x
exchanged x y s = record {
  alike = back x.elf y.elf s.alike;
  code = turned x.code y.code s.code;
  blocks = sym s.blocks;
}

pub same_program : (file : List ℕ) (x y : Program) → IsProgramOf file x → IsProgramOf file y → IsSameProgram x y
same_program file x y one other =
    let ranges = same_tabled file x.elf y.elf one.faultless.read other.faultless.read in
    let there = subst (λ (r : List (ℕ × ℕ)). IsCodeOf y.elf r y.code) (sym ranges) other.code_is in
    let code = same_code file x.elf y.elf one.faultless.read other.faultless.read (tabled x.elf) x.code y.code one.code_is there in
    record {
      alike = readings_alike file x.elf y.elf one.faultless.read other.faultless.read;
      code = code;
      blocks = same_blocks x.code y.code code x.blocks y.blocks one.blocks_are other.blocks_are;
    }

-- What holds of one holds of the other.

module _ (P Q : FaultKind → ℕ → Type 0) (to : (k : FaultKind) (p : ℕ) → P k p → Q k p)
    (from : (k : FaultKind) (p : ℕ) → Q k p → P k p) where
  pub answered_by : (f : Fault) → IsAnswered P f → IsAnswered Q f
  answered_by f is = record {
    present = to f.kind f.place is.present;
    first = λ kind below place has. is.first kind below place (from kind place has);
    lowest = λ kind place number has. is.lowest kind place number (from kind place has);
    alone = is.alone;
  }

  pub free_by : IsFree P → IsFree Q
  free_by free = λ kind place has. free kind place (from kind place has)

module _ (x y : Program) (s : IsSameProgram x y) where
  pub placing_by : (kind : FaultKind) (place : ℕ) → HasPlacementFault x.code.funcs x.blocks kind place →
      HasPlacementFault y.code.funcs y.blocks kind place
  placing_by kind place has =
      subst (λ (bs : List Block). HasPlacementFault y.code.funcs bs kind place) s.blocks
      (same_placement x.code.funcs y.code.funcs s.code.funcs x.blocks kind place has)

  pub carrying_by : (kind : FaultKind) (place : ℕ) → HasCarryingFault x.elf kind place → HasCarryingFault y.elf kind place
  carrying_by = same_carrying x.elf y.elf s.alike

  pub same_room : no_program_room x ≡ no_program_room y
  same_room =
      let bytes = same_need x.elf y.elf s.alike x.code.funcs y.code.funcs s.code.funcs x.blocks
      ∙ ap (need y.elf y.code.funcs) s.blocks in
      (λ i. no_room (s.alike.segments i) (bytes i))

  pub large_by : (place : ℕ) → IsCodeTooLarge x.elf.file.now x.code.funcs place → IsCodeTooLarge y.elf.file.now y.code.funcs place
  large_by place is =
      by_count y.elf.file.now x.code.funcs y.code.funcs (same_size x.code.funcs y.code.funcs s.code.funcs) place
      (subst (λ (file : List ℕ). IsCodeTooLarge file x.code.funcs place) s.alike.file is)

  pub too_large_by : (cold : List ℕ) (place : ℕ) → IsTooLarge x.elf x.code.funcs cold place →
      IsTooLarge y.elf y.code.funcs cold place
  too_large_by cold place (large_code is) = large_code (large_by place is)
  too_large_by cold place (many_sections at more) =
      many_sections at (subst (λ (file : List ℕ). header_limit < e_shnum file) s.alike.file more)
  too_large_by cold place (many_segments at more) =
      many_segments at (subst (λ (file : List ℕ). header_limit < e_phnum file) s.alike.file more)
  too_large_by cold place (long_names at more) =
      long_names at (subst (λ (n : ℕ). weight_limit < n)
      (same_names x.elf y.elf s.alike x.code.funcs y.code.funcs s.code.funcs cold cold (λ i. cold)) more)

  pub parts_by : (profile : List ℕ) (pairs : List Counted) (parts : Chains) → ArePartsBy x profile pairs parts →
      ArePartsBy y profile pairs parts
  parts_by profile pairs parts are =
      let counts = same_counts x.elf y.elf s.alike x.code.funcs y.code.funcs s.code.funcs profile in
      subst (λ (cells : List CodeCell). ArePartsOf (counts_of y profile) pairs y.code.funcs cells y.blocks parts) s.code.cells
      (subst (λ (bs : List Block). ArePartsOf (counts_of y profile) pairs y.code.funcs x.code.cells bs parts) s.blocks
      (same_parts x.code.funcs y.code.funcs s.code.funcs x.blocks (counts_of x profile) (counts_of y profile) counts pairs x.code.cells
      parts are))

  pub same_cold : (parts : Chains) → cold_starts x.code.funcs x.blocks parts ≡ cold_starts y.code.funcs y.blocks parts
  same_cold parts =
      same_cold_starts x.code.funcs y.code.funcs s.code.funcs x.blocks parts
      ∙ ap (λ (bs : List Block). cold_starts y.code.funcs bs parts) s.blocks

module _ (x y : Program) (s : IsSameProgram x y) where
  pub can_move : CanMove x → CanMove y
  can_move can = record {
    placed = free_by (HasPlacementFault x.code.funcs x.blocks) (HasPlacementFault y.code.funcs y.blocks) (placing_by x y s)
        (placing_by y x (exchanged x y s)) can.placed;
    carried = free_by (HasCarryingFault x.elf) (HasCarryingFault y.elf) (carrying_by x y s) (carrying_by y x (exchanged x y s)) can.carried;
  }

  pub can_stand : CanStand x → CanStand y
  can_stand can = record { moves = can_move can.moves; room = sym (same_room x y s) ∙ can.room }

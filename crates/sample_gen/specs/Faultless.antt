-- A program has no fault for which a rewrite would refuse it.
use Rattle.std.specs.Prelude.{◌≡◌, ◌≤◌, ℕ, IsTrue, List, None, length}
use Rattle.rb_bytes.specs.FirstFault.{IsFree}
use Rattle.rv_code.specs.layout.ProgramCode.{IsNamed, is_code_address}
use Rattle.elf_image.specs.file.Header.{e_phnum, e_shnum}
use Rattle.addr_map.specs.declared.span.Span.{Span}
use Rattle.addr_map.specs.Spans.{IsMap}
use Rattle.answer_runs.specs.Weights.{weight_limit}
use Rattle.elf_plan.specs.NameWeight.{name_weight}
use Rattle.frame_rewrite.specs.Faults.{IsRegisteredFrames}
use Rattle.func_place.specs.Faults.{HasPlacementFault}
use Rattle.program.specs.Limits.{IsCodeTooLarge, file_limit}
use Rattle.program.specs.Program.{IsProgramOf, Program}
use Rattle.program.specs.Room.{no_program_room}
use Rattle.table_set.specs.TableFaults.{HasTableFault}
use Rattle.table_set.specs.TableLimits.{IsTooHeavy}

-- a valid map of the code of a program
abbrev pub IsCodeMap : Program → List Span → Type 0
IsCodeMap x = IsMap (λ a. IsTrue (is_code_address x.code.funcs a)) (IsNamed x.code)

-- None of the faults of a rewrite is present.
pub record HasNoFault (file profile : List ℕ) (x : Program) : Type 0 where
  -- the file and its code can be read
  pub read : IsProgramOf file x
  pub profile_fits : length profile ≤ file_limit
  -- the code can be placed, and the tables carried
  pub placed : IsFree (HasPlacementFault x.code.funcs x.blocks)
  pub unregistered : (place : ℕ) → IsRegisteredFrames x.elf place → ⊥
  pub tables : IsFree (HasTableFault x.elf)
  -- there is room, and neither code nor headers exceed a limit
  pub room : no_program_room x ≡ None
  pub code_fits : (place : ℕ) → IsCodeTooLarge file x.code.funcs place → ⊥
  pub sections : e_shnum file ≡ 13
  pub segments : e_phnum file ≡ 3
  -- Names don't weigh too much, for any list of cold parts that get a name; nor do tables, for any valid map.
  pub names_fit : (cold : List ℕ) → length cold ≤ length x.code.funcs →
      name_weight x.elf x.code.funcs cold ≤ weight_limit
  pub tables_fit : (spans : List Span) → IsCodeMap x spans → IsTooHeavy x.elf spans → ⊥

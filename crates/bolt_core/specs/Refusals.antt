-- Which files and profiles are refused, for which fault. A fault is only reported if the faults of higher precedence
-- are absent.
use Rattle.std.specs.Prelude.{◌≡◌, ◌≤◌, ◌<◌, ℕ, List, Some, None, length}
use Rattle.rb_bytes.specs.Fault.{fault_at}
use Rattle.rb_bytes.specs.FirstFault.{IsAnswered, IsFree}
use Rattle.rb_bytes.specs.declared.fault.Fault.{Fault}
use Rattle.rb_bytes.specs.declared.fault.FaultKind.TheVariants.{TooLarge}
use Rattle.rb_bytes.specs.declared.limit.TheConstants.{FILE_BYTES, PROFILE_BYTES, WEIGHTS}
use Rattle.rb_bytes.specs.declared.fault.Refusal.{Refusal}
use Rattle.rv_code.specs.declared.layout.Chains.{Chains}
use Rattle.addr_map.specs.declared.span.Span.{Span}
use Rattle.edge_profile.specs.PairCounts.{Counted}
use Rattle.func_place.specs.Faults.{HasPlacementFault}
use Rattle.program.specs.Limits.{IsCodeTooLarge, IsLimitFault, file_limit}
use Rattle.program.specs.Program.{IsProgramOf, Program}
use Rattle.program.specs.Refusals.{IsRefusalFor, IsUnreadable}
use Rattle.program.specs.Room.{no_program_room}
use Rattle.table_set.specs.TableLimits.{IsTooHeavy}
use Rattle.bolt_core.specs.Limits.{IsTooLarge}
use Rattle.bolt_core.specs.NewCode.{IsLaidOutBy}
use Rattle.bolt_core.specs.ProfileOrder.{ArePartsBy, IsProfileOrder, cold_starts}
use Rattle.bolt_core.specs.TableFaults.{HasCarryingFault}

-- neither the file nor the profile is too long
pub record Fit (file profile : List ℕ) : Type 0 where
  pub file_fits : length file ≤ file_limit
  pub profile_fits : length profile ≤ file_limit

-- a file that is read as a program, and a profile that isn't too long
pub record IsInput (file profile : List ℕ) (x : Program) : Type 0 where
  pub program : IsProgramOf file x
  pub profile_fits : length profile ≤ file_limit

-- there is no fault of placement, and no fault of tables that prevents carrying them
pub record CanMove (x : Program) : Type 0 where
  pub placed : IsFree (HasPlacementFault x.code.funcs x.blocks)
  pub carried : IsFree (HasCarryingFault x.elf)

-- there is no such fault, and the new code has room
pub record CanStand (x : Program) : Type 0 where
  pub moves : CanMove x
  pub room : no_program_room x ≡ None

-- The order of precedence: the lengths of the file and of the profile; why the file isn't read as a program; faults of
-- placement; faults of tables; missing room; and then the other limits. Of these, the limits on code come first, since
-- they don't depend on its parts, and the weights of tables are last.
pub data IsRefused (file profile : List ℕ) (fault : Fault) : Type 0 where
  long_file : file_limit < length file → fault ≡ fault_at TooLarge FILE_BYTES → IsRefused file profile fault
  long_profile : length file ≤ file_limit → file_limit < length profile → fault ≡ fault_at TooLarge PROFILE_BYTES →
      IsRefused file profile fault
  unreadable : Fit file profile → IsUnreadable file fault → IsRefused file profile fault
  misplaced : (x : Program) → IsInput file profile x → IsAnswered (HasPlacementFault x.code.funcs x.blocks) fault →
      IsRefused file profile fault
  not_carried : (x : Program) → IsInput file profile x → IsFree (HasPlacementFault x.code.funcs x.blocks) →
      IsAnswered (HasCarryingFault x.elf) fault → IsRefused file profile fault
  no_place : (x : Program) → IsInput file profile x → CanMove x → no_program_room x ≡ Some fault →
      IsRefused file profile fault
  large_code : (x : Program) → IsInput file profile x → CanStand x →
      IsLimitFault (IsCodeTooLarge x.elf.file.now x.code.funcs) fault → IsRefused file profile fault
  too_large : (x : Program) → IsInput file profile x → CanStand x → (pairs : List Counted) (parts : Chains) →
      ArePartsBy x profile pairs parts →
      IsLimitFault (IsTooLarge x.elf x.code.funcs (cold_starts x.code.funcs x.blocks parts)) fault →
      IsRefused file profile fault
  too_heavy : (x : Program) → IsInput file profile x → CanStand x → (pairs : List Counted) (parts : Chains) →
      ((place : ℕ) → IsTooLarge x.elf x.code.funcs (cold_starts x.code.funcs x.blocks parts) place → ⊥) →
      (order : List ℕ) → IsProfileOrder x profile pairs parts order →
      (spans : List Span) (code : List ℕ) → IsLaidOutBy x order spans code → IsTooHeavy x.elf spans →
      fault ≡ fault_at TooLarge WEIGHTS → IsRefused file profile fault

-- the refusal is a fault for which the file or the profile is refused, or memory ran out, which can happen at any time
abbrev pub IsRefusal : List ℕ → List ℕ → Refusal → Type 0
IsRefusal file profile = IsRefusalFor (IsRefused file profile)

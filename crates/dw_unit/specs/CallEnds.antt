-- The ends of a file's calls, and the ends of these calls after they moved.
use Rattle.std.specs.Prelude.{◌≡◌, ◌<◌, ◌^◌, ℕ, List, IsTrue, Some, None}
use Rattle.std.specs.BTreeMap.{BTreeMap, get}
use Rattle.std.specs.Ordering.{nat_cmp}
use Rattle.rv_code.specs.declared.inst.Inst.{Inst}
use Rattle.rv_code.specs.isa.Action.{action_of}
use Rattle.rv_code.specs.layout.Flow.{is_call}
use Rattle.elf_image.specs.declared.elf.Elf.{Elf}
use Rattle.elf_code.specs.Parts.{IsInstAt}
use Rattle.addr_map.specs.declared.span.Span.{Span}
use Rattle.dw_unit.specs.Tables.{IsCallEnd}

-- A call of `bytes` bytes is at address `a`.
pub record HasCall (elf : Elf) (a bytes : ℕ) : Type 0 where
  pub inst : Inst
  pub there : IsInstAt elf a inst bytes
  pub calls : IsTrue (is_call (action_of inst))

-- `ends` maps the end of each call that moved to the end of the moved call, and has no other keys.
pub record AreCallEnds (elf : Elf) (spans : List Span) (ends : BTreeMap ℕ ℕ) : Type 0 where
  pub is : (from to : ℕ) → get nat_cmp ends from ≡ Some to → IsCallEnd elf spans from to
  pub none : (from to : ℕ) → get nat_cmp ends from ≡ None → IsCallEnd elf spans from to → ⊥
  pub below : (from to : ℕ) → get nat_cmp ends from ≡ Some to → to < 2 ^ 64

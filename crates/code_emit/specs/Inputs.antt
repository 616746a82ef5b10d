-- Conditions on code for which new code can be made, and which forms and map belong together.
use Rattle.std.specs.Prelude.{◌≡◌, ◌⊎◌, ℕ, ◌+◌, ◌%◌, ◌^◌, ◌<◌, ◌≤◌, IfSome, List, Option}
use Rattle.rv_code.specs.declared.cell.CellKind.{CellKind}
use Rattle.rv_code.specs.declared.cell.CellKind.TheVariants.{Abs, Diff}
use Rattle.rv_code.specs.declared.cell.CodeCell.{CodeCell}
use Rattle.rv_code.specs.declared.inst.Inst.{Inst}
use Rattle.rv_code.specs.declared.layout.Form.{Form}
use Rattle.rv_code.specs.declared.placed.Placed.{Placed}
use Rattle.rv_code.specs.declared.placed.Role.{Role}
use Rattle.rv_code.specs.declared.placed.Role.TheVariants as role
use Rattle.rv_code.specs.isa.InstBytes.{Decodes}
use Rattle.rv_code.specs.layout.Flow.{target_of}
use Rattle.rv_code.specs.layout.FunctionLists.{address_end}
use Rattle.addr_map.specs.declared.span.Span.{Span}
use Rattle.addr_map.specs.MapText.{AreInLineOrder}
use Rattle.addr_map.specs.Spans.{new}
use Rattle.branch_fixup.specs.Forms.{AreForms, new_code_end}
use Rattle.branch_fixup.specs.Strips.{Strip, spans_of}
use Rattle.rv_code.specs.isa.AddressParts.{IsAuipc, IsLui, TakesLower}

-- A role fits an instruction of `bytes` bytes: the instruction is of the role's kind, and not compressed. The addresses
-- of roles are at most the limit of code.
abbrev pub FitsRole : Role → Inst → ℕ → Type 0
FitsRole role.Plain inst bytes = Unit {0}
FitsRole (role.CallHi target) inst bytes = IsAuipc inst × (bytes ≡ 4) × (target ≤ address_end)
FitsRole (role.CallLo hi target) inst bytes = TakesLower inst × (bytes ≡ 4) × (target ≤ address_end)
    × (hi ≤ address_end)
FitsRole (role.Hi target) inst bytes = IsAuipc inst × (bytes ≡ 4) × (target ≤ address_end)
FitsRole (role.Lo hi target) inst bytes = TakesLower inst × (bytes ≡ 4) × (target ≤ address_end) × (hi ≤ address_end)
FitsRole (role.AbsHi target) inst bytes = IsLui inst × (bytes ≡ 4) × (target ≤ address_end)
FitsRole (role.AbsLo target) inst bytes = TakesLower inst × (bytes ≡ 4) × (target ≤ address_end)

-- an instruction of RV64IMC, with a role that fits it
pub record CanMove (p : Placed) : Type 0 where
  pub half : ℕ
  pub next : Option ℕ
  pub decodes : Decodes half next p.inst p.len
  pub role : FitsRole p.role p.inst p.len

-- Cells have four or eight bytes, and name addresses that are at most the limit.
abbrev pub IsLowKind : CellKind → Type 0
IsLowKind (Abs to) = to ≤ address_end
IsLowKind (Diff to from) = (to ≤ address_end) × (from ≤ address_end)

pub record IsLowCell (c : CodeCell) : Type 0 where
  pub width : (c.width ≡ 4) ⊎ (c.width ≡ 8)
  pub kind : IsLowKind c.kind

-- The forms of blocks in an order, and the spans from an even address on, which end at or below the limit of code. The
-- map has these spans.
pub record AreMapped (ss : List Strip) (fs : List Form) (base : ℕ) (map : List Span) : Type 0 where
  pub forms : AreForms ss base fs
  pub map_is : AreInLineOrder (spans_of ss base fs) map
  pub even : base % 2 ≡ 0
  pub low : new_code_end ss base fs ≤ address_end

pub record HaveMap (ss : List Strip) (fs : List Form) (map : List Span) : Type 0 where
  pub base : ℕ
  pub mapped : AreMapped ss fs base map

-- conditions of functions that make single instructions

-- new addresses of low ones are low
abbrev pub AreLow : List Span → Type 0
AreLow spans = (t : ℕ) → t < 2 ^ 62 → new spans t < 2 ^ 62

abbrev pub IsLowRole : Role → Type 0
IsLowRole role.Plain = Unit {0}
IsLowRole (role.CallHi target) = target < 2 ^ 62
IsLowRole (role.CallLo hi target) = (hi < 2 ^ 62) × (target < 2 ^ 62)
IsLowRole (role.Hi target) = target < 2 ^ 62
IsLowRole (role.Lo hi target) = (hi < 2 ^ 62) × (target < 2 ^ 62)
IsLowRole (role.AbsHi target) = target < 2 ^ 62
IsLowRole (role.AbsLo target) = target < 2 ^ 62

-- the addresses that an instruction of the input names are low
pub record HasLowTargets (p : Placed) : Type 0 where
  pub role : IsLowRole p.role
  pub goal : IfSome (target_of p) (λ t. t < 2 ^ 62)
  pub end : p.addr + p.len < 2 ^ 62

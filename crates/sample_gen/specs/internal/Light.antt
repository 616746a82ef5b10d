-- The conditions that are checked so that all tables and names that are written of a program stay below the weight
-- limit, for any new layout of its code.
use Rattle.std.specs.Prelude.{◌≤◌, ◌==◌, ◌&&◌, ℕ, Bool, not, All, IfSome, IsTrue, List, length}
use Rattle.rv_code.specs.declared.placed.Func.{Func}
use Rattle.rv_code.specs.declared.placed.Placed.{Placed}
use Rattle.elf_image.specs.declared.elf.Elf.{Elf}
use Rattle.answer_runs.specs.Weights.{weight_limit}
use Rattle.table_core.specs.declared.form.TheConstants.{DW_FORM_sec_offset, DW_FORM_rnglistx, DW_FORM_loclistx}
use Rattle.dw_unit.specs.declared.entry.Attr.{Attr}
use Rattle.dw_unit.specs.AbbrevWeight.{abbrev_weight}
use Rattle.dw_unit.specs.CompUnits.{Sections}
use Rattle.dw_unit.specs.Faults.{is_located}
use Rattle.dw_unit.specs.ListedEntries.{ListedEntry, listed_entries}
use Rattle.dw_unit.specs.Tables.{sections_of}
use Rattle.line_rewrite.specs.Tables.{LineSections, line_at, line_sections}

-- an attribute that has no index of a list, and refers to no location list
abbrev pub is_listless : Attr → Bool
is_listless a =
    not (a.form == DW_FORM_rnglistx) && not (a.form == DW_FORM_loclistx)
    && not (is_located a.name && a.form == DW_FORM_sec_offset)

-- few debugging entries, no attribute that uses a list, and light abbreviations
pub record AreLightUnits (s : Sections) : Type 0 where
  pub few : length (listed_entries s) ≤ 1001
  pub listless : All (λ (e : ListedEntry). All (λ a. IsTrue (is_listless a)) e.attrs) (listed_entries s)
  pub declarations : abbrev_weight s ≤ weight_limit

-- at most one row of line programs applies to an address
abbrev pub HasOneRow : LineSections → ℕ → Type 0
HasOneRow s a = IfSome (line_at s a) (λ said. length said.rows ≤ 1)

-- a function with few instructions, each with at most one row
pub record IsLightFunc (s : LineSections) (f : Func) : Type 0 where
  pub few : length f.insts.items ≤ 12
  pub rows : All (λ (p : Placed). HasOneRow s p.addr) f.insts.items

-- few such functions
pub record AreLightFuncs (s : LineSections) (funcs : List Func) : Type 0 where
  pub few : length funcs ≤ 1001
  pub light : All (IsLightFunc s) funcs

-- conditions that keep all tables of a file with these functions light
pub record AreLightTables (elf : Elf) (funcs : List Func) : Type 0 where
  pub units : AreLightUnits (sections_of elf)
  pub functions : AreLightFuncs (line_sections elf) funcs

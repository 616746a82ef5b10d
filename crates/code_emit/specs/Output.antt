-- An output that was written with the new code.
use Rattle.std.specs.Prelude.{◌≡◌, ℕ, ◌+◌, ◌%◌, ◌^◌, ◌<◌, List, Some, length, slice_index}
use Rattle.rv_code.specs.declared.cell.CodeCell.{CodeCell}
use Rattle.rv_code.specs.declared.placed.Func.{Func}
use Rattle.addr_map.specs.declared.span.Span.{Span}
use Rattle.move_law.specs.Rewrite.{Rewrite}
use Rattle.elf_image.specs.memory.Executables.{Executable, AreCodeBytes, memory_of}
use Rattle.code_emit.specs.NewInsts.{cell_number}

-- an executable has these bytes from an address on, and they may be executed and not written
pub record HasCode (x : Executable) (base : ℕ) (code : List ℕ) : Type 0 where
  pub bytes : (i : ℕ) → i < length code → memory_of x (base + i) ≡ Some (slice_index code i)
  pub rights : AreCodeBytes x base (length code)

-- a rewrite of these functions, with this map and this code at an address
pub record Puts (r : Rewrite) (funcs : List Func) (map : List Span) (base : ℕ) (code : List ℕ) : Type 0 where
  pub funcs_are : r.code.funcs ≡ funcs
  pub spans_are : r.spans ≡ map
  pub has_code : HasCode r.output base code

-- a code cell's address, width and new content
abbrev pub new_cell : (ℕ → ℕ) → CodeCell → ℕ × ℕ × ℕ
new_cell new c = (c.addr, c.width, cell_number new c.kind % 256 ^ c.width)

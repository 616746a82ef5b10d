-- A file that was read has the code of a sample.
use Rattle.std.specs.Prelude.{◌≡◌, ℕ, List, map, filter}
use Rattle.rv_code.specs.declared.cell.CodeCell.{CodeCell}
use Rattle.rv_code.specs.declared.placed.Func.{Func}
use Rattle.elf_image.specs.declared.elf.Elf.{Elf}
use Rattle.elf_image.specs.declared.symbol.Symbol.{Symbol}
use Rattle.elf_image.specs.file.Cuts.{names_function}
use Rattle.sample_file.specs.SampleCode.{FuncShape, SymbolShape, function_at, sample_functions, sample_cells}
use Rattle.sample_file.specs.SampleCode.{sample_symbols}

abbrev pub func_shape : Func → FuncShape
func_shape f = record { start = f.start; end = f.end; insts = f.insts.items }

abbrev pub symbol_shape : Symbol → SymbolShape
symbol_shape s = record { name = s.name.now; value = s.value; size = s.size }

-- the symbols that name functions, in the order of the table
abbrev pub function_symbols : List Symbol → List SymbolShape
function_symbols symbols = map symbol_shape (filter names_function symbols)

-- The functions with their instructions, the data fields with code addresses, and the symbols that name functions.
-- The file's flags allow no compressed instructions.
pub record HasSampleCode (n : ℕ) (elf : Elf) (funcs : List Func) (cells : List CodeCell) : Type 0 where
  pub functions : map func_shape funcs ≡ sample_functions n
  pub cells_are : cells ≡ sample_cells n
  pub symbols : function_symbols elf.symbols.items ≡ sample_symbols n
  pub entry : elf.entry ≡ function_at n
  pub flags : elf.flags ≡ 0

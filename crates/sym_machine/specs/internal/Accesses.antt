-- The bytes that loads and stores move, in the terms of the code.
use Rattle.std.specs.Prelude.{ℕ, List, Option, map}
use Rattle.rv_code.specs.declared.action.Action.{Action}
use Rattle.rv_code.specs.declared.action.Action.TheVariants.{Store, SystemCall}
use Rattle.rv_code.specs.declared.action.Extension.{Extension}
use Rattle.rv_code.specs.machine.Machine.{low_bytes}
use Rattle.sym_machine.specs.declared.accesses.Stored.{Stored}
use Rattle.sym_machine.specs.declared.accesses.Stored.TheVariants as store
use Rattle.sym_machine.specs.declared.memory.SymbolBytes.{SymbolBytes}
use Rattle.sym_machine.specs.declared.value.Value.{Value}
use Rattle.sym_machine.specs.declared.value.MemoryByte.{MemoryByte}
use Rattle.sym_machine.specs.declared.value.MemoryByte.TheVariants.{Byte}
use Rattle.sym_machine.specs.Values.{symbol_bytes}
use Rattle.sym_machine.specs.Rules.{piece}

-- the bytes of memory that a store of n bytes leaves
abbrev pub stored_bytes : ℕ → Stored → List MemoryByte
stored_bytes n (store.Number x) = map Byte (low_bytes n x)
stored_bytes n (store.Symbol from) = symbol_bytes from.symbol from.width from.first n

abbrev pub symbol_piece : Extension → SymbolBytes → Option Value
symbol_piece e from = piece e from.symbol from.width from.first

-- an action that is neither a store nor a system call
abbrev pub ChangesRegistersOnly : Action → Type 0
ChangesRegistersOnly (Store n rs1 rs2 imm) = ⊥
ChangesRegistersOnly SystemCall = ⊥
ChangesRegistersOnly _ = Unit {0}

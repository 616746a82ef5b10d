-- The cache of instructions.
use Rattle.std.specs.Prelude.{◌≡◌, ℕ, ◌<◌, List, length, option_map, slice_index_or}
use Rattle.rv_code.specs.declared.placed.Func.{Func}
use Rattle.rv_code.specs.declared.placed.Placed.{Placed}
use Rattle.rv_code.specs.layout.Flow.{action_at}
use Rattle.sym_machine.specs.declared.known.Decoded.{Decoded}
use Rattle.sym_machine.specs.declared.known.KnownInst.{KnownInst}
use Rattle.sym_machine.specs.declared.known.KnownInsts.{KnownInsts}
use Rattle.sym_machine.specs.SymStep.{instruction}

abbrev pub decoded_inst : Placed → Decoded
decoded_inst p = record { action = action_at p; role = p.role; length = p.len }

-- the entry has the instruction at its address, if there is one
abbrev pub IsKnown : List Func → KnownInst → Type 0
IsKnown funcs e = e.found ≡ option_map decoded_inst (instruction funcs e.address)

pub record AreKnown (funcs : List Func) (known : KnownInsts) : Type 0 where
  pub at : (k : ℕ) (d : KnownInst) → k < length known.entries.items →
      IsKnown funcs (slice_index_or known.entries.items k d)

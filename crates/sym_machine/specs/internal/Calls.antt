-- The arguments of a call that moves bytes, in the terms of the code.
use Rattle.std.specs.Prelude.{ℕ, Option, Some, None}
use Rattle.rv_code.specs.machine.Step.{a0, a1, a2}
use Rattle.sym_machine.specs.declared.calls.Buffer.{Buffer}
use Rattle.sym_machine.specs.declared.value.Value.{Value}
use Rattle.sym_machine.specs.Values.{number}

abbrev pub buffer_of : Option ℕ → Option ℕ → Option ℕ → Option Buffer
buffer_of (Some x) (Some y) (Some z) = Some (record { file = x; address = y; size = z })
buffer_of _ _ _ = None

abbrev pub buffer_in : (ℕ → Value) → Option Buffer
buffer_in registers = buffer_of (number (registers a0)) (number (registers a1)) (number (registers a2))

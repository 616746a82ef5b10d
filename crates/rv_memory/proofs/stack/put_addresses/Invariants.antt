use Rattle.std.proofs.Common.{◌≡◌, ◌≤◌, ◌+◌, ◌++◌, ◌∷◌, ◌^◌, [], drop, length}
use Rattle.std.specs.Prelude.{flat_map, map, string_bytes}
use Rattle.rv_code.specs.machine.Machine.{low_bytes}
use Rattle.rv_memory.specs.Start.{text_addresses, program_arguments}
use Rattle.rv_memory.proofs.stack.put_addresses.Given as goal

abbrev pub invariant-loop-arg : goal.invariant-loop-arg
invariant-loop-arg l = record {
  written : l.out.items ++ flat_map (low_bytes 8) (text_addresses l.next (map string_bytes (drop l.arg-index l.args)))
      ≡ l.fn.out.items ++ flat_map (low_bytes 8) (text_addresses l.address (program_arguments (map string_bytes l.args)));
  room : l.next + length (flat_map (λ text. text ++ 0 ∷ []) (map string_bytes (drop l.arg-index l.args))) ≤ 2 ^ 38;
}

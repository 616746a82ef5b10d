use Rattle.std.proofs.Common.{◌≡◌, ◌++◌, ◌∷◌, [], drop}
use Rattle.std.specs.Prelude.{flat_map, map, string_bytes}
use Rattle.rv_memory.specs.Start.{texts}
use Rattle.rv_memory.proofs.stack.texts.Given as goal

abbrev pub invariant-loop-arg : goal.invariant-loop-arg
invariant-loop-arg l =
    l.out.items ++ flat_map (λ text. text ++ 0 ∷ []) (map string_bytes (drop l.arg-index l.args))
    ≡ texts (map string_bytes l.args)

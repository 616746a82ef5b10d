use Rattle.std.proofs.Common.{◌≡◌, ◌++◌, drop, map}
use Rattle.table_core.specs.DebugUnits.{Walked}
use Rattle.line_rewrite.specs.LineTable.{moved_units}
use Rattle.line_rewrite.proofs.write_runs.paired.Given as goal

abbrev pub invariant-loop-i : goal.invariant-loop-i
invariant-loop-i l =
    l.lists.items ++ moved_units (map (λ (w : Walked). w.place) (drop l.i l.olds)) (map (λ (w : Walked). w.place) (drop l.i l.news))
    ≡ moved_units (map (λ (w : Walked). w.place) l.olds) (map (λ (w : Walked). w.place) l.news)

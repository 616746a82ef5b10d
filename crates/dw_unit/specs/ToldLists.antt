-- The codes of a list of declarations, and whether each names no attribute twice.
use Rattle.std.specs.Prelude.{ℕ, Bool, List, map}
use Rattle.dw_unit.specs.declared.declaration as declaration
use Rattle.dw_unit.specs.CompUnits.{are_named_once}

abbrev pub codes_of : List declaration.Declaration.Declaration → List ℕ
codes_of ds = map (λ (d : declaration.Declaration.Declaration). d.code) ds

abbrev pub told_once : List declaration.Declaration.Declaration → List Bool
told_once ds = map (λ (d : declaration.Declaration.Declaration). are_named_once d.specs.items) ds

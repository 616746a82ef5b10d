use Rattle.std.proofs.Common.{◌≡◌, ◌++◌, ℕ, List, take}
use Rattle.dw_lists.specs.Weights as spec
use Rattle.dw_lists.proofs.indexed_unit.greatest_in.Given as goal

abbrev pub invariant-loop-attr : goal.invariant-loop-attr
invariant-loop-attr l =
    (before : List ℕ) → l.fn.others ≡ spec.greatest before → l.greatest ≡ spec.greatest
    (before ++ spec.indexes_in l.form (take l.attr-index l.attrs))

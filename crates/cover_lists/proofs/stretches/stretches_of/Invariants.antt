use Rattle.std.proofs.Common.{Some}
use Rattle.answer_runs.specs.AnswerRuns.{said_runs}
use Rattle.answer_runs.proofs.NewCode.{AreMade}
use Rattle.cover_lists.specs.Stretches.{bounds_before}
use Rattle.cover_lists.proofs.stretches.stretches_of.Given as goal

abbrev pub invariant-loop-i : goal.invariant-loop-i
invariant-loop-i l = AreMade (λ a. Some (bounds_before l.bounds a)) l.map l.i (said_runs (bounds_before l.bounds) l.stretches.items)

use Rattle.std.proofs.Common.{take}
use Rattle.rb_bytes.specs.Lists.{Gains}
use Rattle.rb_bytes.proofs.Gains.{Given}
use Rattle.jump_tables.specs.TablePairs.{IsPairOf}
use Rattle.jump_tables.proofs.table_pairs.tables.Given as goal

abbrev pub invariant-loop-func : goal.invariant-loop-func
invariant-loop-func l =
    Gains l.initial.pairs.items l.pairs.items
    (Given (λ f e. IsPairOf f.insts.items l.named.items e) (take l.func-index l.funcs))

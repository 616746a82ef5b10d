use Rattle.std.proofs.Common.{◌≡◌, take}
use Rattle.rb_bytes.specs.Lists.{Gains}
use Rattle.rb_bytes.proofs.Gains.{Given}
use Rattle.jump_tables.proofs.table_pairs.push_row.Given as goal

abbrev pub invariant-loop-label : goal.invariant-loop-label
invariant-loop-label l =
    Gains l.initial.pairs.items l.pairs.items (Given (λ a e. (l.jump, a) ≡ e) (take l.label-index l.labels))

use Rattle.std.proofs.Common.{◌≡◌, take}
use Rattle.rb_bytes.specs.Lists.{Gains}
use Rattle.rb_bytes.proofs.Gains.{Given}
use Rattle.cfg_build.proofs.edge_lists.push_table.Given as goal

abbrev pub invariant-loop-pair : goal.invariant-loop-pair
invariant-loop-pair l =
    Gains l.initial.leads.items l.leads.items (Given (λ e a. e.1 ≡ a) (take l.pair-index l.pair-items))

use Rattle.std.proofs.Common.{◌≡◌, take}
use Rattle.rv_code.specs.layout.Edges.{IsTableJump}
use Rattle.rb_bytes.specs.Lists.{Gains}
use Rattle.rb_bytes.proofs.Gains.{Given}
use Rattle.jump_tables.specs.TablePairs.{IsLabel}
use Rattle.jump_tables.proofs.table_pairs.push_pairs.Given as goal

abbrev pub invariant-loop-inst : goal.invariant-loop-inst
invariant-loop-inst l =
    Gains l.initial.pairs.items l.pairs.items
    (Given (λ p e. ((p.addr ≡ e.0) × IsTableJump p) × IsLabel l.insts l.named e.1) (take l.inst-index l.insts))

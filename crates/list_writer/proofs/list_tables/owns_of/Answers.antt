use Rattle.std.proofs.Common.{nat_cmp}
use Rattle.std.specs.BTreeSet.{contains}
use Rattle.list_writer.proofs.UnitSteps.{own_more}
use Rattle.list_writer.proofs.list_tables.owns_of.Goals as goal

pub loop-entry-preserved : goal.loop-entry-preserved
loop-entry-preserved c = λ o.
    own_more o c.args.named.now c.loop-entry.entry-index _ (contains nat_cmp c.loop-entry.owns o) (contains nat_cmp c.insert.new.self o)
    c.loop-entry-test.true (c.in_ok-insert.ensures.updates.0 o) (c.loop-entry.invariant o)

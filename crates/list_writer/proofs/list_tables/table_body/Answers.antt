use Rattle.std.proofs.Common.{subst}
use Rattle.std.proofs.lemmas.List.{take_all}
use Rattle.list_writer.specs.WrittenTables.{ArePut}
use Rattle.list_writer.proofs.PutEntries.{longer_more, longer_same, none_listed, none_put, put_taken}
use Rattle.list_writer.proofs.list_tables.table_body.Goals as goal

pub loop-entry-init : goal.loop-entry-init
loop-entry-init c = (
  none_listed c.args.lists.now c.in_ok-bytes.bytes.items c.new-known.result c.new-known.ensures.empty,
  longer_same _ c.in_ok-bytes.bytes.items c.in_ok-bytes.ensures,
  λ kind lo own n up.
      none_put kind c.args.lists.now c.args.start lo own c.in_ok-bytes.bytes.items c.new-indexes.result c.args.names.now.items
      c.new-indexes.ensures.empty n,
)

pub loop-entry-preserved : goal.loop-entry-preserved
loop-entry-preserved c = (
  c.in_ok-add_entry.ensures.listed.listed,
  longer_more _ c.loop-entry.bytes.items c.add_entry.new.body.items c.loop-entry.invariant.1 c.in_ok-add_entry.ensures.listed.longer,
  λ kind lo own n up.
      put_taken kind c.args.lists.now c.args.start lo own c.args.entries.now c.loop-entry.entry-index _ c.loop-entry.bytes.items
      c.add_entry.new.body.items
      c.add_entry.new.known c.loop-entry.indexes c.add_entry.new.indexes c.args.names.now.items c.loop-entry.names.items
      c.add_entry.new.names.items
      c.loop-entry-test.true up (c.loop-entry.invariant.2 kind lo own n up) c.in_ok-add_entry.ensures,
)

pub returns : goal.returns
returns c = record {
  first = c.loop-entry.invariant.1;
  put = λ kind lo own n up.
      subst (ArePut kind c.args.lists.now c.args.start lo own c.loop-entry.bytes.items c.loop-entry.indexes c.args.names.now.items
      c.loop-entry.names.items)
      (take_all c.loop-entry.entry-index c.args.entries.now c.loop-entry-test.false) (c.loop-entry.invariant.2 kind lo own n up);
}

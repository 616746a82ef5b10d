use Rattle.std.proofs.Common.{◌<◌, ◌-◌, ◌^◌, ℕ, subst}
use Rattle.list_writer.proofs.UnitTables.{joined_table}
use Rattle.list_writer.proofs.list_tables.put_table.Goals as goal

pub returns : goal.returns
returns c = record {
  bytes = joined_table c.args.count c.args.indexes.now c.args.body.now c.args.out.now.items c.put_u32.new.out.items
      c.put_header.new.out.items
      c.put_offsets.new.out.items c.extend_from_slice.new.self.items c.in_ok-len.len c.in_ok-len.ensures.0 c.in_ok-put_u32.ensures
      c.in_ok-put_header.ensures c.in_ok-put_offsets.ensures.written c.in_ok-extend_from_slice.ensures.items;
  small = subst (λ (n : ℕ). n < 2 ^ 32 - 1) c.in_ok-len.ensures.0 c.in_ok-len.ensures.1;
  low = c.in_ok-put_offsets.ensures.low;
}

use Rattle.std.proofs.Common.{arith}
use Rattle.addr_rewrite.proofs.TableSteps.{table_parts}
use Rattle.addr_rewrite.proofs.put_tables.put_table.Goals as goal

pub returns : goal.returns
returns c =
    table_parts c.args.unit _ c.args.stretches.now c.args.out.now.items c.put_u32.new.out.items c.put_u16.new.out.items
    c.put_u32-2.new.out.items
    c.put_u16-2.new.out.items c.put_u32-3.new.out.items c.put_pairs.new.out.items (omega arith) c.in_ok-put_u32.ensures
    c.in_ok-put_u16.ensures c.in_ok-put_u32-2.ensures c.in_ok-put_u16-2.ensures c.in_ok-put_u32-3.ensures c.in_ok-put_pairs.ensures

use Rattle.std.proofs.Common.{arith}
use Rattle.line_rewrite.proofs.UnitSizes.{unit_length, unit_parts}
use Rattle.line_rewrite.proofs.unit_writer.put_unit.Goals as goal

pub returns : goal.returns
returns c =
    let h = c.args.header.now in
    let program = c.args.program.now in
    unit_parts h program c.args.out.now.items c.put_u32.new.out.items c.put_bytes.new.out.items c.put_u32-2.new.out.items
    c.put_fields.new.out.items
    c.put_bytes-2.new.out.items _ _ (omega (arith, unit_length h program))
    (omega (arith, unit_length h program)) c.in_ok-put_u32.ensures c.in_ok-put_bytes.ensures
    c.in_ok-put_u32-2.ensures c.in_ok-put_fields.ensures c.in_ok-put_bytes-2.ensures

pub overflow_add-len-2 : goal.overflow_add-len-2
overflow_add-len-2 c = grind (arith, unit_length c.args.header.now c.args.program.now)

pub overflow_cast-len : goal.overflow_cast-len
overflow_cast-len c = grind (arith, unit_length c.args.header.now c.args.program.now)

pub overflow_cast-fields : goal.overflow_cast-fields
overflow_cast-fields c = grind (arith, unit_length c.args.header.now c.args.program.now)

use Rattle.std.proofs.Common.{◌≡◌, ◌<◌, ◌∙◌, length, get_or, arith}
use Rattle.std.proofs.lemmas.Grind.{get_or_default_zero}
use Rattle.addr_map.proofs.Owners.{inside_columns, slice_get_spans}
use Rattle.addr_map.proofs.new_order.NewOrder.line.Goals as goal

pub offset_bounds-members-i : goal.offset_bounds-members-i
offset_bounds-members-i c =
    let inside = inside_columns c.self.invariant c.self.view_is c.requires in
    let small : c.args.i < length c.members.result.now = rw c.members.ensures inside in
    omega (arith, small, c.members.type_inv)

pub bounds-members-i : goal.bounds-members-i
bounds-members-i c = rw c.members.ensures (inside_columns c.self.invariant c.self.view_is c.requires)

pub index-requires : goal.index-requires
index-requires c =
    let inside = inside_columns c.self.invariant c.self.view_is c.requires in
    omega (arith, inside, c.self.invariant.lens_count, c.self.inside.lens.ok)

pub index-requires-2 : goal.index-requires-2
index-requires-2 c =
    let inside = inside_columns c.self.invariant c.self.view_is c.requires in
    omega (arith, inside, c.self.invariant.inputs_count, c.self.inside.inputs.ok)

pub returns : goal.returns
returns c =
    let m = c.self.inside in
    let i = c.self.invariant in
    let inside = inside_columns i c.self.view_is c.requires in
    let len : c.index.result.now ≡ get_or m.lens.items c.args.i 0
    = c.index.ensures ∙ get_or_default_zero m.lens.items c.args.i c.index.result.now (omega (arith, inside, i.lens_count)) in
    let input : c.index-2.result.now ≡ get_or m.inputs.items c.args.i 0
    = c.index-2.ensures ∙ get_or_default_zero m.inputs.items c.args.i c.index-2.result.now
    (omega (arith, inside, i.inputs_count)) in
    rw (← c.self.view_is, c.members.ensures, len, input)
    (slice_get_spans m.outs m.lens.items m.inputs.items c.args.i i.lens_count i.inputs_count inside)

use Rattle.std.proofs.Common.{◌≡◌, ◌<◌, ◌∙◌, Some, length, get_or, sym, ap, arith}
use Rattle.std.proofs.lemmas.Grind.{get_or_default_zero}
use Rattle.addr_map.proofs.Owners.{held_at, holder_inside, holder_low, owner_low, owner_here, owner_other}
use Rattle.addr_map.proofs.new_order.NewOrder.owner.Goals as goal

pub returns-then-count-eq0 : goal.returns-then-count-eq0
returns-then-count-eq0 c =
    rw (← c.self.view_is) (sym (owner_low c.args.p c.self.invariant (sym c.rank-count.ensures ∙ c.if-count-eq0.true)))

pub bounds-members-holder : goal.bounds-members-holder
bounds-members-holder c =
    let h = held_at c.self.invariant c.rank-count.ensures c.if-count-eq0.false c.index-held.ensures in
    rw c.members.ensures (holder_inside h)

pub offset_bounds-members-holder : goal.offset_bounds-members-holder
offset_bounds-members-holder c =
    let holder = c.index-held.result.now in
    let h = held_at c.self.invariant c.rank-count.ensures c.if-count-eq0.false c.index-held.ensures in
    let inside : holder < length c.members.result.now = rw c.members.ensures (holder_inside h) in
    omega (arith, inside, c.members.type_inv)

pub index-requires : goal.index-requires
index-requires c =
    let h = held_at c.self.invariant c.rank-count.ensures c.if-count-eq0.false c.index-held.ensures in
    omega (arith, holder_inside h, c.self.invariant.lens_count, c.self.inside.lens.ok)

pub index-requires-then-p-members : goal.index-requires-then-p-members
index-requires-then-p-members c =
    let h = held_at c.self.invariant c.rank-count.ensures c.if-count-eq0.false c.index-held.ensures in
    omega (arith, holder_inside h, c.self.invariant.inputs_count, c.self.inside.inputs.ok)

pub overflow_sub-p : goal.overflow_sub-p
overflow_sub-p c =
    let h = held_at c.self.invariant c.rank-count.ensures c.if-count-eq0.false c.index-held.ensures in
    rw c.members.ensures (holder_low h)

pub returns-then-p-members : goal.returns-then-p-members
returns-then-p-members c =
    let m = c.self.inside in
    let holder = c.index-held.result.now in
    let h = held_at c.self.invariant c.rank-count.ensures c.if-count-eq0.false c.index-held.ensures in
    let inside = holder_inside h in
    let len : c.index.result.now ≡ get_or m.lens.items holder 0
    = c.index.ensures ∙ get_or_default_zero m.lens.items holder c.index.result.now
    (omega (arith, inside, c.self.invariant.lens_count)) in
    let input : c.index-then-p-members.result.now ≡ get_or m.inputs.items holder 0
    = c.index-then-p-members.ensures
    ∙ get_or_default_zero m.inputs.items holder c.index-then-p-members.result.now
    (omega (arith, inside, c.self.invariant.inputs_count)) in
    let near = rw c.members.ensures at c.if-p-members.true in
    rw (← c.self.view_is) (ap Some input ∙ sym (owner_here h (omega (arith, near, len, holder_low h))))

pub returns-else-p-members : goal.returns-else-p-members
returns-else-p-members c =
    let m = c.self.inside in
    let holder = c.index-held.result.now in
    let h = held_at c.self.invariant c.rank-count.ensures c.if-count-eq0.false c.index-held.ensures in
    let inside = holder_inside h in
    let len : c.index.result.now ≡ get_or m.lens.items holder 0
    = c.index.ensures ∙ get_or_default_zero m.lens.items holder c.index.result.now
    (omega (arith, inside, c.self.invariant.lens_count)) in
    let far = rw c.members.ensures at c.if-p-members.false in
    rw (← c.self.view_is) (sym (owner_other h (omega (arith, far, len, holder_low h))))

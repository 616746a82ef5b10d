use Rattle.std.proofs.Common.{◌≡◌, ◌∙◌, ◌+◌, ◌-◌, ◌<◌, ℕ, List, length, map, Option, arith, refl, sym, ap, subst}
use Rattle.std.specs.Prelude.{AllPairs, unwrap_or}
use Rattle.rv_code.specs.layout.ProgramCode.{ProgramCode, program_code}
use Rattle.rv_code.specs.layout.Blocks.{block_start}
use Rattle.branch_fixup.specs.BlockInsts.{seen}
use Rattle.branch_fixup.specs.Ends.{AreEnds, IsShortest, begins_of, lead_of}
use Rattle.branch_fixup.specs.Lookup.{Finds}
use Rattle.branch_fixup.specs.Strips.{strips_of}
use Rattle.branch_fixup.proofs.Holders.{starts_up, starts_length, last_there}
use Rattle.branch_fixup.proofs.Orders.{order_length, order_all_within, order_differ}
use Rattle.branch_fixup.proofs.Planned.{planned}
use Rattle.branch_fixup.proofs.BlockEndsFound.{last_after, block_end_made, ends_more}
use Rattle.branch_fixup.proofs.ends.ends.Goals as goal

pub places_in-requires-clause-below : goal.places_in-requires-clause-below
places_in-requires-clause-below c = λ k d within.
    let len = order_length c.args.blocks.now c.args.order.now c.requires.order in
    let h = order_all_within c.args.blocks.now c.args.order.now c.requires.order k d within in
    omega (arith, len, h)

pub places_in-requires-clause-differ : goal.places_in-requires-clause-differ
places_in-requires-clause-differ c = order_differ c.args.blocks.now c.args.order.now c.requires.order

pub find-to-requires-clause-ascending : goal.find-to-requires-clause-ascending
find-to-requires-clause-ascending c =
    let are = c.requires.blocks in
    subst (λ (xs : List ℕ). AllPairs (λ a b. a < b) xs) (sym (c.deref.ensures.value ∙ c.in_ok-starts.ensures))
    (starts_up (program_code c.args.funcs.now are.roles are.cells are.entry) c.args.blocks.now c.requires.laid are.are)

pub find-to-requires-clause-one_each : goal.find-to-requires-clause-one_each
find-to-requires-clause-one_each c =
    let are = c.requires.blocks in
    ap length c.deref-in-loop-k.ensures.value ∙ c.in_ok-places.ensures.length
    ∙ order_length c.args.blocks.now c.args.order.now c.requires.order
    ∙ sym (starts_length (program_code c.args.funcs.now are.roles are.cells are.entry) c.args.blocks.now c.requires.laid
    are.are) ∙ ap length (sym (c.deref.ensures.value ∙ c.in_ok-starts.ensures))

pub overflow_sub-block : goal.overflow_sub-block
overflow_sub-block c =
    let are = c.requires.blocks in
    let code : ProgramCode = program_code c.args.funcs.now are.roles are.cells are.entry in
    let s = seen c.planned-block.result in
    let plan = planned code c.args.blocks.now are.are c.args.order.now c.requires.order c.loop-k.k s c.planned-block.ensures in
    let low = (last_after code plan.b s c.requires.laid plan.of s.last (last_there s)).0 in
    let start = c.first_address-start.ensures in
    omega (arith, low, start)

pub loop-k-preserved : goal.loop-k-preserved
loop-k-preserved c =
    let are = c.requires.blocks in
    let funcs = c.args.funcs.now in
    let blocks = c.args.blocks.now in
    let order = c.args.order.now in
    let k = c.loop-k.k in
    let s = seen c.planned-block.result in
    let f = c.shortest_form-form.result in
    let a = c.unwrap_or.result in
    let to = c.find-to.result.0 in
    let offset = c.find-to.result.1 in
    let finds : Finds (map (block_start funcs) blocks) c.in_ok-places.places.items a to offset =
    subst (λ (xs : List ℕ). Finds xs c.in_ok-places.places.items a to offset) (c.deref.ensures.value ∙ c.in_ok-starts.ensures)
    (subst (λ (ys : List ℕ). Finds c.deref.result.now ys a to offset) c.deref-in-loop-k.ensures.value c.find-to.ensures) in
    let lead : a ≡ unwrap_or (lead_of s f) c.first_address-start.result = c.unwrap_or.ensures
    ∙ ap (λ (o : Option ℕ). unwrap_or o c.first_address-start.result) c.lead_of.ensures in
    let block_end = block_end_made (program_code funcs are.roles are.cells are.entry) blocks c.requires.laid are.are order
    c.requires.order c.requires.direct c.in_ok-places.places.items c.in_ok-places.ensures.each k s f a
    c.first_address-start.result to offset (s.last.addr - c.first_address-start.result) s.last.len c.planned-block.ensures
    c.first_address-start.ensures lead finds refl refl in
    let shortest : IsShortest s (begins_of (strips_of funcs blocks order) (k + 1)) f =
    subst (λ (o : Option ℕ). IsShortest s o f) c.begins_of.ensures c.shortest_form-form.ensures in
    ends_more (strips_of funcs blocks order) k c.loop-k.block_ends.items c.push.new.self.items c.loop-k.forms.items
    c.push-in-loop-k.new.self.items s (record {
      before = s.last.addr - c.first_address-start.result;
      len = s.last.len;
      to = to;
      offset = offset;
    }) f c.loop-k.invariant c.planned-block.ensures shortest block_end
    c.in_ok-push.ensures.items c.in_ok-push-2.ensures.items

pub returns : goal.returns
returns c =
    let e : c.loop-k.k ≡ length c.args.order.now = omega arith in
    subst (λ (n : ℕ). AreEnds (strips_of c.args.funcs.now c.args.blocks.now c.args.order.now) n c.loop-k.block_ends.items
    c.loop-k.forms.items) e c.loop-k.invariant

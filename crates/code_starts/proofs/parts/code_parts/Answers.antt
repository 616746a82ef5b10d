use Rattle.std.proofs.Common.{arith, subst, sym}
use Rattle.rv_code.specs.layout.Lists.{ListsAll}
use Rattle.code_starts.specs.Parts.{Precedes}
use Rattle.code_starts.proofs.Cuts.{AreCuts, parts_begin, parts_push, parts_skip, parts_end, read_rises}
use Rattle.code_starts.proofs.parts.code_parts.Goals as goal

pub is_code_stretch-requires-clause-stretch : goal.is_code_stretch-requires-clause-stretch
is_code_stretch-requires-clause-stretch c =
    let are : AreCuts c.args.elf.now c.in_ok-cuts.cuts.items =
    record { ascending = c.in_ok-cuts.ensures.ascending; exact = c.in_ok-cuts.ensures.exact } in
    read_rises _ _ c.loop-index.index _ _ are (omega arith) c.index-start.ensures c.index-end.ensures

pub loop-index-init : goal.loop-index-init
loop-index-init c =
    let are : AreCuts c.args.elf.now c.in_ok-cuts.cuts.items =
    record { ascending = c.in_ok-cuts.ensures.ascending; exact = c.in_ok-cuts.ensures.exact } in
    subst (ListsAll _ Precedes) (sym c.new-parts.ensures.items) (parts_begin c.args.elf.now c.in_ok-cuts.cuts.items are)

pub loop-index-preserved-then-not-is_code_stretch : goal.loop-index-preserved-then-not-is_code_stretch
loop-index-preserved-then-not-is_code_stretch c =
    let are : AreCuts c.args.elf.now c.in_ok-cuts.cuts.items =
    record { ascending = c.in_ok-cuts.ensures.ascending; exact = c.in_ok-cuts.ensures.exact } in
    parts_skip _ _ _ c.loop-index.index _ _ are (omega arith) c.index-start.ensures c.index-end.ensures
    (λ kept. let is = c.is_code_stretch.ensures.1 kept in let isnt = c.if-not-is_code_stretch.true in absurd (cc))
    c.loop-index.invariant

pub loop-index-preserved : goal.loop-index-preserved
loop-index-preserved c =
    let are : AreCuts c.args.elf.now c.in_ok-cuts.cuts.items =
    record { ascending = c.in_ok-cuts.ensures.ascending; exact = c.in_ok-cuts.ensures.exact } in
    parts_push _ _ _ _ c.loop-index.index _ _ are (omega arith) c.index-start.ensures c.index-end.ensures
    (c.is_code_stretch.ensures.0 c.if-not-is_code_stretch.false) c.in_ok-push.ensures.items c.loop-index.invariant

pub returns : goal.returns
returns c =
    let are : AreCuts c.args.elf.now c.in_ok-cuts.cuts.items =
    record { ascending = c.in_ok-cuts.ensures.ascending; exact = c.in_ok-cuts.ensures.exact } in
    parts_end _ _ _ c.loop-index.index are (omega arith) c.loop-index.invariant

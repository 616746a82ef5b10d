use Rattle.std.proofs.Common.{◌∙◌, ◌+◌, ℕ, Some, sym, ap, arith}
use Rattle.std.proofs.lemmas.Option.{slice_get_within}
use Rattle.branch_fixup.specs.BlockInsts.{func_starts_at}
use Rattle.branch_fixup.proofs.Falls.{code_next, code_end, falls_to, falls_out, falls_in, below_limit}
use Rattle.branch_fixup.proofs.block_insts.fall_of.Goals as goal
use Rattle.branch_fixup.proofs.block_insts.fall_of.Goals.{else-place-len-via-then-place-len+else-not-func_starts_at}
use Rattle.branch_fixup.proofs.block_insts.fall_of.Goals.{else-place-len-via-else-place-len}

pub fall_target-requires-clause-inside : goal.fall_target-requires-clause-inside
fall_target-requires-clause-inside c =
    slice_get_within c.args.func.now.insts.items c.args.place c.args.inst.now c.requires.inst

pub fall_target-requires-clause-room : goal.fall_target-requires-clause-room
fall_target-requires-clause-room c =
    let low = below_limit c.args.funcs.now c.args.index c.args.place c.args.func.now c.args.inst.now c.requires.laid
    c.requires.func c.requires.inst in
    omega (arith, low)

pub overflow_add-index : goal.overflow_add-index
overflow_add-index c = let w = slice_get_within c.args.funcs.now c.args.index c.args.func.now c.requires.func in omega (arith, w)

pub returns-then-not-func_starts_at : goal.returns-then-not-func_starts_at
returns-then-not-func_starts_at c =
    let funcs = c.args.funcs.now in
    let func = c.args.func.now in
    let p = c.args.inst.now in
    let (falls, next_is) = falls_to func c.args.place p c.in_ok-next.next c.in_ok-next.ensures in
    let len = c.len.ensures in
    let last = c.if-place-len.true in
    let end = code_end funcs c.args.index c.args.place func p c.requires.laid c.requires.func c.requires.inst
    (omega (arith, len, last)) in
    falls_out funcs func c.args.place p falls (end ∙ sym (ap (λ (n : ℕ). func_starts_at funcs (c.args.index + 1) n) next_is)
    ∙ sym c.func_starts_at.ensures ∙ c.if-not-func_starts_at.true)

pub returns : goal.returns
returns c =
    let funcs = c.args.funcs.now in
    let func = c.args.func.now in
    let p = c.args.inst.now in
    let (falls, next_is) = falls_to func c.args.place p c.in_ok-next.next c.in_ok-next.ensures in
    let len = c.len.ensures in
    let within = slice_get_within func.insts.items c.args.place p c.requires.inst in
    ap (λ (n : ℕ). Some n) next_is ∙ elim c.else-place-len.branch [
      | else-place-len-via-then-place-len+else-not-func_starts_at w ↦
          let last = w.if-place-len.true in
          let end = code_end funcs c.args.index c.args.place func p c.requires.laid c.requires.func c.requires.inst
          (omega (arith, len, last)) in
          falls_in funcs func c.args.place p falls (end ∙ sym (ap (λ (n : ℕ). func_starts_at funcs (c.args.index + 1) n) next_is)
          ∙ sym w.func_starts_at.ensures ∙ w.if-not-func_starts_at.false)
      | else-place-len-via-else-place-len w ↦
          let inner = w.if-place-len.false in
          falls_in funcs func c.args.place p falls (code_next funcs c.args.index c.args.place func p c.requires.laid
          c.requires.func c.requires.inst (omega (arith, len, inner, within)))
    ]

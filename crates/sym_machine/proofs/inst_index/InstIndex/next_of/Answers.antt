use Rattle.std.proofs.Common.{◌≡◌, ◌∙◌, ◌+◌, sym, ap, suc, arith}
use Rattle.sym_machine.specs.internal.FunctionOrder.{addr_at}
use Rattle.sym_machine.proofs.Functions.{next_of-found, next_of-none, nowhere, insts_at}
use Rattle.sym_machine.proofs.inst_index.InstIndex.next_of.Goals as goal
use Rattle.rb_bytes.proofs.ListLemmas.{any_element}

pub returns : goal.returns
returns c =
    let funcs = c.args.self.now.funcs.now in
    let at = c.in_ok-at.ensures.found in
    let d = any_element funcs c.in_ok-at.at.func at.func_within in
    let one : c.in_ok-at.at.inst + 1 ≡ suc c.in_ok-at.at.inst = omega arith in
    c.next_in.ensures d ∙ ap (addr_at (insts_at funcs c.in_ok-at.at.func d)) one
    ∙ sym (next_of-found funcs c.args.self.now.searchable c.in_ok-at.at.func c.in_ok-at.at.inst c.args.address at d)

pub returns-in_err-at : goal.returns-in_err-at
returns-in_err-at c = rw c.from_residual.ensures (sym (next_of-none c.args.self.now.funcs.now c.args.address
    (nowhere c.args.self.now.funcs.now c.args.self.now.searchable c.args.address c.in_err-at.ensures.none)))

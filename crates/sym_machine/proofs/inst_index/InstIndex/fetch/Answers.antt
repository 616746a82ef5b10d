use Rattle.std.proofs.Common.{◌≡◌, ◌∙◌, ◌%◌, sym, ap, true, Some}
use Rattle.std.specs.Prelude.{◌==◌}
use Rattle.std.proofs.lemmas.Bool.{eq-eqb}
use Rattle.sym_machine.proofs.Functions.{placed_at-found, insts_at}
use Rattle.sym_machine.proofs.inst_index.InstIndex.fetch.Goals as goal
use Rattle.rb_bytes.proofs.ListLemmas.{any_element}

pub returns : goal.returns
returns c =
    let funcs = c.args.self.now.funcs.now in
    let at = c.in_ok-at.ensures.found in
    let d = any_element funcs c.in_ok-at.at.func at.func_within in
    let e = any_element (insts_at funcs c.in_ok-at.at.func d) c.in_ok-at.at.inst (at.inst_within d) in
    let even : (c.args.pc % 2 == 0) ≡ true = eq-eqb (c.args.pc % 2) 0 c.if-pc-ne0.false in
    rw even (ap Some (c.inst_at.ensures d e)
    ∙ sym (placed_at-found funcs c.args.self.now.searchable c.in_ok-at.at.func c.in_ok-at.at.inst c.args.pc at d e))

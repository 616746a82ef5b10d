use Rattle.std.proofs.Common.{◌+◌, ◌≤◌, ◌^◌, ap, sym, Some, None, cond, arith, ⊎_elim, ◌<◌}
use Rattle.std.proofs.lemmas.Bool.{cases_lt}
use Rattle.rv_code.specs.layout.FunctionLists.{address_end}
use Rattle.edge_profile.proofs.LaidOut.{no_code_from}
use Rattle.edge_profile.proofs.function_names.code_address.Goals as goal

pub returns-in_err-address : goal.returns-in_err-address
returns-in_err-address c =
    let a = c.args.start + c.args.offset in
    let far : address_end ≤ a =
    ⊎_elim (λ (less : a < 2 ^ 64). absurd (c.in_err-address.ensures less)) (λ (large : 2 ^ 64 ≤ a). omega arith) (cases_lt a (2 ^ 64)) in
    rw c.from_residual.ensures (ap (λ b. cond b (Some a) None) (sym (no_code_from c.args.funcs.now c.requires a far)))

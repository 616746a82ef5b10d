use Rattle.std.proofs.Common.{◌≡◌, ◌<◌, ltb-true, le_refl, get_or, length, sym, arith}
use Rattle.edge_profile.proofs.NameOrder.{code-within, code-past}
use Rattle.edge_profile.proofs.name_ends.code_at.Goals as goal

pub returns-in-Some : goal.returns-in-Some
returns-in-Some c =
    let name = c.args.name.now in
    let index = c.args.index in
    let lookup = c.in-Some.ensures.lookup in
    let listed : index < length name = ltb-true _ _ (sym lookup.0) in
    let found : get_or name index 0 ≡ c.in-Some.byte.now = sym (lookup.4 (le_refl index) 0) in
    let code = code-within name index 0 listed in
    omega (arith, code, found)

pub returns-in-None : goal.returns-in-None
returns-in-None c = sym (code-past c.args.name.now c.args.index c.in-None.ensures.lookup.3)

use Rattle.std.proofs.Common.{◌≡◌, ◌<◌, get_or, rules, length}
use Rattle.std.specs.declared.cmp.Ordering.TheVariants.{Equal}
use Rattle.frame_rewrite.specs.contracts.cie_key.CieKeyOrd.TheImpl.{ghosts}
use Rattle.frame_rewrite.proofs.KeyLists.{key-place}
use Rattle.frame_rewrite.proofs.KeyOrder.{found-at}
use Rattle.frame_rewrite.proofs.kinds.index_of.Goals as goal

pub returns-in-Ok-clause-found : goal.returns-in-Ok-clause-found
returns-in-Ok-clause-found c =
    let within : c.in-Ok.index < length c.args.keys.now = search rules in
    let ok : ghosts.cmp (get_or c.args.keys.now c.in-Ok.index c.args.key.now) c.args.key.now ≡ Equal =
    c.in-Ok.ensures.ok c.args.key.now in
    found-at c.args.keys.now c.args.key.now c.in-Ok.index within ok

pub returns-in-Ok-clause-index : goal.returns-in-Ok-clause-index
returns-in-Ok-clause-index c =
    key-place c.args.key.now c.args.keys.now c.in-Ok.index c.requires (returns-in-Ok-clause-found c)

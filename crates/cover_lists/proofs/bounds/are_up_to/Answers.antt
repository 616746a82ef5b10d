use Rattle.std.proofs.Common.{◌≡◌, ◌≤◌, ◌-◌, arith, get_or}
use Rattle.std.proofs.lemmas.Bool.{leb-true}
use Rattle.std.proofs.lemmas.List.{get_or_default}
use Rattle.cover_lists.proofs.bounds.are_up_to.Goals as goal

pub returns : goal.returns
returns c = λ last k d less.
    let at = c.args.count - 1 in
    let inside = c.if-bounds-count.false in
    let up : get_or c.args.bounds.now at 0 ≤ c.args.a = leb-true (get_or c.args.bounds.now at 0) c.args.a last in
    let rises : get_or c.args.bounds.now k d ≤ get_or c.args.bounds.now at d =
    c.requires k at d (omega arith) (omega (arith, c.if-count-eq0.false, inside)) in
    let same : get_or c.args.bounds.now at d ≡ get_or c.args.bounds.now at 0 =
    get_or_default c.args.bounds.now at d 0 (omega (arith, c.if-count-eq0.false, inside)) in
    omega (arith, up, rises, same)

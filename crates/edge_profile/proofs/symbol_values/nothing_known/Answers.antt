use Rattle.std.proofs.Common.{◌-◌, ◌∙◌, ap, arith, List, ℕ, Option, None, [], ◌++◌, take, replicate}
use Rattle.std.proofs.lemmas.List.{take_all}
use Rattle.edge_profile.proofs.KnownValues.{nothing-known}
use Rattle.edge_profile.proofs.symbol_values.nothing_known.Goals as goal

pub returns : goal.returns
returns c =
    let n = c.count.result in
    let Known = List (Option (Option ℕ)) in
    nothing-known c.args.names.now.backward.items c.resize.new.self.items n c.count.ensures
    (c.in_ok-resize.ensures.items
    ∙ ap (λ (l : List (Option (Option ℕ))). take n l ++ replicate (n - c.new-known.result.len) None) c.new-known.ensures.items
    ∙ ap (λ (l : List (Option (Option ℕ))). l ++ replicate (n - c.new-known.result.len) None) (take_all n [] (omega arith))
    ∙ ap (λ (k : ℕ). replicate k None) (omega (arith, c.new-known.ensures.len)))

use Rattle.std.proofs.Common.{◌∙◌}
use Rattle.func_place.specs.internal.Groups.{grouping_of}
use Rattle.func_place.proofs.UnitClasses.{AreTies, are_ties, ties_inside, are_units, units_inside}
use Rattle.func_place.proofs.units.units_of.Goals as goal

pub group_tied-requires : goal.group_tied-requires
group_tied-requires c = ties_inside c.args.funcs.now c.deref.result.now
    (rw c.deref.ensures.value (are_ties c.args.funcs.now c.in_ok-ties.ties.items c.in_ok-ties.ensures))

pub returns-clause-units : goal.returns-clause-units
returns-clause-units c =
    let funcs = c.args.funcs.now in
    let ties : AreTies funcs c.deref.result.now =
    rw c.deref.ensures.value (are_ties funcs c.in_ok-ties.ties.items c.in_ok-ties.ensures) in
    let g = c.in_ok-groups.ensures in
    let u = c.in_ok-units.ensures in
    are_units funcs c.deref.result.now (grouping_of c.in_ok-groups.groups).numbers c.in_ok-units.units.items ties
    (u.len ∙ g.len) g.classes
    (λ f f_in. u.same_group f (rw g.len f_in)) (λ f w f_in w_in. u.lowest f w (rw g.len f_in) (rw g.len w_in))

pub returns-clause-inside : goal.returns-clause-inside
returns-clause-inside c =
    let funcs = c.args.funcs.now in
    let ties : AreTies funcs c.deref.result.now =
    rw c.deref.ensures.value (are_ties funcs c.in_ok-ties.ties.items c.in_ok-ties.ensures) in
    let g = c.in_ok-groups.ensures in
    let u = c.in_ok-units.ensures in
    units_inside funcs c.in_ok-units.units.items (are_units funcs c.deref.result.now
    (grouping_of c.in_ok-groups.groups).numbers c.in_ok-units.units.items ties (u.len ∙ g.len) g.classes
    (λ f f_in. u.same_group f (rw g.len f_in)) (λ f w f_in w_in. u.lowest f w (rw g.len f_in) (rw g.len w_in)))

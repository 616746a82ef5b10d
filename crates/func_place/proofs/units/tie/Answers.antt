use Rattle.std.proofs.Common.{sym, ◌∙◌}
use Rattle.std.specs.Prelude.{slice_index}
use Rattle.func_place.specs.internal.Groups.{grouping_of}
use Rattle.func_place.proofs.GroupMoves.{IsJoined, joined_from, grouped_joined, count_new}
use Rattle.func_place.proofs.TieGroups.{agrees_skip, agrees_join}
use Rattle.func_place.proofs.units.tie.Goals as goal

joined : (c : goal.In_ok-join) → IsJoined (grouping_of c.args.groups.now) (grouping_of c.join.new.self)
    (slice_index (grouping_of c.args.groups.now).numbers c.args.a)
    (slice_index (grouping_of c.args.groups.now).numbers c.args.b) c.in_ok-join.field-0
joined c =
    let first = c.group_number-first.ensures in
    let second = c.group_number-second.ensures in
    rw (← first.is, ← second.is)
    (joined_from c.requires.grouped c.if-first-second.true first.within second.within c.in_ok-join.ensures.joins)

pub returns-in_ok-join-clause-len : goal.returns-in_ok-join-clause-len
returns-in_ok-join-clause-len c = count_new (joined c).moves

pub returns-in_ok-join-clause-grouped : goal.returns-in_ok-join-clause-grouped
returns-in_ok-join-clause-grouped c = grouped_joined c.requires.grouped (joined c)

pub returns-in_ok-join-clause-agrees : goal.returns-in_ok-join-clause-agrees
returns-in_ok-join-clause-agrees c = λ ties i t old. agrees_join ties i c.args.a c.args.b (grouping_of c.args.groups.now)
    (grouping_of c.join.new.self) c.in_ok-join.field-0 t.is c.requires.grouped (joined c) t.inside old

pub returns-else-first-second-clause-agrees : goal.returns-else-first-second-clause-agrees
returns-else-first-second-clause-agrees c = λ ties i t old.
    agrees_skip ties i c.args.a c.args.b (grouping_of c.args.groups.now) t.is
    (sym c.group_number-first.ensures.is ∙ c.if-first-second.false ∙ c.group_number-second.ensures.is) old

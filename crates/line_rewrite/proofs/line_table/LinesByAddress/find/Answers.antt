use Rattle.std.proofs.Common.{◌≡◌, ◌≤◌, ◌∙◌, ◌⊎◌, ℕ, refl, sym, ap, arith, subst, List, Option, Some, None}
use Rattle.std.specs.Prelude.{slice_get, filter_map}
use Rattle.line_rewrite.specs.declared.near.NearRows.{NearRows}
use Rattle.line_rewrite.specs.declared.registers.Registers.{Registers}
use Rattle.line_rewrite.specs.declared.unit.Unit as kept
use Rattle.line_rewrite.specs.KeptEntries.{strings_held}
use Rattle.line_rewrite.specs.KeptUnits.{told_unit}
use Rattle.line_rewrite.specs.LineAnswers.{LineSaid, RowSaid, row_said}
use Rattle.line_rewrite.specs.LineMachine.{in_force}
use Rattle.line_rewrite.specs.NearRows.{AreNear, IsNear}
use Rattle.line_rewrite.specs.SequenceIndex.{IsIndexOf, numbered_at}
use Rattle.line_rewrite.specs.Tables.{LineSections, line_at, line_sections_held}
use Rattle.line_rewrite.specs.Walks.{Ascends}
use Rattle.line_rewrite.proofs.LineLookups.{at_none, item_at, near_said, none_at, said_alike, said_there}
use Rattle.line_rewrite.proofs.line_table.LinesByAddress.find.Goals as goal
use Rattle.line_rewrite.proofs.line_table.LinesByAddress.find.Goals.{After-reach, In_ok-reach}

abbrev sections : In_ok-reach → LineSections
sections c = line_sections_held c.self.inside.line.items c.self.inside.str.items c.self.inside.line_str.items

-- what is remembered after the look-up
now_near : (c : In_ok-reach) → IsNear (sections c) c.reach.new.self
now_near c =
    let t = c.self.inside in
    near_said (sections c) t.units.items t.sequences t.offsets c.self.invariant c.args.near.now c.reach.new.self
    (subst (λ (s : LineSections). IsNear s c.args.near.now) (sym c.self.view_is) c.requires)
    (subst (λ (us : List kept.Unit). (c.reach.new.self ≡ c.args.near.now) ⊎ AreNear us c.reach.new.self) c.deref.ensures.value
    c.in_ok-reach.ensures.near)

pub reach-requires : goal.reach-requires
reach-requires c = subst (λ (us : List kept.Unit). IsIndexOf us c.self.inside.sequences) (sym c.deref.ensures.value)
    c.self.invariant.indexed

pub in_force-requires : goal.in_force-requires
in_force-requires c = subst (Ascends 0) (sym c.deref-3.ensures.value) (now_near (goal.at.in_force-requires c).In_ok-reach).ascend

pub returns-then-not-branch-clause-near : goal.returns-then-not-branch-clause-near
returns-then-not-branch-clause-near c =
    subst (λ (s : LineSections). IsNear s c.reach.new.self) c.self.view_is
    (now_near (goal.at.returns-then-not-branch-clause-near c).In_ok-reach)

pub returns-then-not-branch-clause-said : goal.returns-then-not-branch-clause-said
returns-then-not-branch-clause-said c =
    let t = c.self.inside in
    let s : LineSections = line_sections_held t.line.items t.str.items t.line_str.items in
    rw (← c.self.view_is) (sym (at_none s t.units.items t.sequences t.offsets c.self.invariant c.args.a
    (subst (λ (us : List kept.Unit). numbered_at us c.args.a ≡ None) c.deref.ensures.value
    (c.in_ok-reach.ensures.lacks c.if-not-branch.true))))

pub returns-then-not-branch-clause-last : goal.returns-then-not-branch-clause-last
returns-then-not-branch-clause-last c = λ x from to. ap (line_at c.args.self.now) (omega (arith, from, to))

pub returns-in_default-clause-near : goal.returns-in_default-clause-near
returns-in_default-clause-near c =
    subst (λ (s : LineSections). IsNear s c.reach.new.self) c.self.view_is (now_near (goal.at.returns-in_default-clause-near c).In_ok-reach)

pub returns-in_default-clause-said : goal.returns-in_default-clause-said
returns-in_default-clause-said c =
    let t = c.self.inside in
    let s : LineSections = line_sections_held t.line.items t.str.items t.line_str.items in
    let near : NearRows = c.reach.new.self in
    rw (← c.self.view_is) (said_there s t.units.items t.sequences t.offsets c.self.invariant near c.args.a None
    (in_force c.args.a near.rows.items)
    (now_near (goal.at.returns-in_default-clause-said c).In_ok-reach) (c.in_ok-reach.ensures.reaches c.if-not-branch.false)
    (none_at c.deref-2.result.now t.units.items near.unit c.in_default.ensures.lookup.3 c.deref-2.ensures.value) refl)

pub returns-in_default-clause-last : goal.returns-in_default-clause-last
returns-in_default-clause-last c = λ x from to. ap (line_at c.args.self.now) (omega (arith, from, to))

pub returns-clause-near : goal.returns-clause-near
returns-clause-near c =
    subst (λ (s : LineSections). IsNear s c.reach.new.self) c.self.view_is (now_near (goal.at.returns-clause-near c).In_ok-reach)

pub returns-clause-said : goal.returns-clause-said
returns-clause-said c =
    let t = c.self.inside in
    let s : LineSections = line_sections_held t.line.items t.str.items t.line_str.items in
    let near : NearRows = c.reach.new.self in
    let u = c.in-Some.unit.now in
    let at : slice_get t.units.items near.unit ≡ Some u =
    item_at c.deref-2.result.now t.units.items near.unit u c.in-Some.ensures.lookup.0 c.in-Some.ensures.lookup.1
    c.deref-2.ensures.value in
    let force : c.in_ok-rows.rows.items ≡ in_force c.args.a near.rows.items =
    c.in_ok-rows.ensures ∙ ap (λ (l : List Registers). in_force c.args.a l) c.deref-3.ensures.value in
    let rows : c.in_ok-rows-2.rows.items ≡ filter_map (row_said (told_unit s.strings u)) c.in_ok-rows.rows.items =
    c.in_ok-rows-2.ensures
    ∙ (λ i. filter_map (row_said (told_unit (strings_held (c.deref-4.ensures.value i) (c.deref-5.ensures.value i)) u))
    (c.deref-6.ensures.value i)) in
    let said : List RowSaid → Option LineSaid = λ rows. Some (record { unit = near.unit; rows = rows }) in
    rw (← c.self.view_is) (ap said rows ∙ said_there s t.units.items t.sequences t.offsets c.self.invariant near c.args.a (Some u)
    c.in_ok-rows.rows.items (now_near (goal.at.returns-clause-said c).In_ok-reach) (c.in_ok-reach.ensures.reaches c.if-not-branch.false) at
    force)

pub returns-clause-last : goal.returns-clause-last
returns-clause-last c = λ x from to.
    let near : NearRows = c.reach.new.self in
    let is : IsNear c.args.self.now near =
    subst (λ (s : LineSections). IsNear s near) c.self.view_is (now_near (goal.at.returns-clause-last c).In_ok-reach) in
    let there = c.in_ok-reach.ensures.reaches c.if-not-branch.false in
    said_alike c.args.self.now near c.args.a x is there from (low_high x c.last_alike.result near.high to c.last_alike.ensures.high)
    (c.last_alike.ensures.alike x from to)
  where
    low_high : (x m n : ℕ) → x ≤ m → m ≤ n → x ≤ n
    low_high x m n h k = omega arith

use Rattle.std.proofs.Common.{◌≡◌, ◌∙◌, ◌+◌, List, ap, sym, arith, length, reverse}
use Rattle.std.specs.Option.{option_to_list}
use Rattle.std.specs.Prelude.{true}
use Rattle.list_units.specs.declared.open_entries.OpenEntry.{OpenEntry}
use Rattle.list_units.specs.OpenEntries.{ends}
use Rattle.list_units.proofs.OpenFacts.{closed_next, closed_stays, none_open}
use Rattle.list_units.proofs.open_entries.close.Goals as goal

pub loop-count-preserved : goal.loop-count-preserved
loop-count-preserved c =
    let old : List OpenEntry = c.loop-count.entries.items in
    let size : length c.pop.new.self.items + length (option_to_list c.pop.result) ≡ length old =
    omega (arith, c.pop.ensures.len, c.loop-count.entries.ok.0, c.pop.new.self.ok.0) in
    let ended : ends c.args.depth (reverse old) ≡ true =
    ap (λ (l : List OpenEntry). ends c.args.depth (reverse l)) (sym c.deref.ensures.value) ∙ sym c.ends.ensures ∙ c.if-not-ends.false in
    let n = closed_next c.args.depth old c.pop.new.self.items c.pop.result c.pop.ensures.items size
    (λ h. c.pop.ensures.variant.1 (omega (arith, h, c.loop-count.entries.ok.0))) ended in
    (n.0 ∙ c.loop-count.invariant.0, omega (arith, n.1, c.loop-count.invariant.1))

pub returns : goal.returns
returns c =
    none_open c.args.depth c.loop-count.entries.items
    (omega (arith, c.loop-count-test.false, c.len-count-end.ensures, c.args.entries.now.ok.0, c.loop-count.invariant.1))
    ∙ c.loop-count.invariant.0

pub returns-then-not-ends : goal.returns-then-not-ends
returns-then-not-ends c =
    sym (closed_stays c.args.depth (reverse c.loop-count.entries.items)
    (ap (λ (l : List OpenEntry). ends c.args.depth (reverse l)) (sym c.deref.ensures.value) ∙ sym c.ends.ensures ∙ c.if-not-ends.true))
    ∙ c.loop-count.invariant.0

use Rattle.std.proofs.Common.{arith, ◌≤◌, sym, length}
use Rattle.answer_runs.proofs.NewCode.{made_more, made_same, past}
use Rattle.answer_runs.proofs.SilentTables.{no_runs}
use Rattle.table_core.proofs.carrying.runs_of.Goals as goal
use Rattle.table_core.proofs.carrying.runs_of.Goals.{in-Some+then-span-gt0+in_ok-add_span, in-Some+else-span-gt0, in_default}

pub loop-i-preserved : goal.loop-i-preserved
loop-i-preserved g c = elim c.match-span.branch [
  | in-Some+then-span-gt0+in_ok-add_span w ↦ record {
    made = rw w.runs-is (made_more (g.T.ByAddress.says c.args.table.now) c.args.map.now c.requires.ordered c.requires.disjoint
        c.loop-i.i w.in-Some.span (sym w.in-Some.ensures)
        c.requires.low _ _ c.loop-i.invariant.made w.if-span-gt0.true
        w.in_ok-add_span.ensures.answers w.in_ok-add_span.ensures.within w.in_ok-add_span.ensures.longer);
    known = rw (w.runs-is, w.known-is) w.in_ok-add_span.ensures.known;
    none = rw w.known-is w.in_ok-add_span.ensures.none;
    near = rw w.near-is w.in_ok-add_span.ensures.near;
  }
  | in-Some+else-span-gt0 w ↦ record {
    made = rw w.runs-is (made_same (g.T.ByAddress.says c.args.table.now) c.args.map.now c.requires.ordered c.requires.disjoint
        c.loop-i.i w.in-Some.span (sym w.in-Some.ensures) _ c.loop-i.invariant.made (omega (arith, w.if-span-gt0.false)));
    known = rw (w.runs-is, w.known-is) c.loop-i.invariant.known;
    none = rw w.known-is c.loop-i.invariant.none;
    near = rw w.near-is c.loop-i.invariant.near;
  }
  | in_default w ↦ let h : length c.args.map.now ≤ c.loop-i.i = past c.args.map.now c.loop-i.i (sym w.in_default.ensures) in
      absurd (omega arith)
]

pub returns-then-is_silent-clause-runs : goal.returns-then-is_silent-clause-runs
returns-then-is_silent-clause-runs g c =
    rw c.new-runs.ensures.items (no_runs (g.T.ByAddress.says c.args.table.now) c.args.map.now (c.is_silent.ensures c.if-is_silent.true))

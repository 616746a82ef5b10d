use Rattle.std.proofs.Common.{◌≡◌, ◌∙◌, ◌≤◌, ◌+◌, ◌^◌, ◌-◌, ◌++◌, ap, sym, subst, arith, rules, length, take, drop, List, ℕ}
use Rattle.std.proofs.Math.Seq.{take-append_seam}
use Rattle.line_rewrite.specs.WrittenPrograms.{Begun}
use Rattle.line_rewrite.specs.WrittenRuns.{AllRowsFit, count_below, cut_run, cut_runs, cuts_for, with_runs}
use Rattle.line_rewrite.proofs.CutRuns.{rows_end, rows_next, runs_count, runs_end, runs_next}
use Rattle.line_rewrite.proofs.UnitSizes.{end_there, begun_count}
use Rattle.line_rewrite.proofs.program_list.programs_of.Goals as goal

pub loop-run-init : goal.loop-run-init
loop-run-init c =
    let e = c.in_ok-programs.ensures in
    record {
      written = ap (λ (l : List Begun). with_runs c.args.units.now c.args.map.now l (cut_runs c.args.cuts.now c.args.runs.now)) e;
      rows = λ all. all;
      near = record {
        ascend = c.no_rows-near.ensures.rows;
        found = λ x low high. let none = c.no_rows-near.ensures.range in absurd (omega (arith, none, low, high));
      };
      each = ap length e ∙ begun_count c.args.units.now;
    }

pub add_run-requires-clause-fits : goal.add_run-requires-clause-fits
add_run-requires-clause-fits c =
    let end : c.run-item.result.start + c.run-item.result.len ≤ 2 ^ 64 - 1 =
    end_there c.args.runs.now c.loop-run.run-index c.run-item.result c.run-item.result c.loop-run-test.true
    c.run-item.is 0 (2 ^ 64 - 1) c.requires.within in
    omega (arith, end)

pub overflow_add-run : goal.overflow_add-run
overflow_add-run c =
    let end : c.run-item.result.start + c.run-item.result.len ≤ 2 ^ 64 - 1 =
    end_there c.args.runs.now c.loop-run.run-index c.run-item.result c.run-item.result c.loop-run-test.true
    c.run-item.is 0 (2 ^ 64 - 1) c.requires.within in
    omega (arith, end)

pub loop-run-preserved : goal.loop-run-preserved
loop-run-preserved c =
    let units = c.args.units.now in
    let spans = c.args.map.now in
    let runs = c.args.runs.now in
    let i = c.loop-run.run-index in
    let run = c.run-item.result in
    let rest : List ℕ = c.loop-run.rest.now in
    let bound = run.start + run.len in
    let n : c.count_below.result ≡ count_below bound rest = c.count_below.ensures.count in
    let inside : c.split_at.result.0.now ≡ take (count_below bound rest) rest =
    c.split_at.ensures.front ∙ ap (λ (k : ℕ). take k rest) n in
    let behind : c.split_at.result.1.now ≡ drop (count_below bound rest) rest =
    c.split_at.ensures.back ∙ ap (λ (k : ℕ). drop k rest) n in
    let here : c.cuts_for-here.result.now ≡ cuts_for run (take (count_below bound rest) rest) =
    c.cuts_for-here.ensures ∙ ap (cuts_for run) inside in
    let items : List Begun = c.loop-run.programs.items in
    let new : List Begun = c.add_run.new.programs in
    let whole : List Begun = take c.loop-run.programs.len (new ++ drop (length new) items) in
    let cut = cut_run (cuts_for run (take (count_below bound rest) rest)) run in
    let w : new ≡ with_runs units spans items cut =
    c.in_ok-add_run.ensures.written
    ∙ ap (λ (l : List Begun). with_runs units spans l (cut_run c.cuts_for-here.result.now run)) c.deref_mut.ensures.value
    ∙ ap (λ (cs : List ℕ). with_runs units spans items (cut_run cs run)) here in
    let count : length new ≡ length items = ap length w ∙ runs_count units spans items cut in
    let len : c.loop-run.programs.len ≡ length items = search rules in
    let seam : whole ≡ new = ap (λ (n : ℕ). take n (new ++ drop (length new) items)) (len ∙ sym count)
    ∙ take-append_seam new (drop (length new) items) in
    record {
      written = ap (λ (cs : List ℕ). with_runs units spans whole (cut_runs cs (drop (i + 1) runs))) behind
          ∙ runs_next units spans rest runs i run run c.loop-run-test.true c.run-item.is items whole _ (seam ∙ w)
          c.loop-run.invariant.written;
      rows = λ fits. rows_next units spans rest runs i run run c.loop-run-test.true c.run-item.is _ c.loop-run.invariant.rows
          (subst (λ (cs : List ℕ). AllRowsFit units spans (cut_run cs run)) here c.in_ok-add_run.ensures.rows)
          (subst (λ (cs : List ℕ). AllRowsFit units spans (cut_runs cs (drop (i + 1) runs))) behind fits);
      near = c.in_ok-add_run.ensures.near;
      each = ap length seam ∙ count ∙ c.loop-run.invariant.each;
    }

pub returns-clause-written : goal.returns-clause-written
returns-clause-written c =
    runs_end c.args.units.now c.args.map.now c.loop-run.programs.items _ c.loop-run.rest.now c.args.runs.now c.loop-run.run-index
    c.loop-run-test.false c.loop-run.invariant.written

pub returns-clause-rows : goal.returns-clause-rows
returns-clause-rows c =
    rows_end c.args.units.now c.args.map.now _ c.loop-run.rest.now c.args.runs.now c.loop-run.run-index
    c.loop-run-test.false c.loop-run.invariant.rows

-- Runs are kept if starts are related, and if steps and endings are matched.
use Rattle.std.proofs.Common.{ℕ, ◌+◌, ◌*◌, ◌≤◌, List, subst, arith}
use Rattle.std.proofs.lemmas.List.{append-nil}
use Rattle.rv_code.specs.machine.Machine.{Event, SoFar, starts, more}
use Rattle.rv_code.specs.machine.Step.{ByteState, Steps}
use Rattle.rv_memory.specs.Start.{start}
use Rattle.sym_machine.specs.SymStart.{program_start}
use Rattle.sym_machine.specs.SymStep.{SymState, SymSteps}
use Rattle.move_law.specs.SimulationRelation.{SimulationRelation}
use Rattle.move_law.specs.Rewrite.{Rewrite, program, Goes}
use Rattle.move_law.specs.Laws.{KeepsCode, StartsRelated, StepsMatched, EndingsMatched, RunsKept, RunsKeptSoFar}
use Rattle.rv_code.proofs.machine.Runs.{join}

-- n steps are matched, and the states after them are related
record Walks (r : Rewrite) (b : ByteState) (n : ℕ) (trace : List Event) (d : SymState) : Type 0 where
  steps : ℕ
  few : steps ≤ 3 * n
  state : ByteState
  so_far : SoFar Steps b steps trace state
  related : SimulationRelation r (Goes r.output) d state

walks : StepsMatched → (r : Rewrite) → KeepsCode r → (c : SymState) (b : ByteState) →
    SimulationRelation r (Goes r.output) c b → {n : ℕ} {trace : List Event} {d : SymState} →
    SoFar (SymSteps r.code.funcs) c n trace d → Walks r b n trace d
walks matched r keeps c b rel starts = record { steps = 0; few = omega arith; state = b; so_far = starts; related = rel }
walks matched r keeps c b rel (more {n = n} {trace = trace} {t = v} {u = d} e w st) =
    let w' = walks matched r keeps c b rel w in
    let m = matched r keeps v d w'.state e w'.related st in
    let few = w'.few in
    let most = m.1 in
    record { steps = w'.steps + m.0; few = omega arith; state = m.2; so_far = join w'.so_far m.3; related = m.4 }

pub runs_kept_so_far : StartsRelated → StepsMatched → RunsKeptSoFar
runs_kept_so_far started matched r keeps args input fit n trace run =
    let w = walks matched r keeps (program_start (program r) args input) (start r.output.file args input)
    (started r keeps args input fit) run.so_far in
    (w.steps, w.few, record { state = w.state; so_far = w.so_far })

pub runs_kept : StartsRelated → StepsMatched → EndingsMatched → RunsKept
runs_kept started matched ended r keeps args input fit n trace status run =
    let w = walks matched r keeps (program_start (program r) args input) (start r.output.file args input)
    (started r keeps args input fit) run.so_far in
    let m = ended r keeps run.state w.state status w.related run.ends in
    let end = m.2 in
    let few = w.few in
    let most = m.1 in
    let last = end.last in
    let last' = run.last in (
      m.0 + w.steps,
      omega arith,
      record {
        before = w.steps + end.before;
        last = omega arith;
        state = end.state;
        so_far =
            subst (λ (l : List Event). SoFar Steps (start r.output.file args input) (w.steps + end.before) l end.state)
            (append-nil trace) (join w.so_far end.so_far);
        ends = end.ends;
      },
    )

-- A line table that is read from a file, and its weight.
use Rattle.std.proofs.Common.{◌≡◌, ◌+◌, ◌*◌, ℕ, List, [], ◌∷◌, Some, None, refl, sym, ap, subst, length}
use Rattle.rb_bytes.specs.FirstFault.{IsFree, IsRefusalBy}
use Rattle.rb_bytes.specs.declared.fault.Refusal.{Refusal}
use Rattle.elf_image.specs.declared.elf.Elf.{Elf}
use Rattle.answer_runs.specs.declared.run.Run.{Run}
use Rattle.answer_runs.specs.AnswerRuns.{said_runs}
use Rattle.answer_runs.specs.Weights.{run_weight}
use Rattle.table_core.specs.DebugUnits.{units_from, walked}
use Rattle.line_rewrite.specs.declared.unit.Unit as kept
use Rattle.line_rewrite.specs.LineAnswers.{LineSaid}
use Rattle.line_rewrite.specs.Tables.{LineSections, HasLineFault, line_sections, line_version, line_at, line_answers, row_weight}
use Rattle.line_rewrite.specs.UnitLists.{AreUnits}
use Rattle.line_rewrite.proofs.LineFaults.{says_all}

pub read_says : (elf : Elf) (s : LineSections) (us : List kept.Unit) → s ≡ line_sections elf → line_version s ≡ None →
    AreUnits s.strings (walked 5 s.line) us
    → (line_answers elf ≡ Some (line_at s)) × IsFree (HasLineFault (line_sections elf))
read_says elf s us same v a =
    subst (λ (t : LineSections). (line_answers elf ≡ Some (line_at t)) × IsFree (HasLineFault (line_sections elf))) (sym same)
    (says_all (line_sections elf) us (subst (λ (t : LineSections). line_version t ≡ None) same v)
    (subst (λ (t : LineSections). AreUnits t.strings (walked 5 t.line) us) same a))

pub read_refused : (elf : Elf) (s : LineSections) (e : Refusal) → s ≡ line_sections elf → IsRefusalBy (HasLineFault s) e →
    IsRefusalBy (HasLineFault (line_sections elf)) e
read_refused elf s e same r = subst (λ (t : LineSections). IsRefusalBy (HasLineFault t) e) same r

abbrev pub weight_in : Run LineSaid → ℕ
weight_in r = run_weight + row_weight * length r.answer.rows

pub said_same : (runs : List (Run LineSaid)) → said_runs (λ (a : LineSaid). a) runs ≡ runs
said_same [] = refl
said_same (r ∷ runs) = ap (λ (l : List (Run LineSaid)). r ∷ l) (said_same runs)

-- A section without bytes has no answers.
pub silent : (s : LineSections) → s.line ≡ [] → (a : ℕ) → line_at s a ≡ None
unfolding units_from
silent s e a = rw e refl

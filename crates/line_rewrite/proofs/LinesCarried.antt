-- The law of a line table in a file: its answers at new code are the input's at the owners.
use Rattle.std.proofs.Common.{◌≡◌, ◌∙◌, ap, sym, subst, refl, ℕ, List, [], ◌∷◌, Option, Some, None, length}
use Rattle.std.specs.Prelude.{IsSome, option_and_then}
use Rattle.elf_image.specs.declared.elf.Elf.{Elf}
use Rattle.addr_map.specs.declared.span.Span.{Span}
use Rattle.addr_map.specs.Spans.{owner}
use Rattle.answer_runs.specs.AnswerRuns.{carried}
use Rattle.answer_runs.specs.CarriedAnswers.{Agree, IsCarried, IsCarriedFrom}
use Rattle.answer_runs.specs.Choices.{unless_any}
use Rattle.table_core.specs.declared.written.Written.{Written}
use Rattle.table_core.specs.DebugUnits.{units_from}
use Rattle.line_rewrite.specs.LineAnswers.{LineSaid}
use Rattle.line_rewrite.specs.LineTable.{LinesMade, places_in}
use Rattle.line_rewrite.specs.Tables.{LineSections, line, line_answers, line_at, line_fault, line_sections, line_version}

-- equal answers
pub equal_answers : {A : Type 0} (x y : Option A) → Agree (λ a b. a ≡ b) x y → y ≡ x
equal_answers None None h = refl
equal_answers (Some a) (Some b) h = ap Some (sym h)
equal_answers None (Some b) h = absurd h
equal_answers (Some a) None h = absurd h

lines_say : (spans : List Span) (wanted : ℕ → Option LineSaid) (at : ℕ → Option LineSaid) (v bad : Option ℕ) →
    IsCarried (λ x y. x ≡ y) spans wanted (unless_any (v ∷ bad ∷ []) at) → (p : ℕ) → IsSome (owner spans p) → at p ≡ wanted p
lines_say spans wanted at None None c p is = equal_answers (wanted p) (at p) (c p is)
lines_say spans wanted at None (Some bad) c p is = absurd c
lines_say spans wanted at (Some v) bad c p is = absurd c

pub line_carried : (spans : List Span) (t : LineSections) (i f : Elf) → t ≡ line_sections i →
    IsCarriedFrom (λ x y. x ≡ y) spans (line_at t) (line_answers f) → (p o : ℕ) → owner spans p ≡ Some o →
    line f p ≡ line i o
line_carried spans t i f comes law p o e =
    lines_say spans (carried (line_at t) spans) (line f) (line_version (line_sections f)) (line_fault (line_sections f)) law p
    (subst (λ (x : Option ℕ). IsSome x) (sym e) refl)
    ∙ ap (option_and_then (line_at t)) e ∙ ap (λ (s : LineSections). line_at s o) comes

-- A table without units is written without units.
empty_walked : (section : List ℕ) → length (places_in section) ≡ 0 → section ≡ []
unfolding units_from
empty_walked [] e = refl
empty_walked (b ∷ bs) e = absurd (cc)

pub nothing_read : (t : LineSections) (w : Written) → LinesMade t w → t.line ≡ [] → w.bytes.items ≡ []
unfolding units_from
nothing_read t w made none =
    empty_walked w.bytes.items (made.count ∙ ap (λ (section : List ℕ). length (places_in section)) none)

-- Refusals, as statements about all files. What a command reads is refused for at most one fault, and for none if the
-- command is done.
use Rattle.std.specs.Prelude.{◌≡◌, ℕ, List}
use Rattle.rb_bytes.specs.declared.fault.Fault.{Fault}
use Rattle.addr_map.specs.declared.span.Span.{Span}
use Rattle.map_check.specs.declared.clause.Verdict.{Verdict}
use Rattle.program.specs.Program.{Program}
use Rattle.bolt_core.specs.Refusals.{IsRefused, too_heavy}
use Rattle.bolt_core.specs.RewriteCounts.{RewriteCounts}
use Rattle.bolt_core.specs.RewrittenFile.{IsRewritten}
use Rattle.cli_base.specs.ImageFiles.{IsImageFile, IsNoImage}
use Rattle.cli_base.specs.ProgramFiles.{IsFileProgram, IsNoProgram}
use Rattle.cli_check.specs.RepairedFiles.{CannotRepair, IsRepairOf}
use Rattle.cli_check.specs.VerifiedFiles.{IsRefusedBy, IsVerdictOn}
use Rattle.cli_look.specs.LookingUp.{CannotLookUp, IsAnswerAt}
use Rattle.cli_look.specs.declared.question.Question.{Question}

-- `Refuses` holds of at most one fault, and of none if `Done` holds.
pub record IsOneOrNone (Refuses : Fault → Type 0) (Done : Type 0) : Type 0 where
  pub one : (f g : Fault) → Refuses f → Refuses g → f ≡ g
  pub none : (f : Fault) → Refuses f → Done → ⊥

-- A refusal for the weight of a table is of a layout of the new code, here of the one with the map `spans`. Other
-- refusals are of no layout.
abbrev pub IsOfLayout : (spans : List Span) {file profile : List ℕ} {fault : Fault} → IsRefused file profile fault →
    Type 0
IsOfLayout spans (too_heavy x input stands pairs parts fits order ordered laid code are heavy is) = laid ≡ spans
IsOfLayout spans _ = Unit {0}

pub record RefusalLaw : Type 0 where
  -- `run`
  pub images : (file : List ℕ) → IsOneOrNone (IsNoImage file) (IsImageFile file)
  -- `run --symbols` and `record`
  pub programs : (file : List ℕ) (x : Program) → IsOneOrNone (IsNoProgram file) (IsFileProgram file x)
  -- `repair`
  pub repairs : (file profile written printed : List ℕ) →
      IsOneOrNone (CannotRepair file profile) (IsRepairOf file profile written printed)
  -- `lookup` and `frames`
  pub answers : (question : Question) (address : ℕ) (file text : List ℕ) →
      IsOneOrNone (CannotLookUp question file) (IsAnswerAt question address file text)
  -- `verify`, with the line that is printed
  pub verdicts : (input output map : List ℕ) (v : Verdict) →
      IsOneOrNone (λ fault. (line : List ℕ) × IsRefusedBy input output map fault line) (IsVerdictOn input output map v)
  pub verdict_lines : (input output map : List ℕ) (f g : Fault) (l m : List ℕ) → IsRefusedBy input output map f l →
      IsRefusedBy input output map g m → l ≡ m
  -- `rewrite` and `map`
  pub rewrites : (file profile : List ℕ) (f g : Fault) → IsRefused file profile f → IsRefused file profile g → f ≡ g
  -- and of a file that was rewritten, with its layout
  pub rewritten : (file profile written : List ℕ) (spans : List Span) (counts : RewriteCounts) →
      IsRewritten file profile written spans counts → (f : Fault) (r : IsRefused file profile f) →
      IsOfLayout spans r → ⊥

-- The law of written tables: they are read without a fault, and answer what their runs do.
use Rattle.std.proofs.Common.{ℕ, ◌-◌, ◌*◌, ◌^◌, ◌≤◌, ◌≡◌, List, Option, Some, None, Bool, refl, sym, ◌∙◌, ap, subst, arith, length}
use Rattle.std.specs.Prelude.{All}
use Rattle.rb_bytes.specs.FirstFault.{IsFree}
use Rattle.addr_map.specs.declared.span.Span.{Span}
use Rattle.answer_runs.specs.declared.run.Run.{Run}
use Rattle.answer_runs.specs.AnswerRuns.{IsWithin, run_at}
use Rattle.answer_runs.specs.CarriedAnswers.{Agree, IsCarried}
use Rattle.cfi_rows.specs.Entries.{Fde, Frames, frames}
use Rattle.frame_rewrite.specs.CarriedFrames.{IsCarriedFrame}
use Rattle.frame_rewrite.specs.Faults.{IsFrameFault}
use Rattle.frame_rewrite.specs.FrameAnswers.{FrameAnswer, answer_at}
use Rattle.frame_rewrite.specs.declared.cie_key.CieKey.{CieKey}
use Rattle.frame_rewrite.specs.declared.form.Form.{Form}
use Rattle.frame_rewrite.specs.SpelledFits.{KeyFits, IsReached, IsSpelled}
use Rattle.frame_rewrite.specs.SpelledFrames.{is_debug, cie_size}
use Rattle.frame_rewrite.specs.Tables.{answers}
use Rattle.frame_rewrite.proofs.AnswersBack.{none-made, some-made, reached-before}
use Rattle.frame_rewrite.proofs.FdeBack.{IsAt}
use Rattle.frame_rewrite.proofs.TableBack.{made, frames-back}

abbrev Runs : Type 0
Runs = List (Run FrameAnswer)

-- at every address
made-agrees : (form : Form) (is_marked : Fde → Bool) (spans : List Span) (place hi : ℕ) (runs : Runs) (p : ℕ) → IsWithin 0 runs hi
    → All (IsReached spans runs) runs
    → Agree (IsCarriedFrame spans) (run_at runs p) (answer_at is_marked (made form spans (length runs) place runs) p)
made-agrees form is_marked spans place hi runs p w r = one (run_at runs p) refl where
  full : (n : ℕ) → n ≤ n
  full n = omega arith

  one : (o : Option FrameAnswer) → run_at runs p ≡ o
      → Agree (IsCarriedFrame spans) (run_at runs p) (answer_at is_marked (made form spans (length runs) place runs) p)
  one None e =
      subst (λ (x : Option FrameAnswer). Agree (IsCarriedFrame spans) x
      (answer_at is_marked (made form spans (length runs) place runs) p)) (sym e)
      (subst (Agree (IsCarriedFrame spans) None) (sym (none-made form is_marked spans runs (length runs) place runs p r e)) tt)
  one (Some a) e =
      subst (λ (x : Option FrameAnswer). Agree (IsCarriedFrame spans) x
      (answer_at is_marked (made form spans (length runs) place runs) p)) (sym e)
      (some-made form is_marked spans (length runs) place 0 hi runs p a (full (length runs)) w
      (reached-before spans runs runs r) e)

-- a written table, read at the address that it was written for
pub reads-as : (form : Form) (spans : List Span) (keys : List CieKey) (runs : Runs) (bytes : List ℕ) (address : ℕ)
    → All KeyFits keys → IsAt form address → IsWithin 0 runs (2 ^ 64 - 1)
    → All (IsReached spans runs) runs → IsSpelled form spans keys runs bytes
    → frames (is_debug form) address bytes ≡ record {
      cies = length keys;
      list = made form spans (length runs) (cie_size * length keys) runs;
      bad = None;
    }
reads-as form spans keys runs bytes address f here w r s =
    ap (frames (is_debug form) address) s.bytes_are
    ∙ frames-back form address keys spans 0 (2 ^ 64 - 1) runs f here s.writes (omega arith) w (reached-before spans runs runs r)

free : (t : Frames) → t.bad ≡ None → IsFree (IsFrameFault t)
free t e kind place f = none t.bad e f.1 where
  none : (o : Option ℕ) → o ≡ None → o ≡ Some place → ⊥
  none None a b = absurd (cc)
  none (Some n) a b = absurd (cc)

carried-by : (is_marked : Fde → Bool) (spans : List Span) (wanted : ℕ → Option FrameAnswer) (t : Frames) → t.bad ≡ None
    → ((p : ℕ) → Agree (IsCarriedFrame spans) (wanted p) (answer_at is_marked t.list p))
    → IsCarried (IsCarriedFrame spans) spans wanted (answers is_marked t)
carried-by is_marked spans wanted t e f = rw e (λ p owned. f p)

pub law : (form : Form) (is_marked : Fde → Bool) (spans : List Span) (keys : List CieKey) (runs : Runs) (bytes : List ℕ)
    (address : ℕ) → All KeyFits keys → IsAt form address
    → IsWithin 0 runs (2 ^ 64 - 1) → All (IsReached spans runs) runs → IsSpelled form spans keys runs bytes
    → IsCarried (IsCarriedFrame spans) spans (run_at runs) (answers is_marked (frames (is_debug form) address bytes))
    × IsFree (IsFrameFault (frames (is_debug form) address bytes))
law form is_marked spans keys runs bytes address f here w r s =
    let read = reads-as form spans keys runs bytes address f here w r s in
    let sound : (frames (is_debug form) address bytes).bad ≡ None = ap (λ (t : Frames). t.bad) read in
    let list = ap (λ (t : Frames). t.list) read in (
      carried-by is_marked spans (run_at runs) (frames (is_debug form) address bytes) sound
          (λ p. subst (λ (l : List Fde). Agree (IsCarriedFrame spans) (run_at runs p) (answer_at is_marked l p)) (sym list)
          (made-agrees form is_marked spans (cie_size * length keys) (2 ^ 64 - 1) runs p w r)),
      free (frames (is_debug form) address bytes) sound,
    )

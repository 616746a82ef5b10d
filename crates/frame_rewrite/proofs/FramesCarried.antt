-- From the law of frame tables in a file: its answers at new code are the input's at the owners. And what its
-- entries are.
use Rattle.std.proofs.Common.{◌≡◌, ◌∙◌, ap, refl, sym, subst, ℕ, List, Option, Some, None, Bool, true, false}
use Rattle.std.specs.Prelude.{IfSome, IsSome, option_and_then}
use Rattle.elf_image.specs.declared.elf.Elf.{Elf}
use Rattle.elf_image.specs.file.SectionNames.{section_called}
use Rattle.addr_map.specs.declared.span.Span.{Span}
use Rattle.addr_map.specs.Spans.{owner}
use Rattle.answer_runs.specs.AnswerRuns.{carried}
use Rattle.answer_runs.specs.CarriedAnswers.{Agree, IsCarried, IsCarriedFrom}
use Rattle.table_core.specs.declared.written.Written.{Written}
use Rattle.table_core.specs.Sections.{Held, bytes_of, held}
use Rattle.answer_runs.specs.declared.run.Run.{Run}
use Rattle.cfi_rows.specs.Entries.{Fde, Frames, frames}
use Rattle.cfi_rows.specs.Frames.{debug_frames, eh_frames, frames_of}
use Rattle.cfi_rows.specs.ReadFrames.{read_as, section_held}
use Rattle.frame_rewrite.specs.declared.debug.DebugFrames.{DebugFrames}
use Rattle.frame_rewrite.specs.declared.eh.EhFrames.{EhFrames}
use Rattle.frame_rewrite.specs.CarriedFrames.{IsCarriedFrame}
use Rattle.frame_rewrite.specs.FrameAnswers.{FrameAnswer, answer_at, cuts_of, df, eh, is_marked_by, is_never_marked}
use Rattle.frame_rewrite.specs.PlainFrames.{HasNoTexts, IsPlain}
use Rattle.frame_rewrite.specs.Stretches.{AreApartAt, AreStretches}
use Rattle.frame_rewrite.specs.Tables.{DebugComesFrom, DebugMakes, EhComesFrom, EhMakes, StandsAs, StandsEh, answers, debug_answers}
use Rattle.frame_rewrite.specs.Tables.{debug_name, debug_says, eh_answers, eh_name, eh_says}
use Rattle.frame_rewrite.proofs.WrittenTables.{no-stretches, none-listed, nothing-held}

-- the answer that a byte with an owner has to have
pub owned : {A : Type 0} (R : A → A → Type 0) (says : ℕ → Option A) (spans : List Span) (p o : ℕ) (at : ℕ → Option A) →
    owner spans p ≡ Some o → Agree R (carried says spans p) (at p) → Agree R (says o) (at p)
owned R says spans p o at e h = subst (λ (x : Option ℕ). Agree R (option_and_then says x) (at p)) e h

pub is_owned : (spans : List Span) (p o : ℕ) → owner spans p ≡ Some o → IsSome (owner spans p)
is_owned spans p o e = subst (λ (x : Option ℕ). IsSome x) (sym e) refl

frames_say : (R : FrameAnswer → FrameAnswer → Type 0) (spans : List Span) (wanted : ℕ → Option FrameAnswer)
    (m : Fde → Bool) (cies : ℕ) (list : List Fde) (bad : Option ℕ) →
    IsCarried R spans wanted (answers m (record { cies = cies; list = list; bad = bad })) → (p : ℕ) →
    IsSome (owner spans p) → Agree R (wanted p) (answer_at m list p)
frames_say R spans wanted m cies list None c p is = c p is
frames_say R spans wanted m cies list (Some place) c p is = absurd c

pub read_is : (t : EhFrames) (i : Elf) → EhComesFrom t i → read_as t.frames ≡ eh_frames i
read_is t i comes =
    ap (λ (b : Bool). frames_of b (section_held t.frames)) comes.kind ∙ ap (frames_of false) comes.section

pub says_is : (t : EhFrames) (i : Elf) → EhComesFrom t i → eh_says t ≡ eh i
says_is t i comes =
    ap (λ (m : Fde → Bool). answer_at m (read_as t.frames).list) comes.marks
    ∙ ap (λ (x : Frames). answer_at (is_marked_by (cuts_of i)) x.list) (read_is t i comes)

pub eh_carried : (spans : List Span) (t : EhFrames) (i f : Elf) → EhComesFrom t i →
    IsCarriedFrom (IsCarriedFrame spans) spans (eh_says t) (eh_answers f) → (p o : ℕ) → owner spans p ≡ Some o →
    Agree (IsCarriedFrame spans) (eh i o) (eh f p)
eh_carried spans t i f comes law p o e =
    let said = owned (IsCarriedFrame spans) (eh_says t) spans p o (eh f) e
    (frames_say (IsCarriedFrame spans) spans (carried (eh_says t) spans) (is_marked_by (cuts_of f)) (eh_frames f).cies
    (eh_frames f).list (eh_frames f).bad law p (is_owned spans p o e)) in
    subst (λ (says : ℕ → Option FrameAnswer). Agree (IsCarriedFrame spans) (says o) (eh f p)) (says_is t i comes) said

df_read_is : (t : DebugFrames) (i : Elf) → DebugComesFrom t i → read_as t.frames ≡ debug_frames i
df_read_is t i comes =
    ap (λ (b : Bool). frames_of b (section_held t.frames)) comes.kind ∙ ap (frames_of true) comes.section

pub df_carried : (spans : List Span) (t : DebugFrames) (i f : Elf) → DebugComesFrom t i →
    IsCarriedFrom (IsCarriedFrame spans) spans (debug_says t) (debug_answers f) → (p o : ℕ) → owner spans p ≡ Some o →
    Agree (IsCarriedFrame spans) (df i o) (df f p)
df_carried spans t i f comes law p o e =
    let said = owned (IsCarriedFrame spans) (debug_says t) spans p o (df f) e
    (frames_say (IsCarriedFrame spans) spans (carried (debug_says t) spans) is_never_marked (debug_frames f).cies
    (debug_frames f).list (debug_frames f).bad law p (is_owned spans p o e)) in
    let says : debug_says t o ≡ df i o = ap (λ (x : Frames). answer_at is_never_marked x.list o) (df_read_is t i comes) in
    subst (λ (x : Option FrameAnswer). Agree (IsCarriedFrame spans) x (df f p)) says said

pub eh_stretches : (spans : List Span) (t : EhFrames) (i f : Elf) (runs : List (Run FrameAnswer)) (w : Written)
    → EhComesFrom t i → EhMakes t spans runs w → StandsEh i spans w f → AreApartAt spans (eh_frames i).list
    → AreStretches spans (eh_frames i).list (eh_frames f).list
eh_stretches spans t i f runs w comes made stands once =
    subst (λ (x : Frames). AreStretches spans x.list (eh_frames f).list) (read_is t i comes) (by t.has_section refl)
  where
    apart : AreApartAt spans (read_as t.frames).list
    apart = subst (λ (x : Frames). AreApartAt spans x.list) (sym (read_is t i comes)) once

    by : (b : Bool) → t.has_section ≡ b → AreStretches spans (read_as t.frames).list (eh_frames f).list
    by true e =
        subst (λ (l : List ℕ). AreStretches spans (read_as t.frames).list (frames false (held f eh_name).address l).list)
        (sym stands.bytes) (made.stretches e apart (held f eh_name).address (stands.place (sym comes.there ∙ e)))
    by false e =
        no-stretches spans (read_as t.frames).list (eh_frames f).list
        (none-listed t.frames.debug (section_held t.frames) (ap (λ (h : Held). h.bytes) comes.section
        ∙ nothing-held i.file.now (section_called i.sections.items eh_name) (sym comes.there ∙ e)))
        (none-listed false (held f eh_name) (stands.bytes ∙ made.nothing e))

pub df_stretches : (spans : List Span) (t : DebugFrames) (i f : Elf) (w : Written) → DebugComesFrom t i → DebugMakes t spans w
    → StandsAs debug_name w f → AreApartAt spans (debug_frames i).list
    → AreStretches spans (debug_frames i).list (debug_frames f).list
df_stretches spans t i f w comes made stands once =
    subst (λ (x : Frames). AreStretches spans x.list (debug_frames f).list) (df_read_is t i comes)
    (subst (λ (l : List ℕ). AreStretches spans (read_as t.frames).list (frames true (held f debug_name).address l).list)
    (sym stands) (made.stretches (subst (λ (x : Frames). AreApartAt spans x.list) (sym (df_read_is t i comes)) once)
    (held f debug_name).address))

pub df_plain : (spans : List Span) (t : DebugFrames) (f : Elf) (w : Written) → DebugMakes t spans w → StandsAs debug_name w f
    → ((a : ℕ) → IfSome (df f a) IsPlain) → HasNoTexts (bytes_of f debug_name)
df_plain spans t f w made stands plain =
    subst HasNoTexts (sym stands) (made.plain (held f debug_name).address
    (λ a. subst (λ (l : List ℕ). IfSome (answer_at is_never_marked (frames true (held f debug_name).address l).list a) IsPlain)
    stands (plain a)))

-- The law, and the clauses on what is written, of the two tables in a file.
use Rattle.std.proofs.Common.{ℕ, ◌+◌, ◌-◌, ◌*◌, ◌^◌, ◌≤◌, ◌<◌, ◌≡◌, List, [], Option, Some, None, Bool, true, false, refl, sym, ◌∙◌, ap, subst}
use Rattle.std.proofs.Common.{arith, length}
use Rattle.std.specs.Prelude.{All, Contains, is_some, option_and_then, sum_by}
use Rattle.std.proofs.lemmas.List.Elements.{All-nil}
use Rattle.rb_bytes.proofs.ListLemmas.{one_of}
use Rattle.rb_bytes.proofs.Members.{Contains-nil}
use Rattle.rb_bytes.specs.FirstFault.{IsFree}
use Rattle.elf_image.specs.declared.section.Section.{Section}
use Rattle.addr_map.specs.declared.span.Span.{Span}
use Rattle.addr_map.specs.Spans.{owner, is_new_code}
use Rattle.answer_runs.specs.declared.run.Run.{Run}
use Rattle.answer_runs.specs.AnswerRuns.{IsWithin, run_at, carried}
use Rattle.answer_runs.specs.CarriedAnswers.{Agree, IsCarried}
use Rattle.table_core.specs.Sections.{Held, held_by}
use Rattle.table_core.specs.declared.written.Written.{Written}
use Rattle.cfi_rows.specs.Entries.{RawEntry, Fde, Frames, frames, is_cie, range_of, walk}
use Rattle.cfi_rows.specs.Frames.{frames_of}
use Rattle.cfi_rows.specs.ReadFrames.{read_as, section_held}
use Rattle.frame_rewrite.specs.declared.cie_key.CieKey.{CieKey}
use Rattle.frame_rewrite.specs.declared.form.Form.{Form}
use Rattle.frame_rewrite.specs.declared.form.Form.TheVariants.{Debug, Loaded}
use Rattle.frame_rewrite.specs.declared.eh.EhFrames.{EhFrames}
use Rattle.frame_rewrite.specs.CarriedFrames.{IsCarriedFrame}
use Rattle.frame_rewrite.specs.Faults.{IsFrameFault}
use Rattle.frame_rewrite.specs.declared.debug.DebugFrames.{DebugFrames}
use Rattle.frame_rewrite.specs.FrameAnswers.{FrameAnswer, answer_at, is_marked_by, is_never_marked}
use Rattle.frame_rewrite.specs.Index.{AreApart, AreFilled, ShareNoAddress}
use Rattle.frame_rewrite.specs.PlainFrames.{HasNoText, HasNoTexts}
use Rattle.frame_rewrite.specs.SpelledFits.{KeyFits, IsReached, IsSpelled, RunAscends}
use Rattle.frame_rewrite.specs.SpelledFrames.{cie_size, is_debug, key_of}
use Rattle.frame_rewrite.specs.Stretches.{AreApartAt, AreStretches, IsStretchOf}
use Rattle.frame_rewrite.specs.Tables.{ComesAfter, frames_address}
use Rattle.frame_rewrite.specs.Tables.{answers, DebugMakes, EhMakes, MovesWhole, run_size, eh_says, debug_says, EhAllows}
use Rattle.frame_rewrite.proofs.ApartEntries.{Alike, all-alike, written-apart, written-filled}
use Rattle.frame_rewrite.proofs.EntrySizes.{least-total}
use Rattle.frame_rewrite.proofs.EntryStretches.{each-made, every-made}
use Rattle.frame_rewrite.proofs.FdeBack.{IsAt}
use Rattle.frame_rewrite.proofs.FirstRows.{Begins, frames-begin}
use Rattle.frame_rewrite.proofs.Law.{law, reads-as}
use Rattle.frame_rewrite.proofs.MadeTables.{starts-in, count-of, spelled-at, size-of, ends-with}
use Rattle.frame_rewrite.proofs.PlainTables.{texts-none}
use Rattle.frame_rewrite.proofs.Reached.{AreWhole, reached}

abbrev Runs : Type 0
Runs = List (Run FrameAnswer)

-- the table in a file
abbrev pub Stands : (debug : Bool) → (Fde → Bool) → List Span → Runs → Held → Type 0
Stands debug is_marked spans runs section =
    IsCarried (IsCarriedFrame spans) spans (run_at runs) (answers is_marked (frames_of debug section))
    × IsFree (IsFrameFault (frames_of debug section))

pub stands : (form : Form) (is_marked : Fde → Bool) (spans : List Span) (keys : List CieKey) (runs : Runs)
    (bytes : List ℕ) (section : Held) → All KeyFits keys → IsAt form section.address
    → IsWithin 0 runs (2 ^ 64 - 1) → All (IsReached spans runs) runs → IsSpelled form spans keys runs bytes
    → section.bytes ≡ bytes → Stands (is_debug form) is_marked spans runs section
stands form is_marked spans keys runs bytes section f here w r s e =
    subst (λ (l : List ℕ). IsCarried (IsCarriedFrame spans) spans (run_at runs)
    (answers is_marked (frames (is_debug form) section.address l)) × IsFree (IsFrameFault (frames (is_debug form) section.address l)))
    (sym e)
    (law form is_marked spans keys runs bytes section.address f here w r s)

-- Without a section there is nothing.

pub none-framed : (debug : Bool) (address : ℕ) → frames debug address [] ≡ record { cies = 0; list = []; bad = None }
unfolding walk
none-framed debug address = refl

none-carried : (is_marked : Fde → Bool) (list : List Fde) (spans : List Span) (p : ℕ) → list ≡ []
    → carried (answer_at is_marked list) spans p ≡ None
none-carried is_marked list spans p e = ap (λ l. carried (answer_at is_marked l) spans p) e ∙ owned (owner spans p) where
  owned : (o : Option ℕ) → option_and_then (answer_at is_marked []) o ≡ None
  owned None = refl
  owned (Some a) = refl

pub none-listed : (debug : Bool) (section : Held) → section.bytes ≡ [] → (frames_of debug section).list ≡ []
none-listed debug section e = ap (λ (l : List ℕ). (frames debug section.address l).list) e
    ∙ ap (λ (t : Frames). t.list) (none-framed debug section.address)

pub nothing-stands : (debug : Bool) (old is_marked : Fde → Bool) (spans : List Span) (runs : Runs) (list : List Fde)
    (section : Held) → list ≡ [] → section.bytes ≡ []
    → ((p : ℕ) → run_at runs p ≡ carried (answer_at old list) spans p) → Stands debug is_marked spans runs section
nothing-stands debug old is_marked spans runs list section e f a =
    let now : frames_of debug section ≡ record { cies = 0; list = []; bad = None } = ap (frames debug section.address) f
    ∙ none-framed debug section.address in
    subst (λ (t : Frames). IsCarried (IsCarriedFrame spans) spans (run_at runs) (answers is_marked t)
    × IsFree (IsFrameFault t)) (sym now) (
      λ p owned. subst (λ (o : Option FrameAnswer). Agree (IsCarriedFrame spans) o None)
          (sym (a p ∙ none-carried old list spans p e)) tt,
      λ kind place fault. absurd (some_none place fault.1),
    ) where
      some_none : (place : ℕ) → ◌≡◌ {A = Option ℕ} None (Some place) → ⊥
      some_none place e = cc

-- a section that isn't there
pub nothing-held : (file : List ℕ) (s : Option Section) → is_some s ≡ false → (held_by file s).bytes ≡ []
nothing-held file None e = refl
nothing-held file (Some s) e = absurd (cc)

-- Written tables

nothing-apart : (debug : Bool) (at : ℕ) (bytes : List ℕ) → bytes ≡ [] → AreApart (frames debug at bytes).list
nothing-apart debug at bytes e = subst (λ (x : Frames). AreApart x.list) (sym (ap (frames debug at) e ∙ none-framed debug at))
    (λ i j d less inside. absurd (omega arith))

-- if nothing was read, nothing is written
pub no-stretches : (spans : List Span) (old new : List Fde) → old ≡ [] → new ≡ [] → AreStretches spans old new
no-stretches spans old new e f =
    subst (λ (l : List Fde). AreStretches spans l new) (sym e) (subst (AreStretches spans []) (sym f) (record {
      each = All-nil (λ (g : Fde). (f : Fde) × Contains [] f × IsStretchOf spans f (range_of g));
      every = λ f r c x. absurd (Contains-nil f c);
      apart = λ i j d less inside. absurd (omega arith);
    }))

no-texts : HasNoTexts []
unfolding walk
no-texts = All-nil (λ (e : RawEntry). is_cie true e ≡ true → HasNoText e)

pub makes : (t : EhFrames) (spans : List Span) (keys : List CieKey) (runs : Runs) (w : Written) → All KeyFits keys
    → IsWithin 0 runs (2 ^ 64 - 1) → All RunAscends runs
    → ((p : ℕ) → run_at runs p ≡ carried (eh_says t) spans p) → All (IsReached spans runs) runs
    → (AreApart (read_as t.frames).list → All (Alike spans runs) runs)
    → (AreApartAt spans (read_as t.frames).list → (at : ℕ) → IsSpelled (Loaded at) spans keys runs w.bytes.items
    → AreStretches spans (read_as t.frames).list (frames false at w.bytes.items).list)
    → length keys ≤ 2 * (read_as t.frames).cies
    → t.has_section ≡ true → IsSpelled (Loaded (frames_address spans)) spans keys runs w.bytes.items → w.lists.items ≡ []
    → EhMakes t spans runs w
makes t spans keys runs w f within ascend a r alike stretches few there s lists =
    let place = frames_address spans in
    record {
      sound = λ at after. ap (λ (x : Frames). x.bad) (reads-as (Loaded at) spans keys runs w.bytes.items at f refl within r
          (spelled at after));
      starts = λ at after. starts-in (eh_says t) spans keys runs w.bytes.items at f within a r (spelled at after);
      filled = λ at after. written-filled (Loaded at) spans keys runs w.bytes.items at f refl within r (spelled at after);
      apart = λ apart at after. written-apart (Loaded at) spans keys runs w.bytes.items at f refl within r (alike apart)
          (spelled at after);
      stretches = λ _ once at after. stretches once at (spelled at after);
      count = λ at after. count-of spans keys runs w.bytes.items at f within r (spelled at after);
      size = size-of place spans keys runs w.bytes.items (read_as t.frames).cies few ascend s;
      ends = λ _. ends-with place spans keys runs w.bytes.items s;
      nothing = λ none. absurd (clash t.has_section there none);
      lists = lists;
    } where
      clash : (b : Bool) → b ≡ true → b ≡ false → ⊥
      clash b x y = cc

      spelled : (at : ℕ) → ComesAfter spans at → IsSpelled (Loaded at) spans keys runs w.bytes.items
      spelled at after = spelled-at (eh_says t) spans keys runs w.bytes.items at within a r after s

pub makes-nothing : (t : EhFrames) (spans : List Span) (runs : Runs) (w : Written) → t.has_section ≡ false
    → w.bytes.items ≡ [] → w.lists.items ≡ [] → EhMakes t spans runs w
makes-nothing t spans runs w none e lists =
    let empty = λ (at : ℕ). ap (frames false at) e ∙ none-framed false at in
    record {
      sound = λ at after. ap (λ (x : Frames). x.bad) (empty at);
      starts = λ at after. subst (λ (x : Frames). All (λ (f : Fde). is_new_code spans f.start ≡ true) x.list) (sym (empty at))
          (All-nil (λ (f : Fde). is_new_code spans f.start ≡ true));
      filled = λ at after. subst (λ (x : Frames). AreFilled x.list) (sym (empty at)) (All-nil (λ (f : Fde). f.start < f.end));
      apart = λ apart at after. nothing-apart false at w.bytes.items e;
      stretches = λ there. absurd (clash t.has_section there none);
      count = λ at after. subst (λ (x : Frames). length x.list ≤ length runs) (sym (empty at)) (least (length runs));
      size = subst (λ (l : List ℕ). length l + 8 * length runs ≤ 16 + 64 * (read_as t.frames).cies + sum_by
          (λ (r : Run FrameAnswer). run_size r.answer) runs) (sym e)
          (room (8 * length runs) (read_as t.frames).cies _ (least-total runs));
      ends = λ there. absurd (clash t.has_section there none);
      nothing = λ _. e;
      lists = lists;
    } where
      clash : (b : Bool) → b ≡ true → b ≡ false → ⊥
      clash b x y = cc

      least : (n : ℕ) → 0 ≤ n
      least n = omega arith

      room : (n c s : ℕ) → n ≤ s → 0 + n ≤ 16 + 64 * c + s
      room n c s h = omega arith

-- the law of `.debug_frame`

pub debug-makes : (t : DebugFrames) (spans : List Span) (keys : List CieKey) (runs : Runs) (w : Written) → All KeyFits keys
    → IsWithin 0 runs (2 ^ 64 - 1) → All (IsReached spans runs) runs → All (Alike spans runs) runs
    → (AreApartAt spans (read_as t.frames).list → (at : ℕ) → AreStretches spans (read_as t.frames).list (frames true at w.bytes.items).list)
    → ((among : List CieKey) → All (λ (r : Run FrameAnswer). Contains among (key_of spans r.answer)) runs → All (Contains among) keys)
    → (t.frames.section.items ≡ [] → ⊥) → IsSpelled Debug spans keys runs w.bytes.items → w.lists.items ≡ []
    → DebugMakes t spans w
debug-makes t spans keys runs w f within r alike stretches needed some s lists = record {
  apart = λ at. written-apart Debug spans keys runs w.bytes.items at f tt within r alike s;
  stretches = stretches;
  plain = λ at. texts-none spans keys runs w.bytes.items at f within r s needed;
  nothing = λ none. absurd (some none);
  lists = lists;
}

pub debug-makes-nothing : (t : DebugFrames) (spans : List Span) (w : Written) → (read_as t.frames).list ≡ [] → w.bytes.items ≡ []
    → w.lists.items ≡ [] → DebugMakes t spans w
debug-makes-nothing t spans w none e lists = record {
  apart = λ at. nothing-apart true at w.bytes.items e;
  stretches = λ _ at. no-stretches spans (read_as t.frames).list (frames true at w.bytes.items).list none
      (ap (λ (l : List ℕ). (frames true at l).list) e ∙ ap (λ (x : Frames). x.list) (none-framed true at));
  plain = λ at plain. subst HasNoTexts (sym e) no-texts;
  nothing = λ _. e;
  lists = lists;
}

-- the entries of marked runs hold only bytes of runs
pub all-reached : (debug : Bool) (is_marked : Fde → Bool) (section : Held) (spans : List Span) (runs : Runs)
    → IsWithin 0 runs (2 ^ 64 - 1)
    → ((p : ℕ) → run_at runs p ≡ carried (answer_at is_marked (frames_of debug section).list) spans p)
    → All (λ f. is_marked f ≡ true → MovesWhole spans f) (frames_of debug section).list → All (IsReached spans runs) runs
all-reached debug is_marked section spans runs w a m =
    reached is_marked (frames_of debug section).list spans runs (2 ^ 64 - 1) w a m
    (frames-begin debug section.address section.bytes)

pub eh-reached : (t : EhFrames) (spans : List Span) (runs : Runs) → EhAllows t spans → IsWithin 0 runs (2 ^ 64 - 1)
    → ((p : ℕ) → run_at runs p ≡ carried (eh_says t) spans p)
    → All (IsReached spans runs) runs
eh-reached t spans runs allowed w a = all-reached t.frames.debug (is_marked_by t.cuts.items) (section_held t.frames) spans
    runs w a allowed.1

pub debug-reached : (t : DebugFrames) (spans : List Span) (runs : Runs) → IsWithin 0 runs (2 ^ 64 - 1)
    → ((p : ℕ) → run_at runs p ≡ carried (debug_says t) spans p)
    → All (IsReached spans runs) runs
debug-reached t spans runs w a = all-reached t.frames.debug is_never_marked (section_held t.frames) spans runs w a
    (λ k d h m. absurd (clash m)) where
      clash : false ≡ true → ⊥
      clash e = cc

-- they are longest stretches
written-stretches : (form : Form) (marks : Fde → Bool) (list : List Fde) (spans : List Span) (keys : List CieKey) (runs : Runs)
    (bytes : List ℕ) (at : ℕ) → All KeyFits keys → IsAt form at → IsWithin 0 runs (2 ^ 64 - 1)
    → ((p : ℕ) → run_at runs p ≡ carried (answer_at marks list) spans p) → AreWhole marks list spans → All Begins list
    → IsSpelled form spans keys runs bytes → AreApartAt spans list → AreStretches spans list (frames (is_debug form) at bytes).list
written-stretches form marks list spans keys runs bytes at f here w a whole begins s once =
    let r = reached marks list spans runs (2 ^ 64 - 1) w a whole begins in
    let alike = all-alike marks list spans runs (2 ^ 64 - 1) w a whole (λ s f g s_in f_in g_in m x y. once s f g s_in f_in g_in x y) in
    let read = ap (λ (t : Frames). t.list) (reads-as form spans keys runs bytes at f here w r s) in
    subst (AreStretches spans list) (sym read) (record {
      each = each-made marks list spans runs (2 ^ 64 - 1) w a whole begins r once form (length runs) (cie_size * length keys);
      every = every-made marks list spans runs (2 ^ 64 - 1) w a whole begins r once form (cie_size * length keys);
      apart = subst AreApart read (written-apart form spans keys runs bytes at f here w r alike s);
    })

pub eh-stretches : (t : EhFrames) (spans : List Span) (keys : List CieKey) (runs : Runs) (bytes : List ℕ) → All KeyFits keys
    → EhAllows t spans → IsWithin 0 runs (2 ^ 64 - 1) → ((p : ℕ) → run_at runs p ≡ carried (eh_says t) spans p)
    → AreApartAt spans (read_as t.frames).list → (at : ℕ) → IsSpelled (Loaded at) spans keys runs bytes
    → AreStretches spans (read_as t.frames).list (frames false at bytes).list
eh-stretches t spans keys runs bytes f allowed w a once at s =
    written-stretches (Loaded at) (is_marked_by t.cuts.items) (read_as t.frames).list spans keys runs bytes at f refl w a allowed.1
    (frames-begin t.frames.debug (section_held t.frames).address (section_held t.frames).bytes) s once

pub debug-stretches : (t : DebugFrames) (spans : List Span) (keys : List CieKey) (runs : Runs) (bytes : List ℕ) → All KeyFits keys
    → IsWithin 0 runs (2 ^ 64 - 1) → ((p : ℕ) → run_at runs p ≡ carried (debug_says t) spans p)
    → IsSpelled Debug spans keys runs bytes → AreApartAt spans (read_as t.frames).list → (at : ℕ)
    → AreStretches spans (read_as t.frames).list (frames true at bytes).list
debug-stretches t spans keys runs bytes f w a s once at =
    written-stretches Debug is_never_marked (read_as t.frames).list spans keys runs bytes at f tt w a (λ k d h m. absurd (never m))
    (frames-begin t.frames.debug (section_held t.frames).address (section_held t.frames).bytes) s once where
      never : false ≡ true → ⊥
      never e = cc

-- and of these only those that go on in them

pub eh-alike : (t : EhFrames) (spans : List Span) (runs : Runs) → EhAllows t spans → IsWithin 0 runs (2 ^ 64 - 1)
    → ((p : ℕ) → run_at runs p ≡ carried (eh_says t) spans p) → AreApart (read_as t.frames).list
    → All (Alike spans runs) runs
eh-alike t spans runs allowed w a apart =
    all-alike (is_marked_by t.cuts.items) (read_as t.frames).list spans runs (2 ^ 64 - 1) w a allowed.1
    (λ s f g s_in f_in g_in m x y. one_of ShareNoAddress (read_as t.frames).list f g apart f_in g_in (λ n. n s.input x y)
    (λ n. n s.input y x))

pub debug-alike : (t : DebugFrames) (spans : List Span) (runs : Runs) → IsWithin 0 runs (2 ^ 64 - 1)
    → ((p : ℕ) → run_at runs p ≡ carried (debug_says t) spans p) → All (Alike spans runs) runs
debug-alike t spans runs w a = all-alike is_never_marked (read_as t.frames).list spans runs (2 ^ 64 - 1) w a
    (λ k d h m. absurd (never m)) (λ s f g s_in f_in g_in m x y. absurd (never m)) where
      never : false ≡ true → ⊥
      never e = cc

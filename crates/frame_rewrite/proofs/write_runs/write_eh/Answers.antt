use Rattle.std.proofs.Common.{◌∙◌, ◌≡◌, ℕ, List, false, refl, sym, ap, subst}
use Rattle.std.specs.Prelude.{All}
use Rattle.std.specs.List.{IsDistinct}
use Rattle.elf_image.specs.file.SectionNames.{section_called}
use Rattle.addr_map.specs.declared.span.Span.{Span}
use Rattle.answer_runs.specs.declared.run.Run.{Run}
use Rattle.table_core.specs.Sections.{Held, held}
use Rattle.cfi_rows.specs.KeptTables.{SaidFrames}
use Rattle.cfi_rows.specs.ReadFrames.{read_as, section_held}
use Rattle.frame_rewrite.specs.FrameAnswers.{FrameAnswer, is_marked_by, cuts_of}
use Rattle.frame_rewrite.specs.declared.cie_key.CieKey.{CieKey}
use Rattle.frame_rewrite.specs.declared.form.Form.TheVariants.{Loaded}
use Rattle.frame_rewrite.specs.SpelledFits.{IsSpelled, KeyFits}
use Rattle.frame_rewrite.specs.SpelledFrames.{is_key}
use Rattle.frame_rewrite.specs.Tables.{eh_name, eh_says, frames_address}
use Rattle.frame_rewrite.proofs.MadeTables.{spelled-at}
use Rattle.frame_rewrite.proofs.AnswersBack.{reached-before}
use Rattle.frame_rewrite.proofs.ReturnRegisters.{Bytes}
use Rattle.frame_rewrite.proofs.ToldRuns.{all-ascend, all-return, few-kinds}
use Rattle.frame_rewrite.proofs.WrittenTables.{stands, none-listed, nothing-stands, nothing-held, eh-reached, eh-alike, eh-stretches, makes, makes-nothing}
use Rattle.frame_rewrite.proofs.write_runs.write_eh.Goals as goal

pub returns-then-not-table-clause-law : goal.returns-then-not-table-clause-law
returns-then-not-table-clause-law c = λ i f from there.
    nothing-stands false (is_marked_by c.args.table.now.cuts.items) (is_marked_by (cuts_of f)) c.args.map.now
    c.args.runs.now (read_as c.args.table.now.frames).list (held f eh_name)
    (none-listed c.args.table.now.frames.debug (section_held c.args.table.now.frames)
    (ap (λ (h : Held). h.bytes) from.section ∙ nothing-held i.file.now (section_called i.sections.items eh_name)
    (sym from.there ∙ c.if-not-table.true)))
    (there.bytes ∙ c.new.ensures.items) c.requires.answers

pub returns-then-not-table-clause-made : goal.returns-then-not-table-clause-made
returns-then-not-table-clause-made c = makes-nothing c.args.table.now c.args.map.now c.args.runs.now _ c.if-not-table.true
    c.new.ensures.items c.new-lists.ensures.items

pub keys_of-requires : goal.keys_of-requires
keys_of-requires c =
    all-return c.args.table.now.frames.debug (is_marked_by c.args.table.now.cuts.items) (section_held c.args.table.now.frames)
    c.args.map.now c.args.runs.now c.requires.within c.requires.answers (subst Bytes c.deref.ensures.value c.are_bytes.ensures)

pub written-requires-clause-ascend : goal.written-requires-clause-ascend
written-requires-clause-ascend c =
    all-ascend c.args.table.now.frames.debug (is_marked_by c.args.table.now.cuts.items) (section_held c.args.table.now.frames)
    c.args.map.now c.args.runs.now c.requires.within c.requires.answers

pub written-requires-clause-before : goal.written-requires-clause-before
written-requires-clause-before c =
    reached-before c.args.map.now c.args.runs.now c.args.runs.now
    (eh-reached c.args.table.now c.args.map.now c.args.runs.now c.requires.allowed c.requires.within c.requires.answers)

pub written-requires-clause-keys : goal.written-requires-clause-keys
written-requires-clause-keys c = subst (All KeyFits) (sym c.deref-2.ensures.value) c.in_ok-keys.ensures.fits

pub written-requires-clause-distinct : goal.written-requires-clause-distinct
written-requires-clause-distinct c = subst (IsDistinct is_key) (sym c.deref-2.ensures.value) c.in_ok-keys.ensures.distinct

-- it was written for the address that comes after the new code
spelled : (spans : List Span) (slice keys : List CieKey) (runs : List (Run FrameAnswer)) (bytes : List ℕ) (at : ℕ) → slice ≡ keys
    → at ≡ frames_address spans → IsSpelled (Loaded at) spans slice runs bytes
    → IsSpelled (Loaded (frames_address spans)) spans keys runs bytes
spelled spans slice keys runs bytes at e f s =
    subst (λ (n : ℕ). IsSpelled (Loaded n) spans keys runs bytes) f
    (subst (λ (k : List CieKey). IsSpelled (Loaded at) spans k runs bytes) e s)

pub returns-clause-law : goal.returns-clause-law
returns-clause-law c = λ i f from there.
    let reached = eh-reached c.args.table.now c.args.map.now c.args.runs.now c.requires.allowed c.requires.within c.requires.answers in
    stands (Loaded (held f eh_name).address) (is_marked_by (cuts_of f)) c.args.map.now c.in_ok-keys.keys.items c.args.runs.now
    c.in_ok-bytes.bytes.items (held f eh_name) c.in_ok-keys.ensures.fits refl c.requires.within reached
    (spelled-at (eh_says c.args.table.now) c.args.map.now c.in_ok-keys.keys.items c.args.runs.now c.in_ok-bytes.bytes.items
    (held f eh_name).address c.requires.within c.requires.answers reached
    (there.place (sym from.there ∙ c.if-not-table.false))
    (spelled c.args.map.now c.deref-2.result.now c.in_ok-keys.keys.items c.args.runs.now c.in_ok-bytes.bytes.items
    c.frames_address.result c.deref-2.ensures.value c.frames_address.ensures c.in_ok-bytes.ensures)) there.bytes

pub returns-clause-made : goal.returns-clause-made
returns-clause-made c =
    let few = few-kinds c.args.table.now.frames.debug (is_marked_by c.args.table.now.cuts.items) (section_held c.args.table.now.frames)
    c.args.map.now c.args.runs.now c.requires.within c.requires.answers
    (ap (λ (s : SaidFrames). s.bad) c.args.table.now.frames.read ∙ c.args.table.now.sound) c.in_ok-keys.keys.items
    c.in_ok-keys.ensures.distinct c.in_ok-keys.ensures.needed in
    let ascend = all-ascend c.args.table.now.frames.debug (is_marked_by c.args.table.now.cuts.items)
    (section_held c.args.table.now.frames) c.args.map.now c.args.runs.now c.requires.within c.requires.answers in
    makes c.args.table.now c.args.map.now c.in_ok-keys.keys.items c.args.runs.now _ c.in_ok-keys.ensures.fits c.requires.within
    ascend c.requires.answers
    (eh-reached c.args.table.now c.args.map.now c.args.runs.now c.requires.allowed c.requires.within c.requires.answers)
    (eh-alike c.args.table.now c.args.map.now c.args.runs.now c.requires.allowed c.requires.within c.requires.answers)
    (eh-stretches c.args.table.now c.args.map.now c.in_ok-keys.keys.items c.args.runs.now _ c.in_ok-keys.ensures.fits
    c.requires.allowed c.requires.within c.requires.answers) few c.if-not-table.false
    (spelled c.args.map.now c.deref-2.result.now c.in_ok-keys.keys.items c.args.runs.now c.in_ok-bytes.bytes.items
    c.frames_address.result c.deref-2.ensures.value c.frames_address.ensures c.in_ok-bytes.ensures) c.new-lists.ensures.items

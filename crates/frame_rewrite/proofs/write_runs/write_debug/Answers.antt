use Rattle.std.proofs.Common.{◌∙◌, ◌≡◌, ◌≢◌, List, true, rules, ap, sym, subst, length}
use Rattle.std.specs.Prelude.{All}
use Rattle.std.specs.List.{IsDistinct}
use Rattle.std.proofs.lemmas.List.{nil_from_length}
use Rattle.table_core.specs.Sections.{held}
use Rattle.cfi_rows.specs.ReadFrames.{read_as, section_held}
use Rattle.frame_rewrite.specs.declared.form.Form.TheVariants.{Debug}
use Rattle.frame_rewrite.specs.FrameAnswers.{is_never_marked}
use Rattle.frame_rewrite.specs.declared.cie_key.CieKey.{CieKey}
use Rattle.frame_rewrite.specs.SpelledFits.{IsSpelled, KeyFits}
use Rattle.frame_rewrite.specs.SpelledFrames.{is_key}
use Rattle.frame_rewrite.specs.Tables.{debug_name}
use Rattle.frame_rewrite.proofs.AnswersBack.{reached-before}
use Rattle.frame_rewrite.proofs.ReturnRegisters.{Bytes}
use Rattle.frame_rewrite.proofs.ToldRuns.{all-ascend, all-return}
use Rattle.frame_rewrite.proofs.WrittenTables.{stands, none-listed, nothing-stands, debug-reached, debug-alike, debug-stretches, debug-makes, debug-makes-nothing}
use Rattle.frame_rewrite.proofs.write_runs.write_debug.Goals as goal

pub returns-then-is_empty-clause-law : goal.returns-then-is_empty-clause-law
returns-then-is_empty-clause-law c =
    let none : length c.args.table.now.frames.section.items ≡ 0 = search rules in
    λ f there. nothing-stands true is_never_marked is_never_marked c.args.map.now c.args.runs.now
    (read_as c.args.table.now.frames).list (held f debug_name)
    (none-listed c.args.table.now.frames.debug (section_held c.args.table.now.frames)
    (nil_from_length c.args.table.now.frames.section.items none)) (there ∙ c.new.ensures.items) c.requires.answers

pub returns-then-is_empty-clause-made : goal.returns-then-is_empty-clause-made
returns-then-is_empty-clause-made c =
    let none : length c.args.table.now.frames.section.items ≡ 0 = search rules in
    debug-makes-nothing c.args.table.now c.args.map.now _
    (none-listed c.args.table.now.frames.debug (section_held c.args.table.now.frames)
    (nil_from_length c.args.table.now.frames.section.items none)) c.new.ensures.items c.new-lists.ensures.items

pub keys_of-requires : goal.keys_of-requires
keys_of-requires c =
    all-return c.args.table.now.frames.debug is_never_marked (section_held c.args.table.now.frames)
    c.args.map.now c.args.runs.now c.requires.within c.requires.answers (subst Bytes c.deref.ensures.value c.are_bytes.ensures)

pub written-requires-clause-ascend : goal.written-requires-clause-ascend
written-requires-clause-ascend c =
    all-ascend c.args.table.now.frames.debug is_never_marked (section_held c.args.table.now.frames)
    c.args.map.now c.args.runs.now c.requires.within c.requires.answers

pub written-requires-clause-before : goal.written-requires-clause-before
written-requires-clause-before c =
    reached-before c.args.map.now c.args.runs.now c.args.runs.now
    (debug-reached c.args.table.now c.args.map.now c.args.runs.now c.requires.within c.requires.answers)

pub written-requires-clause-keys : goal.written-requires-clause-keys
written-requires-clause-keys c = subst (All KeyFits) (sym c.deref-2.ensures.value) c.in_ok-keys.ensures.fits

pub written-requires-clause-distinct : goal.written-requires-clause-distinct
written-requires-clause-distinct c = subst (IsDistinct is_key) (sym c.deref-2.ensures.value) c.in_ok-keys.ensures.distinct

pub returns-clause-law : goal.returns-clause-law
returns-clause-law c = λ f there.
    stands Debug is_never_marked c.args.map.now c.deref-2.result.now c.args.runs.now c.in_ok-bytes.bytes.items
    (held f debug_name) (subst (All KeyFits) (sym c.deref-2.ensures.value) c.in_ok-keys.ensures.fits) tt c.requires.within
    (debug-reached c.args.table.now c.args.map.now c.args.runs.now c.requires.within c.requires.answers)
    c.in_ok-bytes.ensures there

pub returns-clause-made : goal.returns-clause-made
returns-clause-made c =
    let some : length c.args.table.now.frames.section.items ≢ 0 = search rules in
    let spelled = subst (λ (k : List CieKey). IsSpelled Debug c.args.map.now k c.args.runs.now c.in_ok-bytes.bytes.items)
    c.deref-2.ensures.value c.in_ok-bytes.ensures in
    debug-makes c.args.table.now c.args.map.now c.in_ok-keys.keys.items c.args.runs.now _ c.in_ok-keys.ensures.fits
    c.requires.within
    (debug-reached c.args.table.now c.args.map.now c.args.runs.now c.requires.within c.requires.answers)
    (debug-alike c.args.table.now c.args.map.now c.args.runs.now c.requires.within c.requires.answers)
    (debug-stretches c.args.table.now c.args.map.now c.in_ok-keys.keys.items c.args.runs.now _ c.in_ok-keys.ensures.fits
    c.requires.within c.requires.answers spelled) c.in_ok-keys.ensures.needed
    (λ none. some (ap length none)) spelled c.new-lists.ensures.items

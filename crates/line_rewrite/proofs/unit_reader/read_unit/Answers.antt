use Rattle.std.proofs.Common.{◌≡◌, ◌∙◌, sym, ap, subst, arith, rules, ℕ, List, true, length}
use Rattle.std.proofs.lemmas.Result.{err_from_is_err_and}
use Rattle.line_rewrite.specs.declared.header.Header as code
use Rattle.line_rewrite.specs.KeptEntries.{texts_strings}
use Rattle.line_rewrite.specs.KeptSequences.{AreSequences}
use Rattle.line_rewrite.specs.SoundPrograms.{is_sound}
use Rattle.line_rewrite.proofs.EntryLists.{tells_map}
use Rattle.line_rewrite.proofs.Headers.{unit_lacks, unit_headless, unit_sized, sizes_false, unit_unsound, unit_made}
use Rattle.line_rewrite.proofs.unit_reader.read_unit.Goals as goal

pub returns-in_err-outer-clause-malformed : goal.returns-in_err-outer-clause-malformed
returns-in_err-outer-clause-malformed c =
    let p = err_from_is_err_and c.from_residual.result c.from_residual.ensures.1 in
    rw (p.1, p.2) (tells_map c.in_err-outer.field-0.0 _ _ (λ e. unit_lacks (texts_strings c.args.texts.now) c.args.bytes.now e)
    c.in_err-outer.ensures.malformed)

pub returns-in_err-header-clause-malformed : goal.returns-in_err-header-clause-malformed
returns-in_err-header-clause-malformed c =
    let p = err_from_is_err_and c.from_residual-in_err-header.result c.from_residual-in_err-header.ensures.1 in
    rw (p.1, p.2) (tells_map c.in_err-header.field-0.0 _ _
    (λ e. unit_headless (texts_strings c.args.texts.now) c.args.bytes.now _ c.in_ok-outer.ensures.read e) c.in_err-header.ensures.malformed)

pub returns-then-outer-ne8-clause-malformed : goal.returns-then-outer-ne8-clause-malformed
returns-then-outer-ne8-clause-malformed c =
    unit_sized (texts_strings c.args.texts.now) c.args.bytes.now _ c.in_ok-outer.ensures.read c.in_ok-header.header
    c.in_ok-header.ensures.read
    (sizes_false c.in_ok-outer.outer.address_size c.in_ok-outer.outer.segment_size c.then-outer-ne8.either)

pub returns-in_err-sequences-clause-malformed : goal.returns-in_err-sequences-clause-malformed
returns-in_err-sequences-clause-malformed c =
    let p = err_from_is_err_and c.from_residual-in_err-sequences.result c.from_residual-in_err-sequences.ensures.1 in
    let h : code.Header = c.in_ok-header.header in
    let count : c.len-files.result ≡ length h.files.items = search rules in
    let same : is_sound h.coding c.len-files.result c.deref.result.now c.in_ok-outer.outer.program.now
    ≡ is_sound h.coding (length h.files.items) h.lengths.items c.in_ok-outer.outer.program.now
    = λ i. is_sound h.coding (count i) (c.deref.ensures.value i) c.in_ok-outer.outer.program.now in
    rw (p.1, p.2) (tells_map c.in_err-sequences.field-0.0 _ _
    (λ e. unit_unsound (texts_strings c.args.texts.now) c.args.bytes.now _ c.in_ok-outer.ensures.read h c.in_ok-header.ensures.read
    (sym same ∙ e)) c.in_err-sequences.ensures.unsound)

pub invariant_of-result : goal.invariant_of-result
invariant_of-result c =
    let h : code.Header = c.in_ok-header.header in
    let count : c.len-files.result ≡ length h.files.items = search rules in
    let sound : is_sound h.coding (length h.files.items) h.lengths.items c.in_ok-outer.outer.program.now ≡ true =
    sym (λ i. is_sound h.coding (count i) (c.deref.ensures.value i) c.in_ok-outer.outer.program.now) ∙ c.in_ok-sequences.ensures.sound in
    record {
      sound = ap (is_sound h.coding (length h.files.items) h.lengths.items) c.in_ok-program.ensures.items ∙ sound;
      listed = subst (λ (l : List ℕ). AreSequences h.coding l c.in_ok-program.program.items c.in_ok-sequences.sequences.items)
          c.deref.ensures.value
          (subst (λ (p : List ℕ). AreSequences h.coding c.deref.result.now p c.in_ok-sequences.sequences.items)
          (sym c.in_ok-program.ensures.items) c.in_ok-sequences.ensures.sequences);
    }

pub returns-clause-read : goal.returns-clause-read
returns-clause-read c =
    let h : code.Header = c.in_ok-header.header in
    let count : c.len-files.result ≡ length h.files.items = search rules in
    let sound : is_sound h.coding (length h.files.items) h.lengths.items c.in_ok-outer.outer.program.now ≡ true =
    sym (λ i. is_sound h.coding (count i) (c.deref.ensures.value i) c.in_ok-outer.outer.program.now) ∙ c.in_ok-sequences.ensures.sound in
    unit_made (texts_strings c.args.texts.now) c.args.bytes.now _ c.in_ok-outer.ensures.read h c.in_ok-header.ensures.read
    c.in_ok-program.program.items
    (omega arith) (omega arith) sound c.in_ok-program.ensures.items

pub returns-clause-size : goal.returns-clause-size
returns-clause-size c = omega (arith, c.in_ok-header.ensures.size, c.in_ok-outer.ensures.size)

pub returns-clause-tables : goal.returns-clause-tables
returns-clause-tables c =
    c.in_ok-header.ensures.tables

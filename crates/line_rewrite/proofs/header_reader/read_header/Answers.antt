use Rattle.std.proofs.Common.{◌≡◌, ◌<◌, ◌-◌, ◌∙◌, sym, ap, arith, rules, Some, length}
use Rattle.std.proofs.lemmas.Result.{err_from_is_err_and}
use Rattle.rb_bytes.specs.Readers.{Reading}
use Rattle.line_rewrite.specs.Entries.{Strings, table_at}
use Rattle.line_rewrite.specs.KeptEntries.{texts_strings}
use Rattle.line_rewrite.specs.LineUnits.{coding_at, header_in, header_behind}
use Rattle.line_rewrite.specs.KeptUnits.{are_filed}
use Rattle.line_rewrite.proofs.EntryLists.{tells_map}
use Rattle.line_rewrite.proofs.Headers.{header_lacks, header_from, not_numbers, numbers_false, numbers_true, no_lengths, no_directories}
use Rattle.line_rewrite.proofs.Headers.{no_files, no_gap, all_taken, taken_length, header_unfiled, header_made, tables_made}
use Rattle.line_rewrite.proofs.header_reader.read_header.Goals.{In_ok-coding, After-new-tables, After-are_filed}
use Rattle.line_rewrite.proofs.header_reader.read_header.Goals.{After-saturating_sub-table_size}
use Rattle.line_rewrite.proofs.header_reader.read_header.Goals as goal

numbers : (c : In_ok-coding) →
    coding_at c.args.bytes.now ≡ Some ((c.in_ok-coding.coding, c.in_ok-coding.maximum), c.read_coding.new.cursor.left)
numbers c = sym (ap (λ (r : Reading). coding_at r.left) c.new-cursor.ensures) ∙ c.in_ok-coding.ensures.read

header : (c : In_ok-coding) → header_in (texts_strings c.args.texts.now) c.args.bytes.now
    ≡ header_behind (texts_strings c.args.texts.now) c.in_ok-coding.coding c.in_ok-coding.maximum c.read_coding.new.cursor.left
header c =
    header_from (texts_strings c.args.texts.now) c.args.bytes.now c.in_ok-coding.coding c.in_ok-coding.maximum
    c.read_coding.new.cursor.left (numbers c)

behind : (c : After-new-tables) → c.in_ok-rest.rest.now ≡ c.take.new.self.left
behind c = all_taken c.left-size.result c.take.new.self.left _ _ c.left-size.ensures c.in_ok-rest.ensures.read

-- The tables are in the bytes taken last.
tables : (c : After-new-tables) → table_at (texts_strings c.args.texts.now) c.new-tables.result.left
    ≡ table_at (texts_strings c.args.texts.now) c.take.new.self.left
tables c =
    ap (λ (r : Reading). table_at (texts_strings c.args.texts.now) r.left) c.new-tables.ensures
    ∙ ap (table_at (texts_strings c.args.texts.now)) (behind c)

filed : (c : After-are_filed) → are_filed (length c.in_ok-directories.directories.items) c.in_ok-files.files.items ≡ c.are_filed.result
filed c =
    let count : c.len.result ≡ length c.in_ok-directories.directories.items = search rules in
    sym (c.are_filed.ensures ∙ (λ i. are_filed (count i) (c.deref.ensures.value i)))

size : (c : After-saturating_sub-table_size) →
    c.saturating_sub-table_size.result ≡ length c.take.new.self.left - length c.read_table-2.new.cursor.left
size c = c.saturating_sub-table_size.ensures ∙ (λ i. c.left-size.ensures i - c.left.ensures i)

pub returns-in_err-coding-clause-malformed : goal.returns-in_err-coding-clause-malformed
returns-in_err-coding-clause-malformed c =
    let strings : Strings = texts_strings c.args.texts.now in
    let p = err_from_is_err_and c.from_residual.result c.from_residual.ensures.1 in
    rw (p.1, p.2) (tells_map c.in_err-coding.field-0.0 _ _
    (λ e. header_lacks strings c.args.bytes.now (sym (ap (λ (r : Reading). coding_at r.left) c.new-cursor.ensures) ∙ e))
    c.in_err-coding.ensures.malformed)

pub returns-then-maximum-ne1-clause-malformed : goal.returns-then-maximum-ne1-clause-malformed
returns-then-maximum-ne1-clause-malformed c =
    header (goal.at.returns-then-maximum-ne1-clause-malformed c).In_ok-coding
    ∙ not_numbers (texts_strings c.args.texts.now) c.in_ok-coding.coding c.in_ok-coding.maximum c.read_coding.new.cursor.left
    (numbers_false c.in_ok-coding.coding c.in_ok-coding.maximum c.then-maximum-ne1.either)

pub returns-in_err-lengths-clause-malformed : goal.returns-in_err-lengths-clause-malformed
returns-in_err-lengths-clause-malformed c =
    let p = err_from_is_err_and c.from_residual-in_err-lengths.result c.from_residual-in_err-lengths.ensures.1 in
    rw (p.1, p.2) (header (goal.at.returns-in_err-lengths-clause-malformed c).In_ok-coding
    ∙ no_lengths (texts_strings c.args.texts.now) c.in_ok-coding.coding c.in_ok-coding.maximum c.read_coding.new.cursor.left _
    c.in_err-lengths.ensures.gap)

pub returns-in_err-rest-clause-malformed : goal.returns-in_err-rest-clause-malformed
returns-in_err-rest-clause-malformed c =
    absurd (no_gap c.left-size.result c.take.new.self.left _ c.left-size.ensures c.in_err-rest.ensures.gap)

pub returns-in_err-directories-clause-malformed : goal.returns-in_err-directories-clause-malformed
returns-in_err-directories-clause-malformed c =
    let at = goal.at.returns-in_err-directories-clause-malformed c in
    let p = err_from_is_err_and c.from_residual-in_err-directories.result c.from_residual-in_err-directories.ensures.1 in
    rw (p.1, p.2) (tells_map c.in_err-directories.field-0.0 _ _
    (λ e. header at.In_ok-coding ∙ no_directories (texts_strings c.args.texts.now) c.in_ok-coding.coding c.in_ok-coding.maximum
    c.read_coding.new.cursor.left _ _ c.in_ok-lengths.ensures.read (sym (tables at.After-new-tables) ∙ e))
    c.in_err-directories.ensures.malformed)

pub returns-in_err-files-clause-malformed : goal.returns-in_err-files-clause-malformed
returns-in_err-files-clause-malformed c =
    let at = goal.at.returns-in_err-files-clause-malformed c in
    let p = err_from_is_err_and c.from_residual-in_err-files.result c.from_residual-in_err-files.ensures.1 in
    rw (p.1, p.2) (tells_map c.in_err-files.field-0.0 _ _
    (λ e. header at.In_ok-coding ∙ no_files (texts_strings c.args.texts.now) c.in_ok-coding.coding c.in_ok-coding.maximum
    c.read_coding.new.cursor.left _ _ c.in_ok-lengths.ensures.read _ _
    (sym (tables at.After-new-tables) ∙ c.in_ok-directories.ensures.read) e)
    c.in_err-files.ensures.malformed)

pub returns-then-not-are_filed-clause-malformed : goal.returns-then-not-are_filed-clause-malformed
returns-then-not-are_filed-clause-malformed c =
    let at = goal.at.returns-then-not-are_filed-clause-malformed c in
    header_unfiled (texts_strings c.args.texts.now) c.args.bytes.now c.read_coding.new.cursor.left _ _ _ _ c.in_ok-coding.coding
    c.in_ok-coding.maximum c.in_ok-directories.directories.items c.in_ok-files.files.items (numbers at.In_ok-coding)
    c.in_ok-lengths.ensures.read (sym (tables at.After-new-tables) ∙ c.in_ok-directories.ensures.read) c.in_ok-files.ensures.read
    (filed at.After-are_filed ∙ c.if-not-are_filed.true)

pub invariant_of-result : goal.invariant_of-result
invariant_of-result c =
    let base : 0 < c.in_ok-coding.coding.opcode_base = omega arith in
    let count : length c.in_ok-from_slice.field-0.items ≡ c.in_ok-coding.coding.opcode_base - 1 =
    ap length c.in_ok-from_slice.ensures.items ∙ taken_length _ c.read_coding.new.cursor.left _ _ c.in_ok-lengths.ensures.read in
    record { has_range = omega arith; has_lengths = omega (arith, count, base) }

pub returns-clause-read : goal.returns-clause-read
returns-clause-read c =
    let at = goal.at.returns-clause-read c in
    header_made (texts_strings c.args.texts.now) c.args.bytes.now c.read_coding.new.cursor.left _ c.in_ok-from_slice.field-0.items _
    c.in_ok-from_slice-2.field-0.items _ _ c.in_ok-coding.coding c.in_ok-coding.maximum c.saturating_sub-table_size.result
    c.in_ok-directories.directories.items c.in_ok-files.files.items (numbers at.In_ok-coding)
    (numbers_true c.in_ok-coding.coding c.in_ok-coding.maximum (omega arith) (omega arith) (omega arith))
    c.in_ok-lengths.ensures.read
    c.in_ok-from_slice.ensures.items (c.in_ok-from_slice-2.ensures.items ∙ behind at.After-new-tables)
    (sym (tables at.After-new-tables) ∙ c.in_ok-directories.ensures.read) c.in_ok-files.ensures.read
    (filed at.After-are_filed ∙ c.if-not-are_filed.false) (size at.After-saturating_sub-table_size)

pub returns-clause-size : goal.returns-clause-size
returns-clause-size c =
    omega (
      arith,
      ap length (c.in_ok-from_slice-2.ensures.items ∙ behind (goal.at.returns-clause-size c).After-new-tables),
      c.in_ok-lengths.ensures.passes.count,
      c.in_ok-coding.ensures.size,
      ap
          (λ (r : Reading). length r.left) c.new-cursor.ensures,
    )

pub returns-clause-tables : goal.returns-clause-tables
returns-clause-tables c =
    let at = goal.at.returns-clause-tables c in
    record {
      are = tables_made (texts_strings c.args.texts.now) c.take.new.self.left c.in_ok-from_slice-2.field-0.items _ _
          c.saturating_sub-table_size.result c.in_ok-directories.directories.items c.in_ok-files.files.items
          (c.in_ok-from_slice-2.ensures.items ∙ behind at.After-new-tables)
          (sym (tables at.After-new-tables) ∙ c.in_ok-directories.ensures.read)
          c.in_ok-files.ensures.read (size at.After-saturating_sub-table_size);
      filed = filed at.After-are_filed ∙ c.if-not-are_filed.false;
    }

-- Written headers and units are read back.
use Rattle.std.proofs.Common.{◌≡◌, ◌∙◌, ◌<◌, ◌-◌, ◌^◌, ◌&&◌, ◌++◌, ℕ, Bool, true, false, List, [], ◌∷◌, Option, Some}
use Rattle.std.proofs.Common.{None, Ok, refl, sym, ap, arith, length, take, append-nil, nat_lt, negsuc, drop}
use Rattle.std.proofs.lemmas.Bool.Decides.{nat_tests}
use Rattle.std.proofs.lemmas.Grind.{common_steps}
use Rattle.byteorder.specs.Endian.{little_bytes}
use Rattle.rb_bytes.specs.Options.{only_if}
use Rattle.rb_bytes.specs.Readers.{bytes_at}
use Rattle.line_rewrite.specs.declared.header.Header as code
use Rattle.line_rewrite.specs.declared.operation.LineOp.{LineOp}
use Rattle.line_rewrite.specs.Operations.{operations}
use Rattle.line_rewrite.specs.LineMachine.{Sequence, sequences, sound_from, start}
use Rattle.line_rewrite.specs.Entries.{◌>>=◌, Named, Strings, table_at}
use Rattle.line_rewrite.specs.LineUnits.{Header, LineUnit, header_in, unit_of, is_sound_program, coding_at}
use Rattle.line_rewrite.specs.KeptEntries.{told_entries}
use Rattle.line_rewrite.specs.KeptUnits.{tables_at, HasTables, Outer, outer_at, unit_with}
use Rattle.line_rewrite.specs.Written.{written_coding, all_spelled}
use Rattle.line_rewrite.specs.WrittenPrograms.{Piece}
use Rattle.line_rewrite.proofs.PieceSequences.{program_ops, strands}
use Rattle.line_rewrite.specs.WrittenUnits.{flag_byte, operand_counts, header_fields, unit_bytes}
use Rattle.line_rewrite.proofs.Headers.{header_made, unit_from, told_count}
use Rattle.line_rewrite.proofs.Spells.{byte_back, number_back, ops_back}
use Rattle.line_rewrite.proofs.Steps.{operations_end}
use Rattle.line_rewrite.proofs.ProgramsBack.{ops_whole, program_written}
use Rattle.line_rewrite.proofs.Strands.{ArePieces, program_sequences, program_sound}

-- Bytes before others.
bytes_back : (xs rest : List ℕ) (n : ℕ) → n ≡ length xs → bytes_at n (xs ++ rest) ≡ Ok (xs, rest)
bytes_back xs rest n e =
    let t : nat_lt (length (xs ++ rest)) n ≡ false = grind (arith, nat_tests, common_steps) in
    let f : take n (xs ++ rest) ≡ xs = grind (arith, common_steps) in
    let d : drop n (xs ++ rest) ≡ rest = grind (arith, common_steps) in
    rw (t, f, d) refl

flag_back : (b : Bool) → nat_lt 0 (flag_byte b) ≡ b
flag_back true = refl
flag_back false = refl

-- The numbers that operations depend on.
coding_back : (stmt : Bool) (left : List ℕ)
    → coding_at (1 ∷ 1 ∷ flag_byte stmt ∷ 251 ∷ 14 ∷ 13 ∷ left) ≡ Some ((written_coding stmt, 1), left)
coding_back stmt left =
    rw (
      byte_back 1 (1 ∷ flag_byte stmt ∷ 251 ∷ 14 ∷ 13 ∷ left),
      byte_back 1 (flag_byte stmt ∷ 251 ∷ 14 ∷ 13 ∷ left),
      byte_back (flag_byte stmt) (251 ∷ 14 ∷ 13 ∷ left),
      byte_back 251 (14 ∷ 13 ∷ left),
      byte_back 14 (13 ∷ left),
      byte_back 13 left,
    ) (ap (λ (b : Bool). Some
    ((record { minimum_instruction_length = 1; default_is_stmt = b; line_base = negsuc 4; line_range = 14; opcode_base = 13 }, 1), left))
    (flag_back stmt))

-- the tables of a header, one after the other
record Tables (strings : Strings) (left : List ℕ) (directories files : List Named) (n : ℕ) : Type 0 where
  middle : List ℕ
  rest : List ℕ
  first : table_at strings left ≡ Some (directories, middle)
  second : table_at strings middle ≡ Some (files, rest)
  size : n ≡ length left - length rest

tables_of : (strings : Strings) (left : List ℕ) (directories files : List Named) (n : ℕ)
    → tables_at strings left ≡ Some (directories, files, n)
    → Tables strings left directories files n
unfolding tables_at
tables_of strings left directories files n e = by (table_at strings left) refl e
  where
    all_of : List Named → Option (List Named × List ℕ) → Option (List Named × List Named × ℕ)
    all_of ds None = None
    all_of ds (Some read) = Some (ds, read.0, length left - length read.1)

    or_none : Option (List Named × List Named × ℕ) → List Named × List Named × ℕ
    or_none None = ([], [], 0)
    or_none (Some t) = t

    last : (ds : List Named) (middle : List ℕ) → table_at strings left ≡ Some (ds, middle) → (o : Option (List Named × List ℕ))
        → table_at strings middle ≡ o
        → all_of ds o ≡ Some (directories, files, n) → Tables strings left directories files n
    last ds middle f None s g = absurd (cc)
    last ds middle f (Some read) s g = record {
      middle = middle;
      rest = read.1;
      first = f ∙ ap (λ (l : List Named). Some (l, middle)) (ap (λ (t : Option (List Named × List Named × ℕ)). (or_none t).0) g);
      second = s ∙ ap (λ (l : List Named). Some (l, read.1)) (ap (λ (t : Option (List Named × List Named × ℕ)). (or_none t).1) g);
      size = sym (ap (λ (t : Option (List Named × List Named × ℕ)). (or_none t).2) g);
    }

    by : (o : Option (List Named × List ℕ)) → table_at strings left ≡ o
        → (o >>= (λ ds. table_at strings ds.1 >>= (λ fs. all_of ds.0 (Some fs)))) ≡ Some (directories, files, n)
        → Tables strings left directories files n
    by None f g = absurd (cc)
    by (Some ds) f g = middle_of ds f (table_at strings ds.1) refl g
      where
        middle_of : (ds : List Named × List ℕ) → table_at strings left ≡ Some ds → (o : Option (List Named × List ℕ))
            → table_at strings ds.1 ≡ o
            → (o >>= (λ fs. all_of ds.0 (Some fs))) ≡ Some (directories, files, n) → Tables strings left directories files n
        middle_of ds f None s g = absurd (cc)
        middle_of ds f (Some read) s g = last ds.0 ds.1 f (Some read) s g

-- The result of reading a written header.
abbrev pub written_header : Strings → code.Header → Header
written_header strings h = record {
  coding = written_coding h.coding.default_is_stmt;
  lengths = operand_counts;
  tables = take h.table_size h.rest.items;
  directories = told_entries strings h.directories.items;
  files = told_entries strings h.files.items;
}

header_back : (strings : Strings) (h : code.Header) → HasTables strings h
    → header_in strings (header_fields h) ≡ Some (written_header strings h)
header_back strings h has =
    let stmt = h.coding.default_is_stmt in
    let t = tables_of strings h.rest.items (told_entries strings h.directories.items)
    (told_entries strings h.files.items) h.table_size has.are in
    header_made strings (header_fields h)
    (operand_counts ++ h.rest.items) operand_counts operand_counts h.rest.items h.rest.items t.middle t.rest
    (written_coding stmt) 1 h.table_size h.directories.items h.files.items (coding_back stmt (operand_counts ++ h.rest.items)) refl
    (bytes_back operand_counts h.rest.items 12 refl) refl refl t.first t.second has.filed t.size

outer_back : (h : code.Header) (program : List ℕ) → length (header_fields h) < 2 ^ 32
    → outer_at (unit_bytes h program) ≡ Some (record { address_size = 8; segment_size = 0; fields = header_fields h; program = program })
unfolding unit_bytes
outer_back h program small =
    let size : ℕ = length (header_fields h) in
    let left : List ℕ = little_bytes 4 size ++ (header_fields h ++ program) in
    rw (
      number_back 2 5 (8 ∷ 0 ∷ left) (omega arith),
      byte_back 8 (0 ∷ left),
      byte_back 0 left,
      number_back 4 size (header_fields h ++ program) (omega (arith, small)),
      bytes_back (header_fields h) program size refl,
    ) refl

-- A unit that is written from pieces.
abbrev pub written_unit : Strings → code.Header → List Piece → LineUnit
written_unit strings h us = record {
  tables = take h.table_size h.rest.items;
  directories = told_entries strings h.directories.items;
  files = told_entries strings h.files.items;
  sequences = strands us;
}

abbrev pub piece_program : Bool → List Piece → List ℕ
piece_program stmt us = all_spelled (program_ops (written_coding stmt) None us)

pub unit_back : (strings : Strings) (h : code.Header) (us : List Piece) (lo : ℕ) → HasTables strings h
    → ArePieces (length h.files.items) lo us
    → length (header_fields h) < 2 ^ 32
    → unit_of strings (unit_bytes h (piece_program h.coding.default_is_stmt us)) ≡ Some (written_unit strings h us)
unit_back strings h us lo has are small =
    let stmt = h.coding.default_is_stmt in
    let ops : List LineOp = program_ops (written_coding stmt) None us in
    let program : List ℕ = all_spelled ops in
    let outer : Outer = record { address_size = 8; segment_size = 0; fields = header_fields h; program = program } in
    let written = program_written (written_coding stmt) (length h.files.items) lo None us tt are in
    let back : operations 13 operand_counts program ≡ ops =
    sym (ap (operations 13 operand_counts) (append-nil program)) ∙ ops_back operand_counts ops [] written
    ∙ ap (λ (l : List LineOp). ops ++ l) (operations_end 13 operand_counts [] refl) ∙ append-nil ops in
    let count : length (told_entries strings h.files.items) ≡ length h.files.items = told_count strings h.files.items in
    let sound : is_sound_program (written_header strings h) program ≡ true =
    ap (λ (b : Bool). b && sound_from (written_coding stmt) (length (told_entries strings h.files.items)) None (start (written_coding stmt))
    (operations 13 operand_counts program))
    (ops_whole operand_counts ops written)
    ∙ ap (λ (l : List LineOp). sound_from (written_coding stmt) (length (told_entries strings h.files.items)) None
    (start (written_coding stmt)) l) back
    ∙ ap (λ (n : ℕ). sound_from (written_coding stmt) n None (start (written_coding stmt)) ops) count
    ∙ program_sound stmt (length h.files.items) us lo are in
    let made : sequences (written_coding stmt) (operations 13 operand_counts program) ≡ strands us =
    ap (sequences (written_coding stmt)) back ∙ program_sequences stmt (length h.files.items) us lo are in
    unit_from strings (unit_bytes h program) outer (outer_back h program small)
    ∙ ap (λ (o : Option Header). o >>= (λ header. only_if (is_sound_program header program) (unit_with header program)))
    (header_back strings h has)
    ∙ ap (λ (b : Bool). only_if b (unit_with (written_header strings h) program)) sound
    ∙ ap (λ (ss : List Sequence). Some (record {
      tables = take h.table_size h.rest.items;
      directories = told_entries strings h.directories.items;
      files = told_entries strings h.files.items;
      sequences = ss;
    })) made

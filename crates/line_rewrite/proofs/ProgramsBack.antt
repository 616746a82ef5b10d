-- Programs that are written for pieces: their operations are read back, take all bytes, and are bounded in size.
use Rattle.std.proofs.Common.{◌≡◌, ◌<◌, ◌≤◌, ◌-◌, ◌+◌, ◌*◌, ◌^◌, ◌==◌, ◌++◌, ◌&&◌, ℕ, List, [], ◌∷◌, refl, arith, ◌∙◌, ap}
use Rattle.std.specs.Bool.{beq}
use Rattle.std.proofs.Common.{Bool, true, false, cond, not, nat_le, nat_lt, length, length-append, Option, Some, None, FitsSigned}
use Rattle.std.proofs.lemmas.Bool.{eq-eqb}
use Rattle.std.proofs.lemmas.Bool.Decides.{nat_tests}
use Rattle.std.proofs.lemmas.Int.{ints}
use Rattle.std.proofs.lemmas.List.Sums.{sum_by-cons}
use Rattle.std.specs.Int.{w64}
use Rattle.std.specs.Prelude.{sum_by}
use Rattle.byteorder.specs.Numbers.{length-bytes_low_first}
use Rattle.byteorder.specs.Endian.{little_bytes}
use Rattle.rb_bytes.specs.Leb.{uleb}
use Rattle.rb_bytes.proofs.UnsignedLeb.{length-uleb-le, uleb-last}
use Rattle.rb_bytes.proofs.SignedLeb.{length-sleb-le}
use Rattle.line_rewrite.specs.declared.coding.Coding.{Coding}
use Rattle.line_rewrite.specs.declared.registers.Registers.{Registers}
use Rattle.line_rewrite.specs.declared.operation.LineOp.{LineOp}
use Rattle.line_rewrite.specs.declared.operation.LineOp.TheVariants.{Special, Copy, AdvancePc, AdvanceLine, SetFile, SetColumn}
use Rattle.line_rewrite.specs.declared.operation.LineOp.TheVariants.{NegateStmt, SetBasicBlock, SetPrologueEnd, SetEpilogueBegin, SetIsa}
use Rattle.line_rewrite.specs.declared.operation.LineOp.TheVariants.{EndSequence, SetAddress, SetDiscriminator}
use Rattle.line_rewrite.specs.declared.run_writer.Going.{Going}
use Rattle.line_rewrite.specs.Operations.{is_whole, whole_within}
use Rattle.line_rewrite.specs.LineMachine.{after_row}
use Rattle.line_rewrite.specs.Written.{IsRow, unless, line_distance, above_base, step_ops, row_ops, rows_ops, spelled, all_spelled}
use Rattle.line_rewrite.specs.WrittenPrograms.{Piece, piece_end, first_file, opened, close_ops, open_ops, run_ops, piece_ops}
use Rattle.line_rewrite.specs.WrittenPrograms.{going_after, closing_ops}
use Rattle.line_rewrite.proofs.PieceSequences.{program_ops}
use Rattle.line_rewrite.proofs.RowOps.{spelled_append, first2, first3, first4, first5, first6, first7, first8}
use Rattle.line_rewrite.proofs.Soundness.{whole_step}
use Rattle.line_rewrite.proofs.Spells.{IsWritten, AreWritten, op_back}
use Rattle.line_rewrite.proofs.Strands.{ArePieceRows, ArePieces}

pub ops_whole : (lengths : List ℕ) (ops : List LineOp) → AreWritten ops → is_whole 13 lengths (all_spelled ops) ≡ true
unfolding is_whole whole_within
ops_whole lengths [] w = refl
ops_whole lengths (op ∷ ops) w =
    whole_step 13 lengths (spelled op ++ all_spelled ops) (all_spelled ops) op (op_back lengths op (all_spelled ops) w.0)
    ∙ ops_whole lengths ops w.1

-- The operations of pieces are written.

are_append : (xs ys : List LineOp) → AreWritten xs → AreWritten ys → AreWritten (xs ++ ys)
are_append [] ys a b = b
are_append (x ∷ xs) ys a b = (a.0, are_append xs ys a.1 b)

unless_written : (needless : Bool) (op : LineOp) → IsWritten op → AreWritten (unless needless op)
unless_written true op w = tt
unless_written false op w = (w, tt)

signed_fits : (from to : ℕ) → FitsSigned w64 (line_distance from to)
signed_fits from to = omega (arith, ints)

special_small : (above by : ℕ) → nat_lt above 14 ≡ true → nat_le by 16 ≡ true → above + 14 * by < 243
special_small above by s t =
    let a : above < 14 = grind (arith, nat_tests) in
    let b : by ≤ 16 = grind (arith, nat_tests) in
    omega arith

step_written : (r row : Registers) → IsRow row → AreWritten (step_ops r row)
step_written r row fits = one (nat_lt (above_base r.line row.line) 14) (nat_le (row.address - r.address) 16) refl refl
  where
    plain : AreWritten (unless (r.line == row.line) (AdvanceLine (line_distance r.line row.line)) ++ unless (r.address == row.address)
        (AdvancePc (row.address - r.address)) ++ Copy ∷ [])
    plain =
        let h : row.address < 2 ^ 64 = fits.address in
        are_append (unless (r.line == row.line) (AdvanceLine (line_distance r.line row.line)) ++ unless (r.address == row.address)
        (AdvancePc (row.address - r.address))) (Copy ∷ [])
        (are_append (unless (r.line == row.line) (AdvanceLine (line_distance r.line row.line)))
        (unless (r.address == row.address) (AdvancePc (row.address - r.address)))
        (unless_written (r.line == row.line) (AdvanceLine (line_distance r.line row.line)) (signed_fits r.line row.line))
        (unless_written (r.address == row.address) (AdvancePc (row.address - r.address)) (omega arith))) (tt, tt)

    one : (low near : Bool) → nat_lt (above_base r.line row.line) 14 ≡ low → nat_le (row.address - r.address) 16 ≡ near
        → AreWritten (cond (low && near) (Special (above_base r.line row.line + 14 * (row.address - r.address)) ∷ [])
        (unless (r.line == row.line) (AdvanceLine (line_distance r.line row.line)) ++ unless (r.address == row.address)
        (AdvancePc (row.address - r.address)) ++ Copy ∷ []))
    one true true s t = (special_small (above_base r.line row.line) (row.address - r.address) s t, tt)
    one true false s t = plain
    one false near s t = plain

row_written : (r row : Registers) → IsRow row → AreWritten (row_ops r row)
row_written r row fits =
    are_append (first8 r row) (step_ops r row)
    (are_append (first7 r row) (unless (row.discriminator == 0) (SetDiscriminator row.discriminator))
    (are_append (first6 r row) (unless (r.isa == row.isa) (SetIsa row.isa))
    (are_append (first5 r row) (unless (not row.epilogue_begin) SetEpilogueBegin)
    (are_append (first4 r row) (unless (not row.prologue_end) SetPrologueEnd)
    (are_append (first3 r row) (unless (not row.basic_block) SetBasicBlock)
    (are_append (first2 r row) (unless (beq r.is_stmt row.is_stmt) NegateStmt)
    (are_append (unless (r.file == row.file) (SetFile row.file)) (unless (r.column == row.column) (SetColumn row.column))
    (unless_written (r.file == row.file) (SetFile row.file) fits.file)
    (unless_written (r.column == row.column) (SetColumn row.column) fits.column))
    (unless_written (beq r.is_stmt row.is_stmt) NegateStmt tt))
    (unless_written (not row.basic_block) SetBasicBlock tt))
    (unless_written (not row.prologue_end) SetPrologueEnd tt))
    (unless_written (not row.epilogue_begin) SetEpilogueBegin tt))
    (unless_written (r.isa == row.isa) (SetIsa row.isa) fits.isa))
    (unless_written (row.discriminator == 0) (SetDiscriminator row.discriminator) fits.discriminator))
    (step_written r row fits)

rows_written : (files a : ℕ) (r : Registers) (rows : List Registers) → ArePieceRows files a rows → AreWritten (rows_ops r rows)
rows_written files a r [] are = tt
rows_written files a r (row ∷ rows) are =
    are_append (row_ops r row) (rows_ops (after_row row) rows) (row_written r row are.0) (rows_written files a (after_row row) rows are.3)

-- An open sequence ends below 2^64.
abbrev pub EndsLow : Option Going → Type 0
EndsLow None = Unit {0}
EndsLow (Some g) = g.end < 2 ^ 64

close_written : (g : Going) → g.end < 2 ^ 64 → AreWritten (close_ops g)
close_written g h = (omega arith, (tt, tt))

closing_written : (o : Option Going) → EndsLow o → AreWritten (closing_ops o)
closing_written None low = tt
closing_written (Some g) low = close_written g low

file_written : (files a : ℕ) (rows : List Registers) → ArePieceRows files a rows → first_file rows < 2 ^ 64
file_written files a [] are = omega arith
file_written files a (row ∷ rows) are = are.0.file

open_written : (coding : Coding) (files a : ℕ) (rows : List Registers) → a < 2 ^ 64 → ArePieceRows files a rows
    → AreWritten (open_ops coding a rows)
open_written coding files a rows h are = (h, (file_written files a rows are, rows_written files a (opened coding a rows) rows are))

run_written : (coding : Coding) (files : ℕ) (o : Option Going) (a : ℕ) (rows : List Registers) → EndsLow o → a < 2 ^ 64
    → ArePieceRows files a rows
    → AreWritten (run_ops coding o a rows)
run_written coding files None a rows low h are = open_written coding files a rows h are
run_written coding files (Some g) a rows low h are = by (g.end == a)
  where
    by : (b : Bool) → AreWritten (cond b (rows_ops g.registers rows) (close_ops g ++ open_ops coding a rows))
    by true = rows_written files a g.registers rows are
    by false = are_append (close_ops g) (open_ops coding a rows) (close_written g low) (open_written coding files a rows h are)

pub program_written : (coding : Coding) (files lo : ℕ) (o : Option Going) (us : List Piece) → EndsLow o → ArePieces files lo us
    → AreWritten (program_ops coding o us)
unfolding program_ops
program_written coding files lo o [] low are = closing_written o low
program_written coding files lo o (u ∷ us) low are =
    let piece = are.0 in
    let end : u.start + u.len < 2 ^ 64 = piece.end in
    are_append (piece_ops coding o u) (program_ops coding (Some (going_after coding o u)) us)
    (run_written coding files o u.start u.rows low (omega arith) piece.rows)
    (program_written coding files (piece_end u) (Some (going_after coding o u)) us end are.2)

-- The number of their bytes

abbrev size : List LineOp → ℕ
size ops = length (all_spelled ops)

size_append : (xs ys : List LineOp) → size (xs ++ ys) ≡ size xs + size ys
size_append xs ys = ap length (spelled_append xs ys) ∙ length-append (all_spelled xs) (all_spelled ys)

one_size : (op : LineOp) → size (op ∷ []) ≡ length (spelled op)
one_size op = length-append (spelled op) [] ∙ omega arith

unless_size : (needless : Bool) (op : LineOp) (n : ℕ) → length (spelled op) ≤ n → size (unless needless op) ≤ n
unless_size true op n h = omega arith
unless_size false op n h = omega (arith, one_size op)

abbrev line_ops : Registers → Registers → List LineOp
line_ops r row = unless (r.line == row.line) (AdvanceLine (line_distance r.line row.line))

abbrev address_ops : Registers → Registers → List LineOp
address_ops r row = unless (r.address == row.address) (AdvancePc (row.address - r.address))

plain_size : (r row : Registers) → size (line_ops r row ++ address_ops r row ++ Copy ∷ []) ≤ 23
plain_size r row =
    let a : size (line_ops r row) ≤ 11 =
    unless_size (r.line == row.line) (AdvanceLine (line_distance r.line row.line)) 11
    (omega (arith, length-sleb-le (line_distance r.line row.line))) in
    let b : size (address_ops r row) ≤ 11 =
    unless_size (r.address == row.address) (AdvancePc (row.address - r.address)) 11
    (omega (arith, length-uleb-le (row.address - r.address))) in
    let c : size (line_ops r row ++ address_ops r row ++ Copy ∷ []) ≡ size (line_ops r row) + size (address_ops r row) + 1 =
    size_append (line_ops r row ++ address_ops r row) (Copy ∷ [])
    ∙ ap (λ (n : ℕ). n + 1) (size_append (line_ops r row) (address_ops r row)) in
    omega (arith, a, b, c)

step_size : (r row : Registers) → size (step_ops r row) ≤ 23
step_size r row = one (nat_lt (above_base r.line row.line) 14 && nat_le (row.address - r.address) 16)
  where
    one : (b : Bool) → size
        (cond b (Special (above_base r.line row.line + 14 * (row.address - r.address)) ∷ [])
        (line_ops r row ++ address_ops r row ++ Copy ∷ [])) ≤ 23
    one true = omega arith
    one false = plain_size r row

both_sizes : (xs ys : List LineOp) (m n : ℕ) → size xs ≤ m → size ys ≤ n → size (xs ++ ys) ≤ m + n
both_sizes xs ys m n h k = omega (arith, size_append xs ys, h, k)

both_within : (xs ys : List LineOp) (m n k : ℕ) → m + n ≤ k → size xs ≤ m → size ys ≤ n → size (xs ++ ys) ≤ k
both_within xs ys m n k e h l = omega (arith, size_append xs ys, e, h, l)

-- With at most `n` bytes for setting the file.
row_size_by : (r row : Registers) (n : ℕ) → size (unless (r.file == row.file) (SetFile row.file)) ≤ n → size (row_ops r row) ≤ n + 62
row_size_by r row n h =
    both_within (first8 r row) (step_ops r row) (n + 39) 23 (n + 62) (omega arith)
    (both_within (first7 r row) (unless (row.discriminator == 0) (SetDiscriminator row.discriminator)) (n + 26) 13 (n + 39) (omega arith)
    (both_within (first6 r row) (unless (r.isa == row.isa) (SetIsa row.isa)) (n + 15) 11 (n + 26) (omega arith)
    (both_within (first5 r row) (unless (not row.epilogue_begin) SetEpilogueBegin) (n + 14) 1 (n + 15) (omega arith)
    (both_within (first4 r row) (unless (not row.prologue_end) SetPrologueEnd) (n + 13) 1 (n + 14) (omega arith)
    (both_within (first3 r row) (unless (not row.basic_block) SetBasicBlock) (n + 12) 1 (n + 13) (omega arith)
    (both_within (first2 r row) (unless (beq r.is_stmt row.is_stmt) NegateStmt) (n + 11) 1 (n + 12) (omega arith)
    (both_within (unless (r.file == row.file) (SetFile row.file)) (unless (r.column == row.column) (SetColumn row.column)) n 11 (n + 11)
    (omega arith) h (unless_size (r.column == row.column) (SetColumn row.column) 11 (omega (arith, length-uleb-le row.column))))
    (unless_size (beq r.is_stmt row.is_stmt) NegateStmt 1 (omega arith)))
    (unless_size (not row.basic_block) SetBasicBlock 1 (omega arith)))
    (unless_size (not row.prologue_end) SetPrologueEnd 1 (omega arith)))
    (unless_size (not row.epilogue_begin) SetEpilogueBegin 1 (omega arith)))
    (unless_size (r.isa == row.isa) (SetIsa row.isa) 11 (omega (arith, length-uleb-le row.isa))))
    (unless_size (row.discriminator == 0) (SetDiscriminator row.discriminator) 13 (omega (arith, length-uleb-le row.discriminator))))
    (step_size r row)

file_size : (row : Registers) → length (spelled (SetFile row.file)) ≤ 11
file_size row = omega (arith, length-uleb-le row.file)

row_size : (r row : Registers) → size (row_ops r row) ≤ 73
row_size r row = row_size_by r row 11 (unless_size (r.file == row.file) (SetFile row.file) 11 (file_size row))

-- A row of the file that is set already.
filed_size : (r row : Registers) → r.file ≡ row.file → size (row_ops r row) ≤ 62
filed_size r row same =
    let t : (r.file == row.file) ≡ true = eq-eqb r.file row.file same in
    let none : size (unless (r.file == row.file) (SetFile row.file)) ≤ 0 = rw t (omega arith) in
    row_size_by r row 0 none

rows_size : (r : Registers) (rows : List Registers) → size (rows_ops r rows) ≤ 73 * length rows
rows_size r [] = omega arith
rows_size r (row ∷ rows) =
    let more : size (row_ops r row ++ rows_ops (after_row row) rows) ≤ 73 + 73 * length rows =
    both_sizes (row_ops r row) (rows_ops (after_row row) rows) 73 (73 * length rows) (row_size r row) (rows_size (after_row row) rows) in
    omega (arith, more)

close_size : (g : Going) → size (close_ops g) ≤ 14
close_size g =
    let by : ℕ = g.end - g.registers.address in
    let a : size (close_ops g) ≡ length (spelled (AdvancePc by)) + 3 = length-append (spelled (AdvancePc by)) (spelled EndSequence ++ []) in
    omega (arith, a, length-uleb-le by)

-- The first row of an opened sequence doesn't set the file.
open_size : (coding : Coding) (a : ℕ) (rows : List Registers) → size (open_ops coding a rows) ≤ 13 + 73 * length rows
open_size coding a rows =
    let file : LineOp = SetFile (first_file rows) in
    let more : List LineOp = rows_ops (opened coding a rows) rows in
    let e : size (open_ops coding a rows) ≡ length (spelled (SetAddress a)) + size (file ∷ more) =
    length-append (spelled (SetAddress a)) (all_spelled (file ∷ more)) in
    let f : size (file ∷ more) ≡ length (spelled file) + size more = length-append (spelled file) (all_spelled more) in
    let l : length (little_bytes 8 a) ≡ 8 = length-bytes_low_first 0 8 a in
    omega (arith, e, f, l, named rows)
  where
    named : (rows : List Registers)
        → length (spelled (SetFile (first_file rows))) + size (rows_ops (opened coding a rows) rows) ≤ 2 + 73 * length rows
    named [] = let one : length (uleb 1) ≡ 1 = ap length (uleb-last 1 (omega arith)) in omega (arith, one)
    named (row ∷ rows) =
        let r : Registers = opened coding a (row ∷ rows) in
        let both : size (row_ops r row ++ rows_ops (after_row row) rows) ≤ 62 + 73 * length rows =
        both_sizes (row_ops r row) (rows_ops (after_row row) rows) 62 (73 * length rows) (filed_size r row refl)
        (rows_size (after_row row) rows) in
        omega (arith, both, file_size row)

-- The bytes that close an open sequence.
abbrev closing_size : Option Going → ℕ
closing_size None = 0
closing_size (Some g) = 14

run_size : (coding : Coding) (o : Option Going) (a : ℕ) (rows : List Registers)
    → size (run_ops coding o a rows) ≤ closing_size o + (13 + 73 * length rows)
run_size coding None a rows = omega (arith, open_size coding a rows)
run_size coding (Some g) a rows = by (g.end == a)
  where
    by : (b : Bool) → size (cond b (rows_ops g.registers rows) (close_ops g ++ open_ops coding a rows)) ≤ 14 + (13 + 73 * length rows)
    by true = omega (arith, rows_size g.registers rows)
    by false = both_sizes (close_ops g) (open_ops coding a rows) 14 (13 + 73 * length rows) (close_size g) (open_size coding a rows)

-- The most bytes that a piece takes.
abbrev pub piece_size : Piece → ℕ
piece_size u = 27 + 73 * length u.rows

closing_bound : (o : Option Going) → size (closing_ops o) ≤ closing_size o
closing_bound None = omega arith
closing_bound (Some g) = close_size g

program_bound : (coding : Coding) (o : Option Going) (us : List Piece)
    → size (program_ops coding o us) ≤ closing_size o + sum_by piece_size us
unfolding program_ops
program_bound coding o [] = omega (arith, closing_bound o)
program_bound coding o (u ∷ us) =
    let more : size (piece_ops coding o u ++ program_ops coding (Some (going_after coding o u)) us)
    ≤ (closing_size o + (13 + 73 * length u.rows)) + (14 + sum_by piece_size us) =
    both_sizes (piece_ops coding o u) (program_ops coding (Some (going_after coding o u)) us) (closing_size o + (13 + 73 * length u.rows))
    (14 + sum_by piece_size us)
    (run_size coding o u.start u.rows) (program_bound coding (Some (going_after coding o u)) us) in
    let all : size (program_ops coding o (u ∷ us)) ≤ (closing_size o + (13 + 73 * length u.rows)) + (14 + sum_by piece_size us) = more in
    omega (arith, all, sum_by-cons piece_size u us)

pub program_size : (coding : Coding) (us : List Piece) → length (all_spelled (program_ops coding None us)) ≤ sum_by piece_size us
program_size coding us = omega (arith, program_bound coding None us)

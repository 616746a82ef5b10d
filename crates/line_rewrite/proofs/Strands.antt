-- The program that is written for runs is read back.
use Rattle.std.proofs.Common.{◌≡◌, ◌<◌, ◌≤◌, ◌-◌, ◌+◌, ◌*◌, ◌^◌, ◌==◌, ◌++◌, ℕ, List, [], ◌∷◌, refl, arith, sym, ◌∙◌, ap}
use Rattle.std.proofs.Common.{append_assoc, append-nil, Bool, true, false, cond, nat_lt, length, Option, Some, None}
use Rattle.std.proofs.lemmas.Bool.Decides.{nat_tests}
use Rattle.line_rewrite.specs.declared.coding.Coding.{Coding}
use Rattle.line_rewrite.specs.declared.registers.Registers.{Registers}
use Rattle.line_rewrite.specs.declared.run_writer.Going.{Going}
use Rattle.line_rewrite.specs.declared.operation.LineOp.{LineOp}
use Rattle.line_rewrite.specs.LineMachine.{rows_from, sequences_from, sequences, sound_from, Sequence, after_row, start, follows}
use Rattle.line_rewrite.specs.Written.{IsRow, written_coding, rows_ops}
use Rattle.line_rewrite.specs.WrittenPrograms.{Piece, piece_end, after_rows, opened, close_ops, open_ops}
use Rattle.line_rewrite.proofs.PieceSequences.{program_ops, rows_on, end_on, strand, others_on, strands}
use Rattle.line_rewrite.proofs.Ascending.{Follow}
use Rattle.line_rewrite.proofs.Does.{Does, does_rows, does_sequences, does_sound, last_after, IsFresh, after_fresh, AreRows, rows_do}

-- Rows at an address, with files below a number.
abbrev pub ArePieceRows : ℕ → ℕ → List Registers → Type 0
ArePieceRows files a [] = Unit {0}
ArePieceRows files a (row ∷ rows) = IsRow row × (row.address ≡ a) × (row.file < files) × ArePieceRows files a rows

pub record IsPiece (files : ℕ) (u : Piece) : Type 0 where
  pub some : 0 < u.len
  pub end : u.start + u.len < 2 ^ 64
  pub rows : ArePieceRows files u.start u.rows
  pub any : 0 < length u.rows

-- Pieces ascend, from an address on.
abbrev pub ArePieces : ℕ → ℕ → List Piece → Type 0
ArePieces files lo [] = Unit {0}
ArePieces files lo (u ∷ us) = IsPiece files u × (lo ≤ u.start) × ArePieces files (piece_end u) us

pub record IsGoing (g : Going) : Type 0 where
  pub fresh : IsFresh g.registers
  pub before : g.registers.address ≤ g.end
  pub end : g.end < 2 ^ 64

are_rows : (files a from : ℕ) (rows : List Registers) → from ≤ a → ArePieceRows files a rows → AreRows from rows
are_rows files a from [] h are = tt
are_rows files a from (row ∷ rows) h are =
    let at : row.address ≡ a = are.1 in
    (are.0, omega arith, are_rows files a row.address rows (omega arith) are.3)

rows_fresh : (files a : ℕ) (r : Registers) (rows : List Registers) → IsFresh r → ArePieceRows files a rows → IsFresh (after_rows r rows)
rows_fresh files a r [] fresh are = fresh
rows_fresh files a r (row ∷ rows) fresh are = rows_fresh files a (after_row row) rows (after_fresh row are.0) are.3

rows_low : (files a : ℕ) (r : Registers) (rows : List Registers) → r.address ≤ a → ArePieceRows files a rows
    → (after_rows r rows).address ≤ a
rows_low files a r [] h are = h
rows_low files a r (row ∷ rows) h are = let at : row.address ≡ a = are.1 in rows_low files a (after_row row) rows (omega arith) are.3

opened_fresh : (stmt : Bool) (a : ℕ) (rows : List Registers) → IsFresh (opened (written_coding stmt) a rows)
opened_fresh stmt a rows = record { block = refl; prologue = refl; epilogue = refl; discriminator = refl; line = omega arith }

going_on : (stmt : Bool) (files : ℕ) (r : Registers) (u : Piece) → IsFresh r → r.address ≤ u.start → IsPiece files u
    → IsGoing (record { registers = after_rows r u.rows; end = piece_end u })
going_on stmt files r u fresh low piece =
    let h : (after_rows r u.rows).address ≤ u.start = rows_low files u.start r u.rows low piece.rows in
    record { fresh = rows_fresh files u.start r u.rows fresh piece.rows; before = omega arith; end = piece.end }

piece_does : (stmt : Bool) (files : ℕ) (r : Registers) (u : Piece) → IsFresh r → r.address ≤ u.start → IsPiece files u
    → Does (written_coding stmt) r (rows_ops r u.rows) u.rows (after_rows r u.rows)
piece_does stmt files r u fresh low piece = rows_do stmt r u.rows fresh (are_rows files u.start r.address u.rows low piece.rows)

-- The operations that close a sequence

close_rows : (stmt : Bool) (g : Going) (more : List LineOp) → IsGoing g
    → rows_from (written_coding stmt) g.registers (close_ops g ++ more) ≡ []
unfolding rows_from
close_rows stmt g more is =
    let n : (g.end - g.registers.address) * 1 ≡ g.end - g.registers.address = omega arith in
    let low : g.registers.address ≤ g.end = is.before in
    let fits : g.end < 2 ^ 64 = is.end in
    let t : nat_lt (g.registers.address + (g.end - g.registers.address)) (2 ^ 64) ≡ true = grind (arith, nat_tests) in
    rw (n, t) refl

close_sequences : (stmt : Bool) (whole : List Registers) (g : Going) (more : List LineOp) → IsGoing g
    → sequences_from (written_coding stmt) whole g.registers (close_ops g ++ more) ≡ record { rows = whole; end = g.end } ∷ sequences
    (written_coding stmt) more
unfolding sequences_from
close_sequences stmt whole g more is =
    let n : (g.end - g.registers.address) * 1 ≡ g.end - g.registers.address = omega arith in
    let low : g.registers.address ≤ g.end = is.before in
    let fits : g.end < 2 ^ 64 = is.end in
    let t : nat_lt (g.registers.address + (g.end - g.registers.address)) (2 ^ 64) ≡ true = grind (arith, nat_tests) in
    let e : g.registers.address + (g.end - g.registers.address) ≡ g.end = omega arith in
    rw (n, t) (ap (λ (k : ℕ). record { rows = whole; end = k } ∷ sequences (written_coding stmt) more) e)

close_sound : (stmt : Bool) (files : ℕ) (last : Option ℕ) (g : Going) (more : List LineOp) → IsGoing g → follows last g.end ≡ true
    → sound_from (written_coding stmt) files last g.registers (close_ops g ++ more) ≡ sound_from (written_coding stmt) files None
    (start (written_coding stmt)) more
unfolding sound_from
close_sound stmt files last g more is f =
    let n : (g.end - g.registers.address) * 1 ≡ g.end - g.registers.address = omega arith in
    let low : g.registers.address ≤ g.end = is.before in
    let fits : g.end < 2 ^ 64 = is.end in
    let t : nat_lt (g.registers.address + (g.end - g.registers.address)) (2 ^ 64) ≡ true = grind (arith, nat_tests) in
    let e : g.registers.address + (g.end - g.registers.address) ≡ g.end = omega arith in
    rw (n, t, e, f) refl

-- An open sequence, and the pieces after it

module _ (stmt : Bool) (files : ℕ) where
  coding : Coding
  coding = written_coding stmt

  -- The rows of an open sequence.
  pub going_rows : (g : Going) (us : List Piece) (more : List LineOp) → IsGoing g → ArePieces files g.end us
      → rows_from (written_coding stmt) g.registers (program_ops (written_coding stmt) (Some g) us ++ more) ≡ rows_on g.end us
  unfolding program_ops rows_on
  going_rows g [] more is are = close_rows stmt g more is
  going_rows g (u ∷ us) more is are = by (g.end == u.start) refl
      (going_rows (record { registers = after_rows g.registers u.rows; end = piece_end u }) us more)
    where
      by : (b : Bool) → (g.end == u.start) ≡ b
          → (IsGoing (record { registers = after_rows g.registers u.rows; end = piece_end u }) → ArePieces files (piece_end u) us
          → rows_from (written_coding stmt) (after_rows g.registers u.rows)
          (program_ops (written_coding stmt) (Some (record { registers = after_rows g.registers u.rows; end = piece_end u })) us ++ more) ≡
          rows_on (piece_end u) us)
          → rows_from (written_coding stmt) g.registers
          ((cond b (rows_ops g.registers u.rows) (close_ops g ++ open_ops (written_coding stmt) u.start u.rows)
          ++ program_ops (written_coding stmt)
          (Some (record {
            registers = after_rows (cond b g.registers (opened (written_coding stmt) u.start u.rows)) u.rows;
            end = piece_end u;
          })) us) ++ more)
          ≡ cond b (u.rows ++ rows_on (piece_end u) us) []
      by true e rest =
          let low : g.end ≤ u.start = are.1 in
          let before : g.registers.address ≤ g.end = is.before in
          let next : IsGoing (record { registers = after_rows g.registers u.rows; end = piece_end u }) =
          going_on stmt files g.registers u is.fresh (omega arith) are.0 in
          let tail : List LineOp =
          program_ops (written_coding stmt) (Some (record { registers = after_rows g.registers u.rows; end = piece_end u })) us in
          ap (rows_from (written_coding stmt) g.registers) (append_assoc (rows_ops g.registers u.rows) tail more)
          ∙ does_rows (written_coding stmt) g.registers (rows_ops g.registers u.rows) u.rows (after_rows g.registers u.rows) (tail ++ more)
          (piece_does stmt files g.registers u is.fresh (omega arith) are.0)
          ∙ ap (λ (l : List Registers). u.rows ++ l) (rest next are.2)
      by false e rest =
          let tail : List LineOp =
          program_ops (written_coding stmt)
          (Some (record { registers = after_rows (opened (written_coding stmt) u.start u.rows) u.rows; end = piece_end u })) us in
          ap (rows_from (written_coding stmt) g.registers)
          (ap (λ (l : List LineOp). l ++ more) (append_assoc (close_ops g) (open_ops (written_coding stmt) u.start u.rows) tail)
          ∙ append_assoc (close_ops g) (open_ops (written_coding stmt) u.start u.rows ++ tail) more)
          ∙ close_rows stmt g ((open_ops (written_coding stmt) u.start u.rows ++ tail) ++ more) is

  -- The rows of a sequence that a piece opens.
  opened_rows : (u : Piece) (us : List Piece) → IsPiece files u → ArePieces files (piece_end u) us
      → rows_from (written_coding stmt) (opened (written_coding stmt) u.start u.rows)
      (rows_ops (opened (written_coding stmt) u.start u.rows) u.rows
      ++ program_ops (written_coding stmt)
      (Some (record { registers = after_rows (opened (written_coding stmt) u.start u.rows) u.rows; end = piece_end u })) us)
      ≡ u.rows ++ rows_on (piece_end u) us
  opened_rows u us piece are =
      let r : Registers = opened (written_coding stmt) u.start u.rows in
      let g : Going = record { registers = after_rows r u.rows; end = piece_end u } in
      let tail : List LineOp = program_ops (written_coding stmt) (Some g) us in
      let low : r.address ≤ u.start = omega arith in
      does_rows (written_coding stmt) r (rows_ops r u.rows) u.rows (after_rows r u.rows) tail
      (piece_does stmt files r u (opened_fresh stmt u.start u.rows) low piece)
      ∙ ap (λ (l : List LineOp). u.rows ++ rows_from (written_coding stmt) (after_rows r u.rows) l) (sym (append-nil tail))
      ∙ ap (λ (l : List Registers). u.rows ++ l)
      (going_rows g us [] (going_on stmt files r u (opened_fresh stmt u.start u.rows) low piece) are)

  abbrev after_piece : Registers → Piece → Going
  after_piece r u = record { registers = after_rows r u.rows; end = piece_end u }

  -- The hypothesis for the pieces after one.
  abbrev Others : Piece → List Piece → Type 0
  Others u us = (whole : List Registers) (r : Registers) → IsGoing (after_piece r u) → ArePieces files (piece_end u) us
      → sequences_from (written_coding stmt) whole (after_rows r u.rows) (program_ops (written_coding stmt) (Some (after_piece r u)) us)
      ≡ record { rows = whole; end = end_on (piece_end u) us } ∷ others_on (piece_end u) us

  opened_sequences : (u : Piece) (us : List Piece) → IsPiece files u → ArePieces files (piece_end u) us → Others u us
      → sequences (written_coding stmt) (open_ops (written_coding stmt) u.start u.rows
      ++ program_ops (written_coding stmt) (Some (after_piece (opened (written_coding stmt) u.start u.rows) u)) us)
      ≡ strand u us
  unfolding rows_from sequences_from
  opened_sequences u us piece are others =
      let r : Registers = opened (written_coding stmt) u.start u.rows in
      let tail : List LineOp = program_ops (written_coding stmt) (Some (after_piece r u)) us in
      let whole : List Registers = u.rows ++ rows_on (piece_end u) us in
      let low : r.address ≤ u.start = omega arith in
      ap (λ (l : List Registers). sequences_from (written_coding stmt) l r (rows_ops r u.rows ++ tail)) (opened_rows u us piece are)
      ∙ does_sequences (written_coding stmt) whole r (rows_ops r u.rows) u.rows (after_rows r u.rows) tail
      (piece_does stmt files r u (opened_fresh stmt u.start u.rows) low piece)
      ∙ others whole r (going_on stmt files r u (opened_fresh stmt u.start u.rows) low piece) are

  -- The sequences of an open one, whose rows are known, and of the pieces after it.
  pub going_sequences : (whole : List Registers) (g : Going) (us : List Piece) → IsGoing g → ArePieces files g.end us
      → sequences_from (written_coding stmt) whole g.registers (program_ops (written_coding stmt) (Some g) us)
      ≡ record { rows = whole; end = end_on g.end us } ∷ others_on g.end us
  unfolding program_ops end_on others_on sequences_from
  going_sequences whole g [] is are = close_sequences stmt whole g [] is
  going_sequences whole g (u ∷ us) is are =
      by (g.end == u.start) refl (λ whole r next others. going_sequences whole (after_piece r u) us next others)
    where
      by : (b : Bool) → (g.end == u.start) ≡ b → Others u us
          → sequences_from (written_coding stmt) whole g.registers
          (cond b (rows_ops g.registers u.rows) (close_ops g ++ open_ops (written_coding stmt) u.start u.rows)
          ++ program_ops (written_coding stmt)
          (Some (record {
            registers = after_rows (cond b g.registers (opened (written_coding stmt) u.start u.rows)) u.rows;
            end = piece_end u;
          })) us)
          ≡ record { rows = whole; end = cond b (end_on (piece_end u) us) g.end } ∷ cond b (others_on (piece_end u) us) (strand u us)
      by true e others =
          let low : g.end ≤ u.start = are.1 in
          let before : g.registers.address ≤ g.end = is.before in
          let tail : List LineOp = program_ops (written_coding stmt) (Some (after_piece g.registers u)) us in
          does_sequences (written_coding stmt) whole g.registers (rows_ops g.registers u.rows) u.rows (after_rows g.registers u.rows) tail
          (piece_does stmt files g.registers u is.fresh (omega arith) are.0)
          ∙ others whole g.registers (going_on stmt files g.registers u is.fresh (omega arith) are.0) are.2
      by false e others =
          let tail : List LineOp =
          program_ops (written_coding stmt) (Some (after_piece (opened (written_coding stmt) u.start u.rows) u)) us in
          ap (sequences_from (written_coding stmt) whole g.registers)
          (append_assoc (close_ops g) (open_ops (written_coding stmt) u.start u.rows) tail)
          ∙ close_sequences stmt whole g (open_ops (written_coding stmt) u.start u.rows ++ tail) is
          ∙ ap (λ (l : List Sequence). record { rows = whole; end = g.end } ∷ l) (opened_sequences u us are.0 are.2 others)

  pub program_sequences : (us : List Piece) (lo : ℕ) → ArePieces files lo us
      → sequences (written_coding stmt) (program_ops (written_coding stmt) None us) ≡ strands us
  unfolding program_ops sequences_from
  program_sequences [] lo are = refl
  program_sequences (u ∷ us) lo are =
      opened_sequences u us are.0 are.2 (λ whole r next others. going_sequences whole (after_piece r u) us next others)

-- Soundness

abbrev Low : Option ℕ → ℕ → Type 0
Low None e = Unit {0}
Low (Some n) e = n ≤ e

low_follows : (last : Option ℕ) (e a : ℕ) → Low last e → e ≤ a → follows last a ≡ true
low_follows None e a low h = refl
low_follows (Some n) e a low h = grind (arith, nat_tests)

rows_follow : (files a e : ℕ) (last : Option ℕ) (rows : List Registers) → Low last e → e ≤ a → ArePieceRows files a rows
    → Follow files last rows
rows_follow files a e last [] low h are = tt
rows_follow files a e last (row ∷ rows) low h are =
    let at : row.address ≡ a = are.1 in
    let within : row.file < files = are.2 in
    let listed : nat_lt row.file files ≡ true = grind (arith, nat_tests) in (
      low_follows last e row.address low (omega arith),
      listed,
      rows_follow files a row.address (Some row.address) rows (omega arith)
          (omega arith) are.3,
    )

rows_last : (files a e : ℕ) (last : Option ℕ) (rows : List Registers) → Low last e → e ≤ a → ArePieceRows files a rows
    → Low (last_after last rows) a
rows_last files a e None [] low h are = tt
rows_last files a e (Some n) [] low h are = omega (arith, low)
rows_last files a e last (row ∷ rows) low h are =
    let at : row.address ≡ a = are.1 in
    rows_last files a row.address (Some row.address) rows (omega arith) (omega arith) are.3

low_more : (last : Option ℕ) (a b : ℕ) → Low last a → a ≤ b → Low last b
low_more None a b low h = tt
low_more (Some n) a b low h = omega (arith, low)

module _ (stmt : Bool) (files : ℕ) where
  pub going_sound : (last : Option ℕ) (g : Going) (us : List Piece) → IsGoing g → ArePieces files g.end us → Low last g.end
      → sound_from (written_coding stmt) files last g.registers (program_ops (written_coding stmt) (Some g) us) ≡ true
  unfolding program_ops sound_from
  going_sound last g [] is are low = close_sound stmt files last g [] is (low_follows last g.end g.end low (omega arith))
  going_sound last g (u ∷ us) is are low =
      by (g.end == u.start)
      (λ last r next others below. going_sound last (record { registers = after_rows r u.rows; end = piece_end u }) us next others below)
    where
      Others : Type 0
      Others = (last : Option ℕ) (r : Registers) → IsGoing (record { registers = after_rows r u.rows; end = piece_end u })
          → ArePieces files (piece_end u) us → Low last (piece_end u)
          → sound_from (written_coding stmt) files last (after_rows r u.rows)
          (program_ops (written_coding stmt) (Some (record { registers = after_rows r u.rows; end = piece_end u })) us) ≡ true

      one : (last : Option ℕ) (r : Registers) (e : ℕ) → IsFresh r → r.address ≤ u.start → Low last e → e ≤ u.start → Others
          → sound_from (written_coding stmt) files last r
          (rows_ops r u.rows ++ program_ops (written_coding stmt)
          (Some (record { registers = after_rows r u.rows; end = piece_end u })) us) ≡ true
      one last r e fresh before below h others =
          let tail : List LineOp =
          program_ops (written_coding stmt) (Some (record { registers = after_rows r u.rows; end = piece_end u })) us in
          does_sound (written_coding stmt) files last r (rows_ops r u.rows) u.rows (after_rows r u.rows) tail
          (piece_does stmt files r u fresh before are.0)
          (rows_follow files u.start e last u.rows below h are.0.rows)
          ∙ others (last_after last u.rows) r (going_on stmt files r u fresh before are.0) are.2
          (low_more (last_after last u.rows) u.start (piece_end u) (rows_last files u.start e last u.rows below h are.0.rows) (omega arith))

      by : (b : Bool) → Others
          → sound_from (written_coding stmt) files last g.registers
          (cond b (rows_ops g.registers u.rows) (close_ops g ++ open_ops (written_coding stmt) u.start u.rows)
          ++ program_ops (written_coding stmt)
          (Some (record {
            registers = after_rows (cond b g.registers (opened (written_coding stmt) u.start u.rows)) u.rows;
            end = piece_end u;
          })) us)
          ≡ true
      by true others =
          let h : g.end ≤ u.start = are.1 in
          let before : g.registers.address ≤ g.end = is.before in
          one last g.registers g.end is.fresh (omega arith) low h others
      by false others =
          let r : Registers = opened (written_coding stmt) u.start u.rows in
          let tail : List LineOp =
          program_ops (written_coding stmt) (Some (record { registers = after_rows r u.rows; end = piece_end u })) us in
          ap (sound_from (written_coding stmt) files last g.registers)
          (append_assoc (close_ops g) (open_ops (written_coding stmt) u.start u.rows) tail)
          ∙ close_sound stmt files last g (open_ops (written_coding stmt) u.start u.rows ++ tail) is
          (low_follows last g.end g.end low (omega arith))
          ∙ one None r u.start (opened_fresh stmt u.start u.rows) (omega arith) tt (omega arith) others

  pub program_sound : (us : List Piece) (lo : ℕ) → ArePieces files lo us
      → sound_from (written_coding stmt) files None (start (written_coding stmt)) (program_ops (written_coding stmt) None us) ≡ true
  unfolding program_ops sound_from
  program_sound [] lo are = refl
  program_sound (u ∷ us) lo are =
      let r : Registers = opened (written_coding stmt) u.start u.rows in
      let g : Going = record { registers = after_rows r u.rows; end = piece_end u } in
      does_sound (written_coding stmt) files None r (rows_ops r u.rows) u.rows (after_rows r u.rows)
      (program_ops (written_coding stmt) (Some g) us)
      (piece_does stmt files r u (opened_fresh stmt u.start u.rows) (omega arith) are.0)
      (rows_follow files u.start u.start None u.rows tt (omega arith) are.0.rows)
      ∙ going_sound (last_after None u.rows) g us (going_on stmt files r u (opened_fresh stmt u.start u.rows) (omega arith) are.0) are.2
      (low_more (last_after None u.rows) u.start (piece_end u) (rows_last files u.start u.start None u.rows tt (omega arith) are.0.rows)
      (omega arith))

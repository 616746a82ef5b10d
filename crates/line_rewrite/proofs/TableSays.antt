-- The units of the written table, and their answers at each address.
use Rattle.std.proofs.Common.{◌≡◌, ◌∙◌, ◌<◌, ◌-◌, ◌+◌, ◌^◌, ◌==◌, ◌++◌, ℕ, zero, suc, Bool, true, false, cond, List, [], ◌∷◌, Option, Some}
use Rattle.std.proofs.Common.{None, refl, sym, ap, arith, length, option_map, append_assoc, map}
use Rattle.std.specs.Prelude.{All, find, filter_map, slice_get, option_and_then, is_some, not}
use Rattle.std.specs.Option.{option_or}
use Rattle.std.proofs.lemmas.Bool.Decides.{nat_tests}
use Rattle.std.proofs.lemmas.List.Elements.{All-nil, All-cons, All-head, All-tail}
use Rattle.std.proofs.lemmas.Option.{same_Some}
use Rattle.byteorder.specs.Endian.{little_bytes, little_number}
use Rattle.addr_map.specs.declared.span.Span.{Span}
use Rattle.answer_runs.specs.AnswerRuns.{IsWithin}
use Rattle.answer_runs.specs.declared.run.Run.{Run}
use Rattle.table_core.specs.DebugUnits.{Walked}
use Rattle.table_core.specs.WrittenUnits.{units_bytes, walked_units, IsUnit}
use Rattle.line_rewrite.specs.declared.registers.Registers.{Registers}
use Rattle.line_rewrite.specs.declared.header.Header.{Header}
use Rattle.line_rewrite.specs.declared.unit.Unit as kept
use Rattle.line_rewrite.specs.LineMachine.{Sequence, in_force}
use Rattle.line_rewrite.specs.LineAnswers.{LineSaid, RowSaid, range_of, row_said, rows_said, said_at}
use Rattle.line_rewrite.specs.LineUnits.{LineUnit, unit_of, unit_in}
use Rattle.line_rewrite.specs.Entries.{Strings}
use Rattle.line_rewrite.specs.KeptUnits.{HasTables, told_unit}
use Rattle.line_rewrite.specs.KeptLineUnits.{Files, files_of}
use Rattle.line_rewrite.specs.WrittenPrograms.{Piece}
use Rattle.line_rewrite.proofs.PieceSequences.{strands}
use Rattle.line_rewrite.specs.WrittenRuns.{Placed, placed, AllRowsFit}
use Rattle.line_rewrite.specs.WrittenUnits.{spelled_units}
use Rattle.line_rewrite.specs.WrittenUnits as unit
use Rattle.answer_runs.specs.AddressRanges.{holds_address}
use Rattle.line_rewrite.proofs.HeadersBack.{written_unit, piece_program, unit_back}
use Rattle.line_rewrite.proofs.RunPieces.{pieces, one_of, has_run, piece_found}
use Rattle.line_rewrite.proofs.UnitSizes.{fields_length, unit_length}
use Rattle.line_rewrite.proofs.StrandsFound.{strands_say}
use Rattle.line_rewrite.proofs.TableBack.{unit_pieces, new_units, new_bytes, AreFrom, first_from, next_from}

-- The answer made of rows of a unit.
abbrev pub said_rows : ℕ → List RowSaid → Option LineSaid
said_rows k rows = Some (record { unit = k; rows = rows })

abbrev pub said : ℕ → LineUnit → List Registers → Option LineSaid
said k u rows = said_rows k (filter_map (row_said u) rows)

abbrev said_by : LineUnit → ℕ → ℕ → Sequence → LineSaid
said_by u k p s = record { unit = k; rows = rows_said u p s }

abbrev says_of : ℕ → LineUnit → Option (List Registers) → Option LineSaid
says_of k u None = None
says_of k u (Some rows) = said k u rows

unit_says : (k p : ℕ) (u : LineUnit) (o : Option Sequence)
    → option_map (said_by u k p) o ≡ says_of k u (option_map (λ s. in_force p s.rows) o)
unit_says k p u None = refl
unit_says k p u (Some s) = refl

-- The answers of rows only depend on directories and files.
rows_by : (u v : LineUnit) (rows : List Registers) → u.files ≡ v.files → u.directories ≡ v.directories
    → filter_map (row_said u) rows ≡ filter_map (row_said v) rows
rows_by u v rows f d = λ i. filter_map (row_said (record { tables = []; directories = d i; files = f i; sequences = [] })) rows

said_as : (k n : ℕ) (u v : LineUnit) (rows : List Registers) → k ≡ n → u.files ≡ v.files → u.directories ≡ v.directories
    → said k u rows ≡ said n v rows
said_as k n u v rows e f d = (λ i. said (e i) u rows) ∙ ap (λ (rs : List RowSaid). said_rows n rs) (rows_by u v rows f d)

version_back : (h : Header) (program : List ℕ) → little_number 2 (unit.unit_bytes h program) ≡ 5
unfolding unit.unit_bytes
version_back h program = refl

module _ (strings : Strings) (us : List kept.Unit) (spans : List Span) (rs : List (Run LineSaid)) (hi : ℕ) (w : IsWithin 0 rs hi)
    (h : hi < 2 ^ 64)
    (fit : AllRowsFit us spans rs) where
  -- The unit with an index.
  abbrev unit_new : ℕ → kept.Unit → LineUnit
  unit_new k u = written_unit strings u.header (pieces us spans k rs)

  -- The answer at an address of the unit with an index.
  says_here : (p k : ℕ) → kept.Unit → Option LineSaid
  says_here p k u = option_map (said_by (unit_new k u) k p) (find (λ s. holds_address p (range_of s)) (strands (pieces us spans k rs)))

  said_step : (p k : ℕ) (u : kept.Unit) (more : List kept.Unit)
      → said_at k (new_units strings us spans rs k (u ∷ more)) p ≡ option_or (says_here p k u)
      (said_at (k + 1) (new_units strings us spans rs (k + 1) more) p)
  unfolding new_units says_here
  said_step p k u more = refl

  one_says : (p k : ℕ) (u : kept.Unit) → slice_get us k ≡ Some u
      → says_here p k u ≡ says_of k (unit_new k u)
      (option_map (λ v. v.rows) (one_of k (option_and_then (placed us spans) (find (has_run p) rs))))
  unfolding says_here
  one_says p k u at =
      unit_says k p (unit_new k u) (find (λ s. holds_address p (range_of s)) (strands (pieces us spans k rs)))
      ∙ ap (says_of k (unit_new k u))
      (strands_say (length u.header.files.items) p (pieces us spans k rs) 0 (unit_pieces us spans k u at 0 hi rs w h fit)
      ∙ ap (option_map (λ (v : Piece). v.rows)) (piece_found us spans k p 0 hi rs w))

  none_here : (p k : ℕ) (u : kept.Unit) → slice_get us k ≡ Some u → option_and_then (placed us spans) (find (has_run p) rs) ≡ None
      → says_here p k u ≡ None
  none_here p k u at e =
      one_says p k u at ∙ ap (λ (o : Option Placed). says_of k (unit_new k u) (option_map (λ (v : Piece). v.rows) (one_of k o))) e

  same_number : (a b : ℕ) → a ≡ b → (a == b) ≡ true
  same_number a b e = grind (arith, nat_tests)

  other_number : (a b j : ℕ) → a ≡ b + suc j → (a == b) ≡ false
  other_number a b j e = grind (arith, nat_tests)

  here_says : (p k : ℕ) (q : Placed) (u : kept.Unit) → slice_get us k ≡ Some u
      → option_and_then (placed us spans) (find (has_run p) rs) ≡ Some q → q.unit ≡ k
      → says_here p k u ≡ said q.unit (told_unit strings u) q.piece.rows
  here_says p k q u at e n =
      one_says p k u at
      ∙ ap (λ (o : Option Placed). says_of k (unit_new k u) (option_map (λ (v : Piece). v.rows) (one_of k o))) e
      ∙ ap (λ (b : Bool). says_of k (unit_new k u) (option_map (λ (v : Piece). v.rows) (cond b (Some q.piece) None)))
      (same_number q.unit k n)
      ∙ said_as k q.unit (unit_new k u) (told_unit strings u) q.piece.rows (sym n) refl refl

  apart_says : (p k j : ℕ) (q : Placed) (u : kept.Unit) → slice_get us k ≡ Some u
      → option_and_then (placed us spans) (find (has_run p) rs) ≡ Some q → q.unit ≡ k + suc j
      → says_here p k u ≡ None
  apart_says p k j q u at e n =
      one_says p k u at
      ∙ ap (λ (o : Option Placed). says_of k (unit_new k u) (option_map (λ (v : Piece). v.rows) (one_of k o))) e
      ∙ ap (λ (b : Bool). says_of k (unit_new k u) (option_map (λ (v : Piece). v.rows) (cond b (Some q.piece) None)))
      (other_number q.unit k j n)

  -- If no run contains the address.
  pub says_none : (p k : ℕ) (more : List kept.Unit) → AreFrom strings us spans rs k more
      → option_and_then (placed us spans) (find (has_run p) rs) ≡ None
      → said_at k (new_units strings us spans rs k more) p ≡ None
  unfolding new_units
  says_none p k [] from e = refl
  says_none p k (u ∷ more) from e =
      said_step p k u more
      ∙ ap (λ (o : Option LineSaid). option_or o (said_at (k + 1) (new_units strings us spans rs (k + 1) more) p))
      (none_here p k u (first_from strings us spans rs k u more from) e)
      ∙ says_none p (k + 1) more (next_from strings us spans rs k u more from) e

  -- If a run contains it.
  pub says_some : (p k j : ℕ) (more : List kept.Unit) (q : Placed) (u : kept.Unit) → AreFrom strings us spans rs k more
      → option_and_then (placed us spans) (find (has_run p) rs) ≡ Some q → q.unit ≡ k + j → slice_get more j ≡ Some u
      → said_at k (new_units strings us spans rs k more) p ≡ said q.unit (told_unit strings u) q.piece.rows
  says_some p k j [] q u from e n at = absurd (cc)
  says_some p k zero (v ∷ more) q u from e n at =
      let k_is : q.unit ≡ k = omega (arith, n) in
      let first : slice_get us k ≡ Some v = first_from strings us spans rs k v more from in
      said_step p k v more
      ∙ ap (λ (o : Option LineSaid). option_or o (said_at (k + 1) (new_units strings us spans rs (k + 1) more) p))
      (here_says p k q v first e k_is)
      ∙ ap (λ (x : kept.Unit). said q.unit (told_unit strings x) q.piece.rows) (same_Some v u at)
  says_some p k (suc j) (v ∷ more) q u from e n at =
      said_step p k v more
      ∙ ap (λ (o : Option LineSaid). option_or o (said_at (k + 1) (new_units strings us spans rs (k + 1) more) p))
      (apart_says p k j q v (first_from strings us spans rs k v more from) e n)
      ∙ says_some p (k + 1) j more q u (next_from strings us spans rs k v more from) e (omega (arith, n)) at

  -- The units, found and read

  abbrev Small : List (List ℕ) → Type 0
  Small bs = All (λ b. length b < 2 ^ 32 - 1) bs

  pub units_walked : (k : ℕ) (more : List kept.Unit) → Small (new_bytes strings us spans rs k more)
      → All (IsUnit 5) (new_bytes strings us spans rs k more)
  unfolding new_bytes
  units_walked k [] small = All-nil (IsUnit 5)
  units_walked k (u ∷ more) small =
      let program = piece_program u.header.coding.default_is_stmt (pieces us spans k rs) in
      let b : List ℕ = unit.unit_bytes u.header program in
      All-cons (IsUnit 5) b (new_bytes strings us spans rs (k + 1) more)
      (record {
        is_version = version_back u.header program;
        some = omega (arith, unit_length u.header program);
        small = All-head (λ (b : List ℕ). length b < 2 ^ 32 - 1) b (new_bytes strings us spans rs (k + 1) more) small;
      })
      (units_walked (k + 1) more (All-tail (λ (b : List ℕ). length b < 2 ^ 32 - 1) b (new_bytes strings us spans rs (k + 1) more) small))

  one_back : (k : ℕ) (u : kept.Unit) → slice_get us k ≡ Some u → HasTables strings u.header
      → length (unit.unit_bytes u.header (piece_program u.header.coding.default_is_stmt (pieces us spans k rs))) < 2 ^ 32 - 1
      → unit_of strings (unit.unit_bytes u.header (piece_program u.header.coding.default_is_stmt (pieces us spans k rs))) ≡ Some
      (unit_new k u)
  one_back k u at has small =
      let program = piece_program u.header.coding.default_is_stmt (pieces us spans k rs) in
      let size = unit_length u.header program in
      let fields = fields_length u.header in
      unit_back strings u.header (pieces us spans k rs) 0 has (unit_pieces us spans k u at 0 hi rs w h fit)
      (omega (arith, size, fields, small))

  abbrev Bytes : List ℕ → Type 0
  Bytes b = length b < 2 ^ 32 - 1

  pub all_back : (k place : ℕ) (more : List kept.Unit) → AreFrom strings us spans rs k more → All (λ u. HasTables strings u.header) more
      → Small (new_bytes strings us spans rs k more)
      → filter_map (unit_in strings) (walked_units place (new_bytes strings us spans rs k more)) ≡ new_units strings us spans rs k more
  unfolding new_units new_bytes walked_units
  all_back k place [] from has small = refl
  all_back k place (u ∷ more) from has small =
      let program = piece_program u.header.coding.default_is_stmt (pieces us spans k rs) in
      let b : List ℕ = unit.unit_bytes u.header program in
      let bs = new_bytes strings us spans rs (k + 1) more in
      let one = one_back k u (first_from strings us spans rs k u more from)
      (All-head (λ (u : kept.Unit). HasTables strings u.header) u more has)
      (All-head Bytes b bs small) in
      rw one (ap (λ (l : List LineUnit). unit_new k u ∷ l)
      (all_back (k + 1) (place + (length b + 4)) more (next_from strings us spans rs k u more from)
      (All-tail (λ (u : kept.Unit). HasTables strings u.header) u more has)
      (All-tail Bytes b bs small)))

  pub none_bad : (k place : ℕ) (more : List kept.Unit) → AreFrom strings us spans rs k more → All (λ u. HasTables strings u.header) more
      → Small (new_bytes strings us spans rs k more)
      → find (λ w. not (is_some (unit_in strings w))) (walked_units place (new_bytes strings us spans rs k more)) ≡ None
  unfolding new_bytes walked_units
  none_bad k place [] from has small = refl
  none_bad k place (u ∷ more) from has small =
      let program = piece_program u.header.coding.default_is_stmt (pieces us spans k rs) in
      let b : List ℕ = unit.unit_bytes u.header program in
      let bs = new_bytes strings us spans rs (k + 1) more in
      let one = one_back k u (first_from strings us spans rs k u more from)
      (All-head (λ (u : kept.Unit). HasTables strings u.header) u more has)
      (All-head Bytes b bs small) in
      rw one (none_bad (k + 1) (place + (length b + 4)) more (next_from strings us spans rs k u more from)
      (All-tail (λ (u : kept.Unit). HasTables strings u.header) u more has)
      (All-tail Bytes b bs small))

  -- The units that are kept

  pub tables_kept : (k : ℕ) (more : List kept.Unit)
      → map (λ (u : LineUnit). u.tables) (new_units strings us spans rs k more) ≡ map (λ (u : LineUnit). u.tables)
      (map (told_unit strings) more)
  unfolding new_units
  tables_kept k [] = refl
  tables_kept k (u ∷ more) = ap (λ (l : List (List ℕ)). (told_unit strings u).tables ∷ l) (tables_kept (k + 1) more)

  pub files_kept : (k : ℕ) (more : List kept.Unit)
      → map files_of (new_units strings us spans rs k more) ≡ map files_of (map (told_unit strings) more)
  unfolding new_units
  files_kept k [] = refl
  files_kept k (u ∷ more) = ap (λ (l : List Files). files_of (told_unit strings u) ∷ l) (files_kept (k + 1) more)

pub none_other : (place : ℕ) (bs : List (List ℕ)) → find (λ (w : Walked). w.is_other) (walked_units place bs) ≡ None
unfolding walked_units
none_other place [] = refl
none_other place (b ∷ bs) = none_other (place + (length b + 4)) bs

pub walked_count : (place : ℕ) (bs : List (List ℕ)) → length (walked_units place bs) ≡ length bs
unfolding walked_units
walked_count place [] = refl
walked_count place (b ∷ bs) = ap suc (walked_count (place + (length b + 4)) bs)

pub bytes_same : (bs : List (List ℕ)) → spelled_units bs ≡ units_bytes bs
unfolding units_bytes
bytes_same [] = refl
bytes_same (b ∷ bs) =
    append_assoc (little_bytes 4 (length b)) b (spelled_units bs)
    ∙ ap (λ (l : List ℕ). little_bytes 4 (length b) ++ (b ++ l)) (bytes_same bs)

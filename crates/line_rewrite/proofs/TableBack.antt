-- The written table is read back: it has no fault, and has the answers of its runs.
use Rattle.std.proofs.Common.{◌≡◌, ◌∙◌, ◌<◌, ◌+◌, ◌^◌, ℕ, zero, suc, Bool, true, false, cond, List, [], ◌∷◌, Option, Some, None, refl, sym}
use Rattle.std.proofs.Common.{ap, subst, arith, length, option_map, get_or}
use Rattle.std.proofs.lemmas.Option.{same_Some}
use Rattle.std.specs.Prelude.{find, slice_get}
use Rattle.std.specs.Option.{option_or}
use Rattle.addr_map.specs.declared.span.Span.{Span}
use Rattle.addr_map.specs.Spans.{owner}
use Rattle.answer_runs.specs.AnswerRuns.{IsWithin, run_at}
use Rattle.answer_runs.specs.declared.run.Run.{Run}
use Rattle.line_rewrite.specs.declared.unit.Unit as kept
use Rattle.line_rewrite.specs.LineAnswers.{LineSaid}
use Rattle.line_rewrite.specs.LineUnits.{LineUnit}
use Rattle.line_rewrite.specs.Entries.{Strings}
use Rattle.line_rewrite.specs.SequenceIndex.{Numbered, numbered_at, numbered_rows}
use Rattle.line_rewrite.specs.Written.{moved, written_coding}
use Rattle.line_rewrite.specs.WrittenPrograms.{Begun, nothing_begun, closed}
use Rattle.line_rewrite.specs.WrittenRuns.{Placed, placed_by, placed_at, placed, RowsFit, AllRowsFit, with_placed, with_runs, begun}
use Rattle.line_rewrite.specs.WrittenUnits.{written_units}
use Rattle.line_rewrite.specs.WrittenUnits as unit
use Rattle.line_rewrite.proofs.FoundRows.{unit_stands, rows_filed, some_rows, piece_rows, moved_count}
use Rattle.line_rewrite.proofs.HeadersBack.{written_unit, piece_program}
use Rattle.line_rewrite.proofs.RunPieces.{with_pieces, pieces_closed, pieces, has_run, runs_begun, Codes, AllCode, Fits, AllFit, pieces_are}
use Rattle.line_rewrite.proofs.Strands.{ArePieceRows, ArePieces}
use Rattle.line_rewrite.proofs.UnitSizes.{placed_count, begun_count}

-- The run that contains an address.
pub run_found : (p : ℕ) (rs : List (Run LineSaid)) → run_at rs p ≡ option_map (λ r. r.answer) (find (has_run p) rs)
run_found p [] = refl
run_found p (r ∷ rs) = by (has_run p r) (run_found p rs)
  where
    by : (b : Bool) → run_at rs p ≡ option_map (λ (r : Run LineSaid). r.answer) (find (has_run p) rs)
        → option_or (cond b (Some r.answer) None) (run_at rs p) ≡ option_map (λ (r : Run LineSaid). r.answer)
        (cond b (Some r) (find (has_run p) rs))
    by true e = refl
    by false e = e

-- Facts on the place of a run

module _ (us : List kept.Unit) (spans : List Span) (r : Run LineSaid) (P : Option Placed → Type 0) (none : P None)
    (some : (a : ℕ) (x : Numbered) → numbered_at us a ≡ Some x → P (Some (placed_by r a x))) where
  by_number : (a : ℕ) (o : Option Numbered) → numbered_at us a ≡ o → P (option_map (placed_by r a) o)
  by_number a None e = none
  by_number a (Some x) e = some a x e

  by_owner : (o : Option ℕ) → P (placed_at us r o)
  by_owner None = none
  by_owner (Some a) = by_number a (numbered_at us a) refl

  placed_cases : P (placed us spans r)
  placed_cases = by_owner (owner spans r.start)

module _ (us : List kept.Unit) (spans : List Span) (k : ℕ) (u : kept.Unit) (at : slice_get us k ≡ Some u) where
  number_unit : (a : ℕ) (x : Numbered) → numbered_at us a ≡ Some x → x.number ≡ k → x.unit ≡ u
  number_unit a x e n = same_Some x.unit u (sym (unit_stands us a x e) ∙ ap (slice_get us) n ∙ at)

  run_codes : (r : Run LineSaid) → Codes us spans k (written_coding u.header.coding.default_is_stmt) (placed us spans r)
  run_codes r = placed_cases us spans r (Codes us spans k (written_coding u.header.coding.default_is_stmt)) tt
      (λ a x e n. ap (λ (v : kept.Unit). written_coding v.header.coding.default_is_stmt) (number_unit a x e n))

  all_code : (rs : List (Run LineSaid)) → AllCode us spans k (written_coding u.header.coding.default_is_stmt) rs
  all_code [] = tt
  all_code (r ∷ rs) = (run_codes r, all_code rs)

  run_fits : (r : Run LineSaid) → RowsFit (placed us spans r) → Fits us spans k (length u.header.files.items) (placed us spans r)
  run_fits r = placed_cases us spans r (λ o. RowsFit o → Fits us spans k (length u.header.files.items) o) (λ f. tt) (λ a x e fit n. (
    subst (λ (v : kept.Unit). ArePieceRows (length v.header.files.items) r.start (moved r.start (numbered_rows x a))) (number_unit a x e n)
        (piece_rows (length x.unit.header.files.items) r.start (numbered_rows x a) (rows_filed us a x e) fit),
    subst (λ (n : ℕ). 0 < n) (sym (moved_count r.start (numbered_rows x a))) (some_rows us a x e),
  ))

  all_fit : (rs : List (Run LineSaid)) → AllRowsFit us spans rs → AllFit us spans k (length u.header.files.items) rs
  all_fit [] f = tt
  all_fit (r ∷ rs) f = (run_fits r f.0, all_fit rs f.1)

  pub unit_pieces : (lo hi : ℕ) (rs : List (Run LineSaid)) → IsWithin lo rs hi → hi < 2 ^ 64 → AllRowsFit us spans rs
      → ArePieces (length u.header.files.items) lo (pieces us spans k rs)
  unit_pieces lo hi rs w h f = pieces_are us spans k (length u.header.files.items) lo hi rs w h (all_fit rs f)

  pub unit_program : (rs : List (Run LineSaid)) (programs : List Begun) → k < length programs
      → get_or programs k nothing_begun ≡ nothing_begun
      → closed (get_or (with_runs us spans programs rs) k nothing_begun) ≡ piece_program u.header.coding.default_is_stmt
      (pieces us spans k rs)
  unit_program rs programs h start =
      let coding = written_coding u.header.coding.default_is_stmt in
      ap closed (runs_begun us spans k coding programs rs h (all_code rs))
      ∙ ap (λ (b : Begun). closed (with_pieces coding b (pieces us spans k rs))) start
      ∙ pieces_closed coding nothing_begun (pieces us spans k rs)

-- the programs of all units

begun_there : (us : List kept.Unit) (k : ℕ) → get_or (begun us) k nothing_begun ≡ nothing_begun
begun_there [] k = refl
begun_there (u ∷ us) zero = refl
begun_there (u ∷ us) (suc k) = begun_there us k

runs_count : (us : List kept.Unit) (spans : List Span) (programs : List Begun) (rs : List (Run LineSaid))
    → length (with_runs us spans programs rs) ≡ length programs
unfolding with_runs
runs_count us spans programs [] = refl
runs_count us spans programs (r ∷ rs) = runs_count us spans (with_placed programs (placed us spans r)) rs
    ∙ placed_count programs (placed us spans r)

module _ (strings : Strings) (us : List kept.Unit) (spans : List Span) (rs : List (Run LineSaid)) where
  -- The written units, numbered from an index on

  unfoldable pub new_units : ℕ → List kept.Unit → List LineUnit
  new_units k [] = []
  new_units k (u ∷ more) = written_unit strings u.header (pieces us spans k rs) ∷ new_units (k + 1) more

  unfoldable pub new_bytes : ℕ → List kept.Unit → List (List ℕ)
  new_bytes k [] = []
  new_bytes k (u ∷ more) =
      unit.unit_bytes u.header (piece_program u.header.coding.default_is_stmt (pieces us spans k rs)) ∷ new_bytes (k + 1) more

  -- Units are those from an index on.
  abbrev pub AreFrom : ℕ → List kept.Unit → Type 0
  AreFrom k more = (j : ℕ) (u : kept.Unit) → slice_get more j ≡ Some u → slice_get us (k + j) ≡ Some u

  pub first_from : (k : ℕ) (u : kept.Unit) (more : List kept.Unit) → AreFrom k (u ∷ more) → slice_get us k ≡ Some u
  first_from k u more from = let z : k + 0 ≡ k = omega arith in ap (slice_get us) (sym z) ∙ from 0 u refl

  pub next_from : (k : ℕ) (u : kept.Unit) (more : List kept.Unit) → AreFrom k (u ∷ more) → AreFrom (k + 1) more
  next_from k u more from = λ j v e. let s : k + 1 + j ≡ k + suc j = omega arith in ap (slice_get us) s ∙ from (suc j) v e

  written_are : (k : ℕ) (more : List kept.Unit) (programs : List Begun) → AreFrom k more → length programs ≡ length more
      → ((j : ℕ) → get_or programs j nothing_begun ≡ get_or (with_runs us spans (begun us) rs) (k + j) nothing_begun)
      → written_units more programs ≡ new_bytes k more
  unfolding written_units new_bytes
  written_are k [] programs from size same = refl
  written_are k (u ∷ more) [] from size same = absurd (omega (arith, size))
  written_are k (u ∷ more) (p ∷ programs) from size same =
      let at : slice_get us k ≡ Some u = first_from k u more from in
      let h : k < length us = there us k u at in
      let z : k + 0 ≡ k = omega arith in
      let one : closed p ≡ piece_program u.header.coding.default_is_stmt (pieces us spans k rs) =
      ap closed (same 0 ∙ ap (λ (n : ℕ). get_or (with_runs us spans (begun us) rs) n nothing_begun) z)
      ∙ unit_program us spans k u at rs (begun us) (subst (λ (n : ℕ). k < n) (sym (begun_count us)) h) (begun_there us k) in
      ap (λ (l : List ℕ). unit.unit_bytes u.header l ∷ written_units more programs) one
      ∙ ap (λ (l : List (List ℕ)). unit.unit_bytes u.header (piece_program u.header.coding.default_is_stmt (pieces us spans k rs)) ∷ l)
      (written_are (k + 1) more programs (next_from k u more from) (omega (arith, size))
      (λ j. let s : k + suc j ≡ k + 1 + j = omega arith in same (suc j)
      ∙ ap (λ (n : ℕ). get_or (with_runs us spans (begun us) rs) n nothing_begun) s))
    where
      there : (xs : List kept.Unit) (i : ℕ) (x : kept.Unit) → slice_get xs i ≡ Some x → i < length xs
      there [] i x e = absurd (cc)
      there (y ∷ xs) zero x e = omega arith
      there (y ∷ xs) (suc i) x e = let h : i < length xs = there xs i x e in omega arith

  pub all_written : written_units us (with_runs us spans (begun us) rs) ≡ new_bytes 0 us
  all_written =
      written_are 0 us (with_runs us spans (begun us) rs) (λ j u e. let z : 0 + j ≡ j = omega arith in ap (slice_get us) z ∙ e)
      (runs_count us spans (begun us) rs ∙ begun_count us)
      (λ j. let z : j ≡ 0 + j = omega arith in ap (λ (n : ℕ). get_or (with_runs us spans (begun us) rs) n nothing_begun) z)

-- The written table is no longer than its parts may be.
use Rattle.std.proofs.Common.{◌≡◌, ◌∙◌, ◌≤◌, ◌<◌, ◌-◌, ◌+◌, ◌*◌, ◌^◌, ◌&&◌, ◌++◌, ℕ, zero, suc, Bool, true, false, cond, List}
use Rattle.std.proofs.Common.{[], ◌∷◌, Option, Some, None, refl, sym, ap, arith, length, length-append, length-drop, length-take}
use Rattle.std.proofs.Common.{drop, take, nat_le, nat_lt, option_map}
use Rattle.std.specs.Prelude.{All, filter_map, option_and_then, sum_by}
use Rattle.std.specs.Option.{option_or}
use Rattle.std.proofs.lemmas.Bool.Decides.{nat_tests}
use Rattle.std.proofs.lemmas.List.Elements.{All-nil, All-cons}
use Rattle.std.proofs.lemmas.List.Sums.{sum_by-cons}
use Rattle.std.proofs.lemmas.Option.{same_Some}
use Rattle.byteorder.specs.Endian.{little_bytes}
use Rattle.byteorder.specs.Numbers.{length-bytes_low_first}
use Rattle.addr_map.specs.declared.span.Span.{Span}
use Rattle.addr_map.specs.Spans.{owner}
use Rattle.answer_runs.specs.AnswerRuns.{IsWithin, run_at, carried}
use Rattle.answer_runs.specs.declared.first_range.FirstRange.{FirstRange}
use Rattle.answer_runs.specs.declared.run.Run.{Run}
use Rattle.answer_runs.specs.Weights.{weight_limit}
use Rattle.table_core.specs.DebugUnits.{Walked, walked, units_from, unit_bytes, unit_length, is_whole_unit, is_other_version}
use Rattle.table_core.specs.Sections.{section_limit}
use Rattle.table_core.proofs.UnitsWalk.{whole_fits}
use Rattle.line_rewrite.specs.declared.sequence_index.SequenceIndex.{SequenceIndex}
use Rattle.line_rewrite.specs.declared.unit.Unit as kept
use Rattle.line_rewrite.specs.KeptUnits.{HasTables, told_unit}
use Rattle.line_rewrite.specs.LineAnswers.{LineSaid, row_said}
use Rattle.line_rewrite.specs.SequenceIndex.{Numbered, numbered_at, numbered_rows}
use Rattle.line_rewrite.specs.Tables.{LineSections, line_at}
use Rattle.line_rewrite.specs.UnitLists.{bytes_size, walked_size, kept_size, AreLines}
use Rattle.line_rewrite.specs.Written.{moved}
use Rattle.line_rewrite.specs.WrittenRuns.{placed_by, placed_at, placed}
use Rattle.line_rewrite.specs.WrittenUnits.{spelled_unit, spelled_units}
use Rattle.line_rewrite.specs.WrittenUnits as unit
use Rattle.line_rewrite.proofs.FirstSequence.{numbered_said}
use Rattle.line_rewrite.proofs.FoundRows.{unit_stands, rows_filed, moved_count, rows_said_count}
use Rattle.line_rewrite.proofs.HeadersBack.{piece_program}
use Rattle.line_rewrite.proofs.LineLookups.{all_at, says}
use Rattle.line_rewrite.proofs.ProgramsBack.{piece_size, program_size}
use Rattle.line_rewrite.proofs.RunPieces.{pieces, pieces_size, all_size, placed_size}
use Rattle.line_rewrite.proofs.TableBack.{new_bytes}
use Rattle.line_rewrite.proofs.TableReads.{weight_in}
use Rattle.line_rewrite.proofs.UnitSizes.{unit_length as unit_bytes_length}
use Rattle.line_rewrite.specs.Written.{written_coding}

-- The units of a section take no more bytes than it has

whole_size : (left : List ℕ) (whole some : Bool) (n : ℕ) → is_whole_unit left ≡ whole → nat_le 2 (unit_length left) ≡ some
    → (whole ≡ true → n + (unit_length left + 4) ≤ length left)
    → bytes_size (cond (whole && some) (Some (take (unit_length left) (drop 4 left))) None) + cond whole n 0 ≤ length left
whole_size left true true n w s h =
    let a : n + (unit_length left + 4) ≤ length left = h refl in
    let b : length (take (unit_length left) (drop 4 left)) ≤ unit_length left =
    omega (arith, length-take (unit_length left) (drop 4 left)) in
    omega arith
whole_size left true false n w s h = let a : n + (unit_length left + 4) ≤ length left = h refl in omega arith
whole_size left false some n w s h = omega arith

walked_sizes : (n version place : ℕ) (left : List ℕ) → sum_by walked_size (units_from n version place left) ≤ length left
unfolding units_from
walked_sizes zero version place left = omega arith
walked_sizes (suc n) version place [] = omega arith
walked_sizes (suc n) version place (b ∷ rest) =
    all (b ∷ rest) (units_from n version (place + (unit_length (b ∷ rest) + 4)) (drop (unit_length (b ∷ rest) + 4) (b ∷ rest)))
    (walked_sizes n version (place + (unit_length (b ∷ rest) + 4)) (drop (unit_length (b ∷ rest) + 4) (b ∷ rest)))
  where
    front : List ℕ → Walked
    front left = record { place = place; bytes = unit_bytes left; is_other = is_other_version version left }

    all : (left : List ℕ) (others : List Walked) → sum_by walked_size others ≤ length (drop (unit_length left + 4) left)
        → sum_by walked_size (record { place = place; bytes = unit_bytes left; is_other = is_other_version version left } ∷ cond
        (is_whole_unit left) others []) ≤ length left
    all left others h =
        let w : Walked = record { place = place; bytes = unit_bytes left; is_other = is_other_version version left } in
        let e = sum_by-cons walked_size w (cond (is_whole_unit left) others []) in
        let more : sum_by walked_size (cond (is_whole_unit left) others []) ≡ cond (is_whole_unit left) (sum_by walked_size others) 0 =
        pick (is_whole_unit left) in
        let size = whole_size left (is_whole_unit left) (nat_le 2 (unit_length left)) (sum_by walked_size others) refl refl
        (λ t. let f : unit_length left + 4 ≤ length left = whole_fits left t in omega
        (arith, h, f, length-drop (unit_length left + 4) left)) in
        omega (arith, e, more, size)
      where
        pick : (b : Bool) → sum_by walked_size (cond b others []) ≡ cond b (sum_by walked_size others) 0
        pick true = refl
        pick false = refl

-- The answer of a run at its start

abbrev pub AllStart : (ℕ → Option LineSaid) → List (Run LineSaid) → Type 0
AllStart wanted [] = Unit {0}
AllStart wanted (r ∷ rs) = (wanted r.start ≡ Some r.answer) × AllStart wanted rs

pub starts : (wanted : ℕ → Option LineSaid) (lo hi : ℕ) (rs : List (Run LineSaid)) → IsWithin lo rs hi
    → ((p : ℕ) → lo ≤ p → run_at rs p ≡ wanted p) → AllStart wanted rs
starts wanted lo hi [] w is = tt
starts wanted lo hi (r ∷ rs) w is =
    let from : lo ≤ r.start = w.0 in
    let some : 0 < r.len = w.1 in
    let low : nat_le r.start r.start ≡ true = grind (arith, nat_tests) in
    let high : nat_lt r.start (r.start + r.len) ≡ true = grind (arith, nat_tests) in
    let here : run_at (r ∷ rs) r.start ≡ Some r.answer = rw (low, high) refl in (
      sym (is r.start from) ∙ here,
      starts wanted (r.start + r.len) hi rs w.2 (λ p h.
          let past : nat_lt p (r.start + r.len) ≡ false = grind (arith, nat_tests) in
          let none : (nat_le r.start p && nat_lt p (r.start + r.len)) ≡ false = ap (λ (b : Bool). nat_le r.start p && b) past
          ∙ and_none (nat_le r.start p) in
          let rest : run_at (r ∷ rs) p ≡ run_at rs p = ap (λ (b : Bool). option_or (cond b (Some r.answer) None) (run_at rs p)) none in
          sym rest ∙ is p (omega arith)),
    )
  where
    and_none : (b : Bool) → (b && false) ≡ false
    and_none true = refl
    and_none false = refl

-- The source of a run's answer.
pub record IsAnswered (s : LineSections) (us : List kept.Unit) (spans : List Span) (r : Run LineSaid) : Type 0 where
  pub a : ℕ
  pub x : Numbered
  pub found : numbered_at us a ≡ Some x
  pub at : placed us spans r ≡ Some (placed_by r a x)
  pub answer : r.answer ≡ numbered_said s.strings a x

-- The section isn't too long, and the runs aren't too heavy, though they may be cut.
abbrev pub IsWritable : LineSections → List (Run LineSaid) → Type 0
IsWritable s rs = (length s.line ≤ section_limit) × (sum_by weight_in rs ≤ weight_limit + 2 ^ 28)

module _ (s : LineSections) (us : List kept.Unit) (index : SequenceIndex) (offsets : FirstRange) (are : AreLines s us index offsets)
    (spans : List Span) where
  pub answered : (r : Run LineSaid) → carried (line_at s) spans r.start ≡ Some r.answer → IsAnswered s us spans r
  answered r e = by_owner (owner spans r.start) refl e
    where
      by_number : (a : ℕ) → owner spans r.start ≡ Some a → (o : Option Numbered) → numbered_at us a ≡ o
          → option_map (numbered_said s.strings a) o ≡ Some r.answer
          → IsAnswered s us spans r
      by_number a f None n g = absurd (cc)
      by_number a f (Some x) n g = record {
        a = a;
        x = x;
        found = n;
        at = ap (placed_at us r) f ∙ ap (option_map (placed_by r a)) n;
        answer = same_Some r.answer (numbered_said s.strings a x) (sym g);
      }

      by_owner : (o : Option ℕ) → owner spans r.start ≡ o → option_and_then (line_at s) o ≡ Some r.answer → IsAnswered s us spans r
      by_owner None f g = absurd (cc)
      by_owner (Some a) f g = by_number a f (numbered_at us a) refl (sym (says s us index offsets are a) ∙ g)

  one_bound : (r : Run LineSaid) → IsAnswered s us spans r → placed_size (placed us spans r) ≤ 27 + 73 * length r.answer.rows
  one_bound r is =
      let has : HasTables s.strings is.x.unit.header =
      all_at (λ (u : kept.Unit). HasTables s.strings u.header) us is.x.number is.x.unit are.units.tables
      (unit_stands us is.a is.x is.found) in
      let rows = numbered_rows is.x is.a in
      let said : length (filter_map (row_said (told_unit s.strings is.x.unit)) rows) ≡ length rows =
      rows_said_count s.strings is.x.unit rows has (rows_filed us is.a is.x is.found) in
      let count : length r.answer.rows ≡ length rows = ap (λ (x : LineSaid). length x.rows) is.answer ∙ said in
      let size : placed_size (placed us spans r) ≡ 27 + 73 * length (moved r.start rows) = ap placed_size is.at in
      omega (arith, size, count, moved_count r.start rows)

  abbrev bytes : Run LineSaid → ℕ
  bytes r = placed_size (placed us spans r)

  runs_bound : (rs : List (Run LineSaid)) → AllStart (carried (line_at s) spans) rs → 96 * sum_by bytes rs ≤ 81 * sum_by weight_in rs
  runs_bound [] all = omega arith
  runs_bound (r ∷ rs) all =
      let one : bytes r ≤ 27 + 73 * length r.answer.rows = one_bound r (answered r all.0) in
      let more : 96 * sum_by bytes rs ≤ 81 * sum_by weight_in rs = runs_bound rs all.1 in
      omega (arith, one, more, sum_by-cons bytes r rs, sum_by-cons weight_in r rs)

  units_bound : (rs : List (Run LineSaid)) (k : ℕ) (more : List kept.Unit)
      → length (spelled_units (new_bytes s.strings us spans rs k more)) ≤ 2 * sum_by kept_size more + pieces_size us spans k
      (length more) rs
  unfolding new_bytes pieces_size
  units_bound rs k [] = omega arith
  units_bound rs k (u ∷ more) =
      let program : List ℕ = piece_program u.header.coding.default_is_stmt (pieces us spans k rs) in
      let b : List ℕ = unit.unit_bytes u.header program in
      let bs : List (List ℕ) = new_bytes s.strings us spans rs (k + 1) more in
      let p : length program ≤ sum_by piece_size (pieces us spans k rs) =
      program_size (written_coding u.header.coding.default_is_stmt) (pieces us spans k rs) in
      let size = unit_bytes_length u.header program in
      let four : length (little_bytes 4 (length b)) ≡ 4 = length-bytes_low_first 0 4 (length b) in
      let one : length (spelled_unit b ++ spelled_units bs) ≡ 4 + length b + length (spelled_units bs) =
      length-append (spelled_unit b) (spelled_units bs)
      ∙ ap (λ (n : ℕ). n + length (spelled_units bs))
      (length-append (little_bytes 4 (length b)) b ∙ ap (λ (n : ℕ). n + length b) four) in
      let rest : length (spelled_units bs) ≤ 2 * sum_by kept_size more + pieces_size us spans (k + 1) (length more) rs =
      units_bound rs (k + 1) more in
      omega (arith, p, size, one, rest, sum_by-cons kept_size u more)

  module _ (rs : List (Run LineSaid)) (within : IsWithin 0 rs (2 ^ 64 - 1)) (answers : (p : ℕ) → run_at rs p ≡ carried (line_at s) spans p)
      (fits : IsWritable s rs) where
    pub all_start : AllStart (carried (line_at s) spans) rs
    all_start = starts (carried (line_at s) spans) 0 (2 ^ 64 - 1) rs within (λ p h. answers p)

    pub table_small : length (spelled_units (new_bytes s.strings us spans rs 0 us)) < 2 ^ 32 - 1
    table_small =
        let a = units_bound rs 0 us in
        let b : pieces_size us spans 0 (length us) rs ≤ sum_by bytes rs = all_size us spans 0 (length us) rs in
        let d = runs_bound rs all_start in
        let e : sum_by kept_size us ≤ sum_by walked_size (walked 5 s.line) = are.units.sizes in
        let f : sum_by walked_size (walked 5 s.line) ≤ length s.line = walked_sizes (length s.line) 5 0 s.line in
        let g : length s.line ≤ section_limit = fits.0 in
        let h : sum_by weight_in rs ≤ weight_limit + 2 ^ 28 = fits.1 in
        omega (arith, a, b, d, e, f, g, h)

pub all_small : (n : ℕ) (bs : List (List ℕ)) → length (spelled_units bs) < n → All (λ b. length b < n) bs
all_small n [] h = All-nil (λ (b : List ℕ). length b < n)
all_small n (b ∷ bs) h =
    let one : length (spelled_unit b ++ spelled_units bs) ≡ length (little_bytes 4 (length b)) + length b + length (spelled_units bs) =
    length-append (spelled_unit b) (spelled_units bs)
    ∙ ap (λ (n : ℕ). n + length (spelled_units bs)) (length-append (little_bytes 4 (length b)) b) in
    All-cons (λ (b : List ℕ). length b < n) b bs (omega (arith, one)) (all_small n bs (omega (arith, one)))

-- The law of the written table: it has no fault, has the answers of its runs, and keeps units.
use Rattle.std.proofs.Common.{◌≡◌, ◌∙◌, ◌<◌, ◌≤◌, ◌-◌, ◌+◌, ◌^◌, ℕ, suc, List, [], ◌∷◌, Option, Some, None, refl, sym, ap, subst}
use Rattle.std.proofs.Common.{arith, length, map, option_map, Bool, true, false, cond}
use Rattle.std.specs.Prelude.{All, find, filter_map, flat_map, option_and_then, slice_get, not, is_some, sum_by}
use Rattle.std.proofs.lemmas.List.{length-map}
use Rattle.elf_image.specs.declared.elf.Elf.{Elf}
use Rattle.rb_bytes.specs.FirstFault.{IsFree}
use Rattle.addr_map.specs.declared.span.Span.{Span}
use Rattle.answer_runs.specs.AddressRanges.{AreApart}
use Rattle.answer_runs.specs.AnswerRuns.{IsWithin, run_at, carried}
use Rattle.answer_runs.specs.CarriedAnswers.{Agree, IsCarried, IsCarriedFrom}
use Rattle.answer_runs.specs.Choices.{unless_any}
use Rattle.answer_runs.specs.declared.first_range.FirstRange.{FirstRange}
use Rattle.answer_runs.specs.declared.run.Run.{Run}
use Rattle.answer_runs.specs.Weights.{weight_limit}
use Rattle.table_core.specs.DebugUnits.{Walked, walked}
use Rattle.table_core.specs.declared.written.Written.{Written}
use Rattle.table_core.specs.WrittenUnits.{units_bytes, walked_units}
use Rattle.table_core.proofs.UnitsBack.{units-back}
use Rattle.line_rewrite.specs.declared.sequence_index.SequenceIndex.{SequenceIndex}
use Rattle.line_rewrite.specs.declared.unit.Unit as kept
use Rattle.line_rewrite.specs.Entries.{Strings}
use Rattle.line_rewrite.specs.KeptLineUnits.{files_of, AreKeptUnits}
use Rattle.line_rewrite.specs.KeptUnits.{told_unit}
use Rattle.line_rewrite.specs.LineAnswers.{LineSaid, range_of, said_at, line_units}
use Rattle.line_rewrite.specs.LineMachine.{in_force}
use Rattle.line_rewrite.specs.SequenceIndex.{unit_sequence}
use Rattle.line_rewrite.specs.LineTable.{LineFits, LinesMade, moved_units, places_in}
use Rattle.line_rewrite.specs.LineUnits.{LineUnit, unit_in}
use Rattle.line_rewrite.specs.Tables.{LineSections, line_sections, line_version, line_fault, line_at, line_answers, HasLineFault}
use Rattle.line_rewrite.specs.Tables.{AreSequencesApart, StandsLines}
use Rattle.line_rewrite.specs.UnitLists.{AreLines}
use Rattle.line_rewrite.specs.WrittenRuns.{placed_by, placed, with_runs, begun, cut_runs, most_cuts, AllRowsFit}
use Rattle.line_rewrite.specs.WrittenUnits.{written_units, spelled_units}
use Rattle.line_rewrite.proofs.CutRuns.{all_at_cuts, all_weight, all_within}
use Rattle.line_rewrite.proofs.FoundRows.{unit_stands, moved_said}
use Rattle.line_rewrite.proofs.LineFaults.{units_are, line_free}
use Rattle.line_rewrite.proofs.RunPieces.{has_run}
use Rattle.line_rewrite.proofs.SequencesApart.{sequences_apart}
use Rattle.line_rewrite.proofs.TableBack.{run_found, new_units, new_bytes, all_written}
use Rattle.line_rewrite.proofs.TableSays.{said_rows, says_none, says_some, units_walked, all_back, none_bad, none_other}
use Rattle.line_rewrite.proofs.TableSays.{walked_count, bytes_same, tables_kept, files_kept}
use Rattle.line_rewrite.proofs.TableReads.{weight_in}
use Rattle.line_rewrite.proofs.TableSizes.{AllStart, IsWritable, answered, all_start, table_small, all_small}

-- The run that contains an address begins with its answer.
found_starts : (wanted : ℕ → Option LineSaid) (p : ℕ) (rs : List (Run LineSaid)) (r : Run LineSaid) → AllStart wanted rs
    → find (has_run p) rs ≡ Some r
    → wanted r.start ≡ Some r.answer
found_starts wanted p [] r all e = absurd (cc)
found_starts wanted p (x ∷ rs) r all e = by (has_run p x) e (found_starts wanted p rs r all.1)
  where
    by : (b : Bool) → cond b (Some x) (find (has_run p) rs) ≡ Some r → (find (has_run p) rs ≡ Some r → wanted r.start ≡ Some r.answer)
        → wanted r.start ≡ Some r.answer
    by true f more = let same : x ≡ r = cc in subst (λ (y : Run LineSaid). wanted y.start ≡ Some y.answer) same all.0
    by false f more = more f

agree_same : (a b : Option LineSaid) → a ≡ b → Agree (λ x y. x ≡ y) a b
agree_same a b e = subst (Agree (λ x y. x ≡ y) a) e (self a)
  where
    self : (a : Option LineSaid) → Agree (λ (x y : LineSaid). x ≡ y) a a
    self None = tt
    self (Some x) = refl

new_count : (strings : Strings) (us : List kept.Unit) (spans : List Span) (rs : List (Run LineSaid)) (k : ℕ) (more : List kept.Unit)
    → length (new_bytes strings us spans rs k more) ≡ length more
unfolding new_bytes
new_count strings us spans rs k [] = refl
new_count strings us spans rs k (u ∷ more) = ap suc (new_count strings us spans rs (k + 1) more)

module _ (s : LineSections) (us : List kept.Unit) (index : SequenceIndex) (offsets : FirstRange) (are : AreLines s us index offsets)
    (spans : List Span) (rs : List (Run LineSaid))
    (within : IsWithin 0 rs (2 ^ 64 - 1)) (answers : (p : ℕ) → run_at rs p ≡ carried (line_at s) spans p) (fits : IsWritable s rs) where
  small : All (λ b. length b < 2 ^ 32 - 1) (new_bytes s.strings us spans rs 0 us)
  small = all_small (2 ^ 32 - 1) (new_bytes s.strings us spans rs 0 us) (table_small s us index offsets are spans rs within answers fits)

  -- The condition of the writer.
  pub writes_small : All (λ b. length b < 2 ^ 32 - 1) (written_units us (with_runs us spans (begun us) rs))
  writes_small = subst (All (λ b. length b < 2 ^ 32 - 1)) (sym (all_written s.strings us spans rs)) small

  module _ (fit : AllRowsFit us spans rs) (bytes : List ℕ)
      (is : bytes ≡ spelled_units (written_units us (with_runs us spans (begun us) rs))) where
    bytes_are : bytes ≡ spelled_units (new_bytes s.strings us spans rs 0 us)
    bytes_are = is ∙ ap spelled_units (all_written s.strings us spans rs)

    from_first : (j : ℕ) (u : kept.Unit) → slice_get us j ≡ Some u → slice_get us (0 + j) ≡ Some u
    from_first j u e = let z : 0 + j ≡ j = omega arith in ap (slice_get us) z ∙ e

    low : 2 ^ 64 - 1 < 2 ^ 64
    low = omega arith

    pub table_walked : walked 5 bytes ≡ walked_units 0 (new_bytes s.strings us spans rs 0 us)
    table_walked =
        ap (walked 5) (bytes_are ∙ bytes_same (new_bytes s.strings us spans rs 0 us))
        ∙ units-back 5 0 (length (units_bytes (new_bytes s.strings us spans rs 0 us))) (new_bytes s.strings us spans rs 0 us)
        (units_walked s.strings us spans rs (2 ^ 64 - 1) within low fit 0 us small) (omega arith)

    new_units_are : line_units s.strings bytes ≡ new_units s.strings us spans rs 0 us
    new_units_are =
        ap (filter_map (unit_in s.strings)) table_walked
        ∙ all_back s.strings us spans rs (2 ^ 64 - 1) within low fit 0 0 us from_first are.units.tables small

    new_line : LineSections
    new_line = record { line = bytes; strings = s.strings }

    no_version : line_version (record { line = bytes; strings = s.strings }) ≡ None
    no_version = ap (λ (ws : List Walked). option_map (λ (w : Walked). w.place) (find (λ (w : Walked). w.is_other) ws)) table_walked
        ∙ ap (option_map (λ (w : Walked). w.place)) (none_other 0 (new_bytes s.strings us spans rs 0 us))

    no_fault : line_fault (record { line = bytes; strings = s.strings }) ≡ None
    no_fault = ap (λ (ws : List Walked). option_map (λ (w : Walked). w.place)
        (find (λ (w : Walked). not (is_some (unit_in s.strings w))) ws)) table_walked
        ∙ ap (option_map (λ (w : Walked). w.place))
        (none_bad s.strings us spans rs (2 ^ 64 - 1) within low fit 0 0 us from_first are.units.tables small)

    says_found : (p : ℕ) (o : Option (Run LineSaid)) → find (has_run p) rs ≡ o
        → option_map (λ r. r.answer) o ≡ said_at 0 (new_units s.strings us spans rs 0 us) p
    says_found p None e =
        sym (says_none s.strings us spans rs (2 ^ 64 - 1) within low fit p 0 us from_first (ap (option_and_then (placed us spans)) e))
    says_found p (Some r) e =
        let is = answered s us index offsets are spans r
        (found_starts (carried (line_at s) spans) p rs r (all_start s us index offsets are spans rs within answers fits) e) in
        let there : option_and_then (placed us spans) (find (has_run p) rs) ≡ Some (placed_by r is.a is.x) =
        ap (option_and_then (placed us spans)) e ∙ is.at in
        let n : is.x.number ≡ 0 + is.x.number = omega arith in
        ap (λ (x : LineSaid). Some x) is.answer
        ∙ sym (ap (said_rows is.x.number)
        (moved_said (told_unit s.strings is.x.unit) r.start (in_force is.a (unit_sequence is.x.unit is.x.sequence).rows)))
        ∙ sym (says_some s.strings us spans rs (2 ^ 64 - 1) within low fit p 0 is.x.number us
        (placed_by r is.a is.x) is.x.unit from_first there n
        (unit_stands us is.a is.x is.found))

    new_says : (p : ℕ) → run_at rs p ≡ line_at (record { line = bytes; strings = s.strings }) p
    new_says p = run_found p rs ∙ says_found p (find (has_run p) rs) refl ∙ sym (ap (λ (l : List LineUnit). said_at 0 l p) new_units_are)

    old_units_are : line_units s.strings s.line ≡ map (told_unit s.strings) us
    old_units_are = units_are s.strings s.line us are.units

    same_tables : map (λ (u : LineUnit). u.tables) (line_units s.strings bytes) ≡ map (λ (u : LineUnit). u.tables)
        (line_units s.strings s.line)
    same_tables =
        ap (map (λ (u : LineUnit). u.tables)) new_units_are
        ∙ tables_kept s.strings us spans rs (2 ^ 64 - 1) within low fit 0 us
        ∙ sym (ap (map (λ (u : LineUnit). u.tables)) old_units_are)

    same_files : map files_of (line_units s.strings bytes) ≡ map files_of (line_units s.strings s.line)
    same_files =
        ap (map files_of) new_units_are ∙ files_kept s.strings us spans rs (2 ^ 64 - 1) within low fit 0 us
        ∙ sym (ap (map files_of) old_units_are)

    -- A section with the bytes of the table.
    record Stands (t : LineSections) : Type 0 where
      carried_at : IsCarried (λ (x y : LineSaid). x ≡ y) spans (run_at rs) (unless_any (line_version t ∷ line_fault t ∷ []) (line_at t))
      free : IsFree (HasLineFault t)
      tables : map (λ (u : LineUnit). u.tables) (line_units t.strings t.line) ≡ map (λ (u : LineUnit). u.tables)
          (line_units s.strings s.line)
      files : map files_of (line_units t.strings t.line) ≡ map files_of (line_units s.strings s.line)

    stands : Stands (record { line = bytes; strings = s.strings })
    stands =
        let t : LineSections = record { line = bytes; strings = s.strings } in
        record {
          carried_at = rw (no_version, no_fault) (λ p owned. agree_same (run_at rs p) (line_at t p) (new_says p));
          free = line_free t no_version no_fault;
          tables = same_tables;
          files = same_files;
        }

    pub law : (written : Written) → written.bytes.items ≡ bytes → (i f : Elf) → s ≡ line_sections i → StandsLines i written f
        → IsCarried (λ x y. x ≡ y) spans (run_at rs) (line_answers f) × IsFree (HasLineFault (line_sections f)) × AreKeptUnits i f
    law written e i f from stood =
        let strings : s.strings ≡ (line_sections f).strings = ap (λ (t : LineSections). t.strings) from ∙ sym stood.strings in
        let line : bytes ≡ (line_sections f).line = sym e ∙ sym stood.table in
        let same : record { line = bytes; strings = s.strings } ≡ line_sections f = λ j. record { line = line j; strings = strings j } in
        let there : Stands (line_sections f) = subst Stands same stands in (
          there.carried_at,
          there.free,
          record {
            tables = there.tables ∙ ap (λ (t : LineSections). map (λ (u : LineUnit). u.tables) (line_units t.strings t.line)) from;
            files = there.files ∙ ap (λ (t : LineSections). map files_of (line_units t.strings t.line)) from;
            strings = sym strings ∙ ap (λ (t : LineSections). t.strings) from;
          },
        )

    old_count : length (walked 5 s.line) ≡ length us
    old_count =
        sym (length-map (walked 5 s.line) (unit_in s.strings))
        ∙ ap length are.units.are
        ∙ length-map us (λ (u : kept.Unit). Some (told_unit s.strings u))

    pub made : (written : Written) → written.bytes.items ≡ bytes
        → written.lists.items ≡ moved_units (places_in s.line) (places_in written.bytes.items) → LinesMade s written
    made written e lists = record {
      apart =
          subst (λ (l : List ℕ). AreSequencesApart (record { line = l; strings = s.strings })) (sym e)
          (subst (λ (l : List LineUnit). AreApart (map range_of (flat_map (λ (u : LineUnit). u.sequences) l))) (sym new_units_are)
          (sequences_apart s.strings us spans rs (2 ^ 64 - 1) within low fit from_first));
      count =
          ap (λ (l : List ℕ). length (places_in l)) e
          ∙ length-map (walked 5 bytes) (λ (w : Walked). w.place)
          ∙ ap length table_walked ∙ walked_count 0 (new_bytes s.strings us spans rs 0 us)
          ∙ new_count s.strings us spans rs 0 us
          ∙ sym (length-map (walked 5 s.line) (λ (w : Walked). w.place) ∙ old_count);
      lists = lists;
      low =
          let size = table_small s us index offsets are spans rs within answers fits in
          omega (arith, ap length (e ∙ bytes_are), size);
    }

-- The same of runs that are cut, if a whole run's answer is the right one.

module _ (self s : LineSections) (view : self ≡ s) (us now : List kept.Unit) (same : now ≡ us) (index : SequenceIndex)
    (offsets : FirstRange) (are : AreLines s us index offsets)
    (spans : List Span) (rs : List (Run LineSaid)) (within : IsWithin 0 rs (2 ^ 64 - 1))
    (answers : (p : ℕ) → run_at rs p ≡ carried (line_at self) spans p)
    (fits : LineFits self spans rs) (cs : List ℕ) (few : length cs ≤ most_cuts) where
  are_lines : AreLines self now index offsets
  are_lines =
      subst (λ (t : LineSections). AreLines t now index offsets) (sym view)
      (subst (λ (l : List kept.Unit). AreLines s l index offsets) (sym same) are)

  cut_answers : (p : ℕ) → run_at (cut_runs cs rs) p ≡ carried (line_at self) spans p
  cut_answers p = all_at_cuts p cs rs ∙ answers p

  cut_fits : IsWritable self (cut_runs cs rs)
  cut_fits =
      let whole : sum_by weight_in rs ≤ weight_limit = fits.1 in
      (fits.0, omega (arith, whole, few, all_weight cs rs))

  cut_in : IsWithin 0 (cut_runs cs rs) (2 ^ 64 - 1)
  cut_in = all_within 0 (2 ^ 64 - 1) cs rs within

  pub small_units : All (λ b. length b < 2 ^ 32 - 1) (written_units now (with_runs now spans (begun now) (cut_runs cs rs)))
  small_units = writes_small self now index offsets are_lines spans (cut_runs cs rs) cut_in cut_answers cut_fits

  module _ (written : Written) (fit : AllRowsFit now spans (cut_runs cs rs))
      (is : written.bytes.items ≡ spelled_units (written_units now (with_runs now spans (begun now) (cut_runs cs rs)))) where
    pub written_law : (i f : Elf) → self ≡ line_sections i → StandsLines i written f
        → IsCarriedFrom (λ x y. x ≡ y) spans (line_at self) (line_answers f) × IsFree (HasLineFault (line_sections f))
        × AreKeptUnits i f
    written_law i f from stood =
        let t = law self now index offsets are_lines spans (cut_runs cs rs) cut_in cut_answers cut_fits fit written.bytes.items is
        written refl i f from stood in
        let all : run_at (cut_runs cs rs) ≡ carried (line_at self) spans = λ j p. cut_answers p j in
        (subst (λ (want : ℕ → Option LineSaid). IsCarried (λ (x y : LineSaid). x ≡ y) spans want (line_answers f)) all t.0, t.1, t.2)

    pub written_made : (line : List ℕ) → line ≡ s.line → written.lists.items ≡ moved_units (places_in line) (places_in written.bytes.items)
        → LinesMade self written
    written_made line e lists =
        let old : line ≡ self.line = e ∙ sym (ap (λ (t : LineSections). t.line) view) in
        made self now index offsets are_lines spans (cut_runs cs rs) cut_in cut_answers cut_fits fit written.bytes.items is written refl
        (lists ∙ ap (λ (l : List ℕ). moved_units (places_in l) (places_in written.bytes.items)) old)

-- Where a table of program headers that stays, or moves with the bytes beside it, is loaded in the written file: at the address
-- of the input's.
use Rattle.std.proofs.Common.{◌≡◌, ◌∙◌, sym, subst, refl, ℕ, suc, ◌+◌, ◌≤◌, ◌<◌, ◌⊎◌, inl, inr, List, [], ◌∷◌, Bool, true, false}
use Rattle.std.proofs.Common.{IsTrue, length, get_or, arith, min}
use Rattle.std.specs.Prelude.{find, ◌&&◌, ◌==◌, nat_le}
use Rattle.std.specs.Option.{option_map_or}
use Rattle.std.proofs.lemmas.Bool.{and_parts, and_from, le-leb, leb-true, cases_lt}
use Rattle.elf_image.specs.declared.segment.Segment.{Segment}
use Rattle.elf_image.specs.declared.segment.TheConstants.{PT_LOAD}
use Rattle.elf_image.specs.memory.Image.{is_load}
use Rattle.elf_image.specs.memory.LoadedBytes.{Range, loads_range, address_in}
use Rattle.elf_plan.specs.NewSegments.{IsRenewed, AreRenewed, CrossesNot}
use Rattle.elf_make.proofs.Loads.{moved-behind, moved-before}
use Rattle.rb_bytes.proofs.Tests.{bool_same}

-- a segment loads a range of the file
pub record LoadsRange (start size : ℕ) (p : Segment) : Type 0 where
  pub load : IsTrue (is_load p)
  pub from : p.offset ≤ start
  pub in_file : start + size ≤ p.offset + p.filesz
  pub in_memory : start + size ≤ p.offset + p.memsz

abbrev range_at : ℕ → ℕ → Range
range_at start size = record { start = start; size = size }

pub loads-range : (start size : ℕ) (p : Segment) → loads_range (range_at start size) p ≡ true → LoadsRange start size p
loads-range start size p e =
    let both = and_parts (is_load p && nat_le p.offset start) (nat_le (start + size) (p.offset + min p.filesz p.memsz)) e in
    let front = and_parts (is_load p) (nat_le p.offset start) both.0 in
    let under : start + size ≤ p.offset + min p.filesz p.memsz =
    leb-true (start + size) (p.offset + min p.filesz p.memsz) both.1 in
    record { load = front.0; from = leb-true p.offset start front.1; in_file = omega arith; in_memory = omega arith }

pub range-loads : (start size : ℕ) (p : Segment) → LoadsRange start size p → loads_range (range_at start size) p ≡ true
range-loads start size p loads =
    let low = loads.in_file in
    let high = loads.in_memory in
    and_from (is_load p && nat_le p.offset start) (nat_le (start + size) (p.offset + min p.filesz p.memsz))
    (and_from (is_load p) (nat_le p.offset start) loads.load (le-leb p.offset start loads.from))
    (le-leb (start + size) (p.offset + min p.filesz p.memsz) (omega arith))

-- What is found in two lists that pass tests alike.
found-kept : (test new_test : Segment → Bool) (value new_value : Segment → ℕ) (ps qs : List Segment) → length qs ≡ length ps →
    ((k : ℕ) (d : Segment) → k < length ps → new_test (get_or qs k d) ≡ test (get_or ps k d)) →
    ((k : ℕ) (d : Segment) → k < length ps → test (get_or ps k d) ≡ true → new_value (get_or qs k d) ≡ value (get_or ps k d)) →
    option_map_or new_value (find new_test qs) 0 ≡ option_map_or value (find test ps) 0
found-kept test new_test value new_value [] [] count tests values = refl
found-kept test new_test value new_value [] (q ∷ qs) count tests values = absurd (omega arith)
found-kept test new_test value new_value (p ∷ ps) [] count tests values = absurd (omega arith)
found-kept test new_test value new_value (p ∷ ps) (q ∷ qs) count tests values =
    cases
    (found-kept test new_test value new_value ps qs (omega arith) (λ k d below. tests (suc k) d (omega arith))
    (λ k d below passes. values (suc k) d (omega arith) passes))
    (tests 0 p (omega arith)) (values 0 p (omega arith)) (test p) refl
  where
    cases : option_map_or new_value (find new_test qs) 0 ≡ option_map_or value (find test ps) 0 → new_test q ≡ test p →
        (test p ≡ true → new_value q ≡ value p) → (b : Bool) → test p ≡ b →
        option_map_or new_value (find new_test (q ∷ qs)) 0 ≡ option_map_or value (find test (p ∷ ps)) 0
    cases rest same value_is true e = let passes : new_test q ≡ true = same ∙ e in rw (passes, e) (value_is e)
    cases rest same value_is false e = let fails : new_test q ≡ false = same ∙ e in rw (fails, e) rest

-- A segment that grows, with its bytes up to the end of the executable segment and then up to that of the area.
pub record GrowsTo (file_end area_end : ℕ) (p q : Segment) : Type 0 where
  pub some : 0 < p.filesz
  pub whole : p.offset + p.filesz ≡ file_end
  pub within : q.offset + q.filesz ≤ area_end

-- A range of the file is before the end, or moves with loaded bytes after the area; or it isn't loaded at all.
pub data StandsAlike (file_end step area_end start size : ℕ) (ps qs : List Segment) : ℕ → Type 0 where
  stays : start < file_end → start + size ≤ file_end → StandsAlike file_end step area_end start size ps qs start
  moves : file_end ≤ start → area_end ≤ start + step → StandsAlike file_end step area_end start size ps qs (start + step)
  unloaded : (at : ℕ) → ((k : ℕ) (d : Segment) → k < length ps → LoadsRange start size (get_or ps k d) → ⊥) →
      ((k : ℕ) (d : Segment) → k < length ps → LoadsRange at size (get_or qs k d) → ⊥) →
      StandsAlike file_end step area_end start size ps qs at

-- one segment
module _ (file_end step end area_end start size : ℕ) (tight grown : Bool) (p q : Segment) (some : 0 < size)
    (renewed : IsRenewed file_end step end tight grown p q) (apart : IsTrue (is_load p) → CrossesNot file_end p)
    (grows : grown ≡ true → GrowsTo file_end area_end p q) where
  abbrev AreSized : Type 0
  AreSized = ((q.filesz ≡ p.filesz) × (q.memsz ≡ p.memsz))
      ⊎ ((grown ≡ true) × (p.memsz ≡ p.filesz) × (p.filesz ≤ q.filesz) × (q.memsz ≡ q.filesz))

  loaded : IsTrue (is_load q) → IsTrue (is_load p)
  loaded load = subst (λ (k : ℕ). IsTrue (k == PT_LOAD)) renewed.kind load

  loads : IsTrue (is_load p) → IsTrue (is_load q)
  loads load = subst (λ (k : ℕ). IsTrue (k == PT_LOAD)) (sym renewed.kind) load

  pub sized : IsTrue (is_load p) → AreSized
  sized load = cases (renewed.load load).sizes grown refl
    where
      cases : ((q.filesz ≡ p.filesz) × (q.memsz ≡ p.memsz))
          ⊎ ((p.memsz ≡ p.filesz) × (p.filesz ≤ q.filesz) × (q.memsz ≡ q.filesz)) → (b : Bool) → grown ≡ b → AreSized
      cases (inl same) b e = inl same
      cases (inr more) true e = inr (e, more.0, more.1, more.2)
      cases (inr more) false e =
          let same : q.memsz ≡ p.memsz = renewed.same load e in
          let f = more.0 in
          let g = more.2 in
          inl (omega (arith, same), same)

  -- if it has bytes of the file, it had some
  pub had_bytes : IsTrue (is_load p) → 0 < q.filesz → 0 < p.filesz
  had_bytes load bytes = cases (sized load)
    where
      cases : AreSized → 0 < p.filesz
      cases (inl same) = let e : q.filesz ≡ p.filesz = same.0 in omega arith
      cases (inr more) = (grows more.0).some

  larger : IsTrue (is_load p) → (p.filesz ≤ q.filesz) × (p.memsz ≤ q.memsz)
  larger load = cases (sized load)
    where
      cases : AreSized → (p.filesz ≤ q.filesz) × (p.memsz ≤ q.memsz)
      cases (inl same) = let e : q.filesz ≡ p.filesz = same.0 in let f : q.memsz ≡ p.memsz = same.1 in (omega arith, omega arith)
      cases (inr more) = let e = more.1 in let f = more.2 in let g = more.3 in (omega arith, omega arith)

  -- a range before the end
  kept-stays : start < file_end → start + size ≤ file_end → LoadsRange start size p → LoadsRange start size q
  kept-stays low within has =
      let from = has.from in
      let bytes = has.in_file in
      let memory = has.in_memory in
      let place : q.offset ≡ p.offset =
      (renewed.load has.load).offset (omega arith) ∙ moved-before file_end step p.offset (omega arith) in
      let more = larger has.load in
      let in_file = more.0 in
      let in_memory = more.1 in
      record {
        load = loads has.load;
        from = omega (arith, place);
        in_file = omega (arith, place);
        in_memory = omega (arith, place);
      }

  back-stays : start < file_end → start + size ≤ file_end → LoadsRange start size q → LoadsRange start size p
  back-stays low within has = cases (cases_lt p.offset file_end) (sized load)
    where
      load : IsTrue (is_load p)
      load = loaded has.load

      bytes : 0 < p.filesz
      bytes = let from = has.from in let size_in = has.in_file in had_bytes load (omega arith)

      cases : (p.offset < file_end) ⊎ (file_end ≤ p.offset) → AreSized → LoadsRange start size p
      cases (inr behind) sizes =
          let place : q.offset ≡ p.offset + step =
          (renewed.load load).offset bytes ∙ moved-behind file_end step p.offset behind in
          let from = has.from in
          absurd (omega arith)
      cases (inl before) (inl same) =
          let place : q.offset ≡ p.offset = (renewed.load load).offset bytes ∙ moved-before file_end step p.offset before in
          let e : q.filesz ≡ p.filesz = same.0 in
          let f : q.memsz ≡ p.memsz = same.1 in
          let from = has.from in
          let in_file = has.in_file in
          let in_memory = has.in_memory in
          record {
            load = load;
            from = omega (arith, place);
            in_file = omega (arith, place, e);
            in_memory = omega (arith, place, f);
          }
      cases (inl before) (inr more) =
          let place : q.offset ≡ p.offset = (renewed.load load).offset bytes ∙ moved-before file_end step p.offset before in
          let whole : p.offset + p.filesz ≡ file_end = (grows more.0).whole in
          let e : p.memsz ≡ p.filesz = more.1 in
          let from = has.from in
          record { load = load; from = omega (arith, place); in_file = omega (arith, whole); in_memory = omega (arith, whole, e) }

  -- one that moves after the area
  kept-moves : file_end ≤ start → LoadsRange start size p → LoadsRange (start + step) size q
  kept-moves behind has = cases (cases_lt p.offset file_end)
    where
      cases : (p.offset < file_end) ⊎ (file_end ≤ p.offset) → LoadsRange (start + step) size q
      cases (inl before) = let ends = apart has.load before in let bytes = has.in_file in absurd (omega arith)
      cases (inr beyond) =
          let from = has.from in
          let bytes = has.in_file in
          let memory = has.in_memory in
          let place : q.offset ≡ p.offset + step =
          (renewed.load has.load).offset (omega arith) ∙ moved-behind file_end step p.offset beyond in
          let more = larger has.load in
          let in_file = more.0 in
          let in_memory = more.1 in
          record {
            load = loads has.load;
            from = omega (arith, place);
            in_file = omega (arith, place);
            in_memory = omega (arith, place);
          }

  back-moves : file_end ≤ start → area_end ≤ start + step → LoadsRange (start + step) size q → LoadsRange start size p
  back-moves behind above has = cases (cases_lt p.offset file_end) (sized load)
    where
      load : IsTrue (is_load p)
      load = loaded has.load

      bytes : 0 < p.filesz
      bytes = let from = has.from in let size_in = has.in_file in had_bytes load (omega arith)

      cases : (p.offset < file_end) ⊎ (file_end ≤ p.offset) → AreSized → LoadsRange start size p
      cases (inr beyond) (inl same) =
          let place : q.offset ≡ p.offset + step =
          (renewed.load load).offset bytes ∙ moved-behind file_end step p.offset beyond in
          let e : q.filesz ≡ p.filesz = same.0 in
          let f : q.memsz ≡ p.memsz = same.1 in
          let from = has.from in
          let in_file = has.in_file in
          let in_memory = has.in_memory in
          record {
            load = load;
            from = omega (arith, place);
            in_file = omega (arith, place, e);
            in_memory = omega (arith, place, f);
          }
      cases (inr beyond) (inr more) =
          let whole : p.offset + p.filesz ≡ file_end = (grows more.0).whole in
          absurd (omega (arith, whole, bytes))
      cases (inl before) (inl same) =
          let place : q.offset ≡ p.offset = (renewed.load load).offset bytes ∙ moved-before file_end step p.offset before in
          let e : q.filesz ≡ p.filesz = same.0 in
          let ends = apart load before in
          let in_file = has.in_file in
          absurd (omega (arith, place, e))
      cases (inl before) (inr more) =
          let within : q.offset + q.filesz ≤ area_end = (grows more.0).within in
          let in_file = has.in_file in
          absurd (omega arith)

  address-stays : start < file_end → LoadsRange start size p →
      address_in (range_at start size) q ≡ address_in (range_at start size) p
  address-stays low has =
      let from = has.from in
      let bytes = has.in_file in
      let place : q.offset ≡ p.offset =
      (renewed.load has.load).offset (omega arith) ∙ moved-before file_end step p.offset (omega arith) in
      let at : q.vaddr ≡ p.vaddr = (renewed.load has.load).vaddr in
      omega (arith, place, at)

  address-moves : file_end ≤ start → LoadsRange start size p →
      address_in (range_at (start + step) size) q ≡ address_in (range_at start size) p
  address-moves behind has = cases (cases_lt p.offset file_end)
    where
      cases : (p.offset < file_end) ⊎ (file_end ≤ p.offset) →
          address_in (range_at (start + step) size) q ≡ address_in (range_at start size) p
      cases (inl before) = let ends = apart has.load before in let bytes = has.in_file in absurd (omega arith)
      cases (inr beyond) =
          let from = has.from in
          let bytes = has.in_file in
          let place : q.offset ≡ p.offset + step =
          (renewed.load has.load).offset (omega arith) ∙ moved-behind file_end step p.offset beyond in
          let at : q.vaddr ≡ p.vaddr = (renewed.load has.load).vaddr in
          omega (arith, place, at)

-- where it is loaded, 0 if it isn't
abbrev pub range_address : ℕ → ℕ → List Segment → ℕ
range_address start size segments =
    option_map_or (address_in (range_at start size)) (find (loads_range (range_at start size)) segments) 0

pub address-kept : (file_end step end area_end start size : ℕ) (tight : Bool) (grows : ℕ → Bool) (ps qs : List Segment) (at : ℕ) →
    0 < size → AreRenewed file_end step end tight grows ps qs →
    ((k : ℕ) (d : Segment) → k < length ps → IsTrue (is_load (get_or ps k d)) → CrossesNot file_end (get_or ps k d)) →
    ((k : ℕ) (d : Segment) → k < length ps → grows k ≡ true → GrowsTo file_end area_end (get_or ps k d) (get_or qs k d)) →
    StandsAlike file_end step area_end start size ps qs at → range_address at size qs ≡ range_address start size ps
address-kept file_end step end area_end start size tight grows ps qs at some are apart grow (stays low within) =
    found-kept (loads_range (range_at start size)) (loads_range (range_at start size)) (address_in (range_at start size))
    (address_in (range_at start size)) ps qs are.count
    (λ k d below.
    bool_same (loads_range (range_at start size) (get_or qs k d)) (loads_range (range_at start size) (get_or ps k d))
    (λ e. range-loads start size (get_or ps k d)
    (back-stays file_end step end area_end start size tight (grows k) (get_or ps k d) (get_or qs k d) some (are.each k d d below)
    (apart k d below) (grow k d below) low within (loads-range start size (get_or qs k d) e)))
    (λ e. range-loads start size (get_or qs k d)
    (kept-stays file_end step end area_end start size tight (grows k) (get_or ps k d) (get_or qs k d) some (are.each k d d below)
    (apart k d below) (grow k d below) low within (loads-range start size (get_or ps k d) e))))
    (λ k d below e. address-stays file_end step end area_end start size tight (grows k) (get_or ps k d) (get_or qs k d) some
    (are.each k d d below) (apart k d below) (grow k d below) low (loads-range start size (get_or ps k d) e))
address-kept file_end step end area_end start size tight grows ps qs at some are apart grow (moves behind above) =
    found-kept (loads_range (range_at start size)) (loads_range (range_at (start + step) size)) (address_in (range_at start size))
    (address_in (range_at (start + step) size)) ps qs are.count
    (λ k d below.
    bool_same (loads_range (range_at (start + step) size) (get_or qs k d)) (loads_range (range_at start size) (get_or ps k d))
    (λ e. range-loads start size (get_or ps k d)
    (back-moves file_end step end area_end start size tight (grows k) (get_or ps k d) (get_or qs k d) some (are.each k d d below)
    (apart k d below) (grow k d below) behind above (loads-range (start + step) size (get_or qs k d) e)))
    (λ e. range-loads (start + step) size (get_or qs k d)
    (kept-moves file_end step end area_end start size tight (grows k) (get_or ps k d) (get_or qs k d) some (are.each k d d below)
    (apart k d below) (grow k d below) behind (loads-range start size (get_or ps k d) e))))
    (λ k d below e. address-moves file_end step end area_end start size tight (grows k) (get_or ps k d) (get_or qs k d) some
    (are.each k d d below) (apart k d below) (grow k d below) behind (loads-range start size (get_or ps k d) e))
address-kept file_end step end area_end start size tight grows ps qs at some are apart grow (unloaded _ before after) =
    found-kept (loads_range (range_at start size)) (loads_range (range_at at size)) (address_in (range_at start size))
    (address_in (range_at at size)) ps qs are.count
    (λ k d below.
    bool_same (loads_range (range_at at size) (get_or qs k d)) (loads_range (range_at start size) (get_or ps k d))
    (λ e. absurd (after k d below (loads-range at size (get_or qs k d) e)))
    (λ e. absurd (before k d below (loads-range start size (get_or ps k d) e))))
    (λ k d below e. absurd (before k d below (loads-range start size (get_or ps k d) e)))

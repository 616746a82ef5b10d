-- The files of the line number program with an index.
use Rattle.std.proofs.Common.{◌≡◌, ◌∙◌, ℕ, zero, suc, ◌+◌, Bool, true, false, List, [], ◌∷◌, Option, Some, None, refl, sym, ap, arith}
use Rattle.std.specs.Prelude.{◌==◌, not, is_some, option_map, option_and_then, map, filter_map, slice_get, cond, if◌then◌else◌}
use Rattle.std.specs.List.{find, position_or_len, cons_option}
use Rattle.elf_image.specs.declared.elf.Elf.{Elf}
use Rattle.table_core.specs.DebugUnits.{Walked, walked, first_place}
use Rattle.line_rewrite.specs.LineUnits.{LineUnit, unit_of}
use Rattle.line_rewrite.specs.LineAnswers.{line_units}
use Rattle.line_rewrite.specs.Tables.{LineSections, line_sections, line_fault}
use Rattle.line_rewrite.specs.FilePaths.{line_unit_at}
use Rattle.line_rewrite.specs.KeptLineUnits.{files_of, unit_files, unit_number}
use Rattle.inline_frames.proofs.KeptChains.{files_at}

-- If every line number program can be read, the one at an offset has that offset's index.

module _ (g : Walked → Option LineUnit) where
  tail_fine : (w : Walked) (ws : List Walked) → first_place (λ w. not (is_some (g w))) (w ∷ ws) ≡ None →
      first_place (λ w. not (is_some (g w))) ws ≡ None
  tail_fine w ws fine = by (g w) fine
    where
      by : (o : Option LineUnit) →
          option_map (λ (u : Walked). u.place) (if not (is_some o) then Some w else find (λ w. not (is_some (g w))) ws) ≡ None →
          first_place (λ w. not (is_some (g w))) ws ≡ None
      by None h = absurd (cc)
      by (Some u) h = h

  head_fine : (w : Walked) (ws : List Walked) → first_place (λ w. not (is_some (g w))) (w ∷ ws) ≡ None →
      (u : LineUnit) × (g w ≡ Some u)
  head_fine w ws fine = by (g w) fine refl
    where
      by : (o : Option LineUnit) →
          option_map (λ (u : Walked). u.place) (if not (is_some o) then Some w else find (λ w. not (is_some (g w))) ws) ≡ None →
          g w ≡ o → (u : LineUnit) × (g w ≡ Some u)
      by None h e = absurd (cc)
      by (Some u) h e = (u, e)

  pub at_number : (offset : ℕ) (ws : List Walked) → first_place (λ w. not (is_some (g w))) ws ≡ None →
      option_and_then g (find (λ (w : Walked). w.place == offset) ws)
      ≡ slice_get (filter_map g ws) (position_or_len (λ p. p == offset) (map (λ (w : Walked). w.place) ws))
  at_number offset [] fine = refl
  at_number offset (w ∷ ws) fine = by (w.place == offset) (head_fine w ws fine) (at_number offset ws (tail_fine w ws fine))
    where
      suc_is : (n : ℕ) → 1 + n ≡ suc n
      suc_is n = omega arith

      by : (b : Bool) → (u : LineUnit) × (g w ≡ Some u) →
          option_and_then g (find (λ (w : Walked). w.place == offset) ws)
          ≡ slice_get (filter_map g ws) (position_or_len (λ p. p == offset) (map (λ (w : Walked). w.place) ws)) →
          option_and_then g (if b then Some w else find (λ (w : Walked). w.place == offset) ws)
          ≡ slice_get (cons_option (g w) (filter_map g ws))
          (cond (not b) (1 + position_or_len (λ p. p == offset) (map (λ (w : Walked). w.place) ws)) 0)
      by true (u, is) more = is ∙ sym (ap (λ o. slice_get (cons_option o (filter_map g ws)) 0) is)
      by false (u, is) more = more
          ∙ ap (λ n. slice_get (u ∷ filter_map g ws) n)
          (sym (suc_is (position_or_len (λ p. p == offset) (map (λ (w : Walked). w.place) ws))))
          ∙ sym (ap (λ o. slice_get (cons_option o (filter_map g ws))
          (1 + position_or_len (λ p. p == offset) (map (λ (w : Walked). w.place) ws))) is)

-- For the values that units are mapped to.
pub map-slice_get : {A B : Type 0} (h : A → B) (xs : List A) (k : ℕ) → option_map h (slice_get xs k) ≡ slice_get (map h xs) k
map-slice_get h [] k = refl
map-slice_get h (x ∷ xs) zero = refl
map-slice_get h (x ∷ xs) (suc k) = map-slice_get h xs k

abbrev read_unit : LineSections → Walked → Option LineUnit
read_unit s w = option_and_then (unit_of s.strings) w.bytes

files_by_number : (s : LineSections) (offset : ℕ) → line_fault s ≡ None →
    option_map files_of (line_unit_at s offset) ≡ slice_get (map files_of (line_units s.strings s.line)) (unit_number s offset)
files_by_number s offset fine =
    ap (λ o. option_map files_of o) (at_number (read_unit s) offset (walked 5 s.line) fine)
    ∙ map-slice_get files_of (filter_map (read_unit s) (walked 5 s.line)) (unit_number s offset)

-- Offsets with the same index are of line number programs with the same files.
pub same_files : (i f : Elf) → line_fault (line_sections i) ≡ None → line_fault (line_sections f) ≡ None →
    unit_files (line_sections f) ≡ unit_files (line_sections i) → (old new : ℕ) →
    unit_number (line_sections f) new ≡ unit_number (line_sections i) old → files_at f new ≡ files_at i old
same_files i f sound_input sound files old new same =
    files_by_number (line_sections f) new sound
    ∙ ap (λ n. slice_get (map files_of (line_units (line_sections f).strings (line_sections f).line)) n) same
    ∙ ap (λ us. slice_get us (unit_number (line_sections i) old)) files
    ∙ sym (files_by_number (line_sections i) old sound_input)

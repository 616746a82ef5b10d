-- Where the map puts the new code says whether the file is tight: the area never starts at both places.
use Rattle.std.proofs.Common.{◌≡◌, ◌∙◌, ap, refl, ℕ, ◌+◌, ◌*◌, ◌≤◌, ◌<◌, List, Option, Some, None, Bool, true, false, length}
use Rattle.std.proofs.Common.{arith, nat_le, nat_lt}
use Rattle.std.specs.Prelude.{Contains, is_none, is_some, max, not}
use Rattle.std.specs.Option.{option_map_or}
use Rattle.std.proofs.lemmas.Bool.{and_from, le-leb, lt-ltb, lt-leb}
use Rattle.elf_image.specs.declared.segment.Segment.{Segment}
use Rattle.elf_image.specs.declared.segment.TheConstants.{PHDR_SIZE}
use Rattle.elf_image.specs.memory.CodeSegment.{executable_segment}
use Rattle.elf_image.specs.memory.Image.{end_of, is_load}
use Rattle.addr_map.specs.Spans.{owner}
use Rattle.file_room.specs.Room.{area_above, area_start, break_end, code_end, greatest_align, highest_end, new_segment_start}
use Rattle.elf_make.specs.Source.{Source, HasPlace}
use Rattle.elf_make.proofs.FileEnds.{max-above}
use Rattle.elf_make.proofs.SameBreak.{rounded_up-above, align-above}

none-or-some : {X : Type 0} (o : Option X) (b : Bool) → is_some o ≡ b → is_none o ≡ not b
none-or-some None b e = ap not e
none-or-some (Some x) b e = ap not e

module _ (s : Source) (below : area_start s.elf.segments.items < area_above s.elf.segments.items) where
  ps : List Segment
  ps = s.elf.segments.items

  pub is-tight : (tight : Bool) → HasPlace s tight → is_none (owner s.spans (area_start s.elf.segments.items)) ≡ tight
  is-tight false placed =
      let some : 0 < length s.code = placed.some in
      let start : ℕ = area_start s.elf.segments.items in
      none-or-some (owner s.spans start) true
      (placed.stretch start ∙ and_from (nat_le start start) (nat_lt start (start + length s.code))
      (le-leb start start (omega arith)) (lt-ltb start (start + length s.code) (omega arith)))
  is-tight true placed =
      let start : ℕ = area_start s.elf.segments.items in
      none-or-some (owner s.spans start) false
      (placed.stretch start ∙ rw (lt-leb (area_above s.elf.segments.items) start below) refl)

-- the new segment starts above the executable one
pub starts-above : (ps : List Segment) (code : ℕ) (p : Segment) → executable_segment ps ≡ Some (code, p) → Contains ps p →
    is_load p ≡ true → area_start ps < area_above ps
starts-above ps code p found there load =
    let end : code_end ps ≡ end_of p = ap (λ (o : Option (ℕ × Segment)). option_map_or (λ e. end_of e.1) o 0) found in
    let high : end_of p ≤ highest_end ps = max-above is_load end_of ps 0 p there load in
    let unit = align-above ps in
    let new = rounded_up-above (greatest_align ps) (max (highest_end ps) (break_end ps)) (omega (arith, unit)) in
    let up = rounded_up-above 16 (new_segment_start ps + PHDR_SIZE * (length ps + 1)) (omega arith) in
    let low : area_start ps < code_end ps + 16 = omega arith in
    omega (arith, end, high, new, up, low)

-- A file that was made has the program headers that it must have, by what is read of it.
use Rattle.std.proofs.Common.{◌≡◌, ◌∙◌, sym, ap, subst, ℕ, ◌+◌, List, Option, Bool, String, Vec, length, map}
use Rattle.std.specs.Prelude.{All, IfSome, codes, unwrap_or}
use Rattle.elf_image.specs.declared.elf.Elf.{Elf}
use Rattle.elf_image.specs.declared.segment.Segment.{Segment}
use Rattle.elf_image.specs.faults.FileFaults.{IsSound}
use Rattle.elf_image.specs.file.ParsedFile.{IsElfOf}
use Rattle.elf_parts.specs.Parts.{size_of}
use Rattle.elf_plan.specs.Contents.{contents_of}
use Rattle.elf_plan.specs.HeaderPlaces.{ArePlaced, HasNewHeaders, Outline, outline_of}
use Rattle.elf_plan.specs.TableSizes.{table_size}
use Rattle.elf_make.specs.FileParts.{IsMade}
use Rattle.elf_make.specs.MadeSections.{HasSections, outline_made}
use Rattle.elf_make.specs.Source.{Source}
use Rattle.elf_make.proofs.CellPieces.{CanHoldPiece}
use Rattle.elf_make.proofs.MadeHeaders.{e_phoff-written, length-written, segments-written}
use Rattle.elf_make.proofs.SectionsRead.{offsets-read}

module _ {Y Z : Type 0} (s : Source) (tight : Bool) (w : List ℕ) (read : IsElfOf s.elf.file.now s.elf)
    (sound : IsSound s.elf.file.now) (made : IsMade s tight w) (can : All (CanHoldPiece s.elf) s.cells)
    (tables : List (String Y × Vec ℕ Z)) (has : HasSections s tables tight w made) (new : Elf) (new_read : IsElfOf w new) where
  abbrev Placed : List ℕ → Outline → ℕ → List Segment → Type 0
  Placed offsets o code qs =
      ArePlaced (contents_of s.elf tables made.layout.area made.layout.shift) s.elf.segments.items s.elf.sections.items offsets o
      code qs

  table_at : made.program_headers_at ≡ new.phoff
  table_at = sym (new_read.phoff ∙ e_phoff-written s tight w made)

  file_size : size_of made.layout.parts + length made.tail ≡ length new.file.now
  file_size = sym (ap length new_read.file_is ∙ length-written s tight w made)

  outline-is : outline_made s tables tight w made ≡ outline_of new tables made.layout.area made.layout.shift
  outline-is = λ i. record {
    area = made.layout.area;
    shift = made.layout.shift;
    table_at = table_at i;
    index_size = unwrap_or (table_size tables (codes ".eh_frame_hdr")) 0;
    file_size = file_size i;
  }

  placed : Placed (map (λ n. n.offset) new.sections.items) (outline_of new tables made.layout.area made.layout.shift)
      made.layout.code new.segments.items
  placed =
      subst (Placed (map (λ n. n.offset) new.sections.items) (outline_of new tables made.layout.area made.layout.shift)
      made.layout.code) (sym (new_read.segments ∙ segments-written s tight w made))
      (subst (λ (o : Outline). Placed (map (λ n. n.offset) new.sections.items) o made.layout.code made.segments) outline-is
      (subst (λ (offsets : List ℕ). Placed offsets (outline_made s tables tight w made) made.layout.code made.segments)
      (sym (offsets-read s tight w read sound made can tables has.contents has.order has.headers has.put has.count new new_read))
      has.segments))

  pub headers-read : HasNewHeaders s.elf new tables made.layout.area made.layout.shift
  headers-read =
      subst (λ (o : Option (ℕ × Segment)). IfSome o (λ e. Placed (map (λ n. n.offset) new.sections.items)
      (outline_of new tables made.layout.area made.layout.shift) e.0 new.segments.items)) (sym made.laid_out.found) placed

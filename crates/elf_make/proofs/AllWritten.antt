-- A file that was made in the place that the map says, and that the reader takes, is written as it has to be.
use Rattle.std.proofs.Common.{◌≡◌, ◌∙◌, sym, ap, subst, ℕ, ◌<◌, List, Bool, Some}
use Rattle.std.specs.Prelude.{All, AllPairs, Contains, is_none}
use Rattle.elf_image.specs.declared.segment.Segment.{Segment}
use Rattle.elf_image.specs.faults.FileFaults.{IsSound}
use Rattle.elf_image.specs.file.Header.{segments_of}
use Rattle.elf_image.specs.file.ParsedFile.{IsElfOf}
use Rattle.elf_image.specs.memory.CodeSegment.{executable_segment}
use Rattle.addr_map.specs.Spans.{owner}
use Rattle.elf_make.specs.FileParts.{IsMade}
use Rattle.file_room.specs.Room.{area_above, area_start}
use Rattle.elf_make.specs.Source.{Source, HasPlace}
use Rattle.elf_make.specs.WrittenFile.{AreApart, IsWritten}
use Rattle.elf_make.proofs.BehindWritten.{behind-written}
use Rattle.elf_make.proofs.CellPieces.{CanHoldPiece}
use Rattle.elf_make.proofs.ImageWritten.{image-is}
use Rattle.elf_make.proofs.FromMade.{written}
use Rattle.elf_make.proofs.FrontWritten.{front-written}
use Rattle.elf_make.proofs.SoundFiles.{load_once, code-there, code-load}
use Rattle.elf_make.proofs.Tightness.{is-tight, starts-above}

module _ (s : Source) (above : Bool) (w : List ℕ) (read : IsElfOf s.elf.file.now s.elf) (sound : IsSound s.elf.file.now)
    (bytes : All (λ b. b < 256) s.elf.file.now) (can : All (CanHoldPiece s.elf) s.cells) (apart : AllPairs AreApart s.cells)
    (made : IsMade s above w) (sound_w : IsSound w) where
  found-file : executable_segment (segments_of s.elf.file.now) ≡ Some (made.layout.code, made.laid_out.executable)
  found-file = ap executable_segment (sym read.segments) ∙ made.laid_out.found

  higher : area_start s.elf.segments.items < area_above s.elf.segments.items
  higher =
      starts-above s.elf.segments.items made.layout.code made.laid_out.executable made.laid_out.found
      (subst (λ (xs : List Segment). Contains xs made.laid_out.executable) (sym read.segments)
      (code-there s.elf.file.now sound made.layout.code made.laid_out.executable found-file))
      (code-load s.elf.file.now sound made.layout.code made.laid_out.executable found-file)

  pub all-written : above ≡ is_none (owner s.spans (area_start s.elf.segments.items)) → (tight : Bool) →
      HasPlace s tight → IsWritten s tight w
  all-written is tight placed =
      let same : above ≡ tight = is ∙ is-tight s higher tight placed in
      let made_so : IsMade s tight w = subst (λ (t : Bool). IsMade s t w) same made in
      written s tight w read sound can apart made_so placed sound_w
      (image-is s tight w read sound bytes made_so (load_once w sound_w)) (front-written s tight w read sound bytes can made_so)
      (behind-written s tight w read sound bytes made_so)

  -- the area is where the map says
  pub placed-there : above ≡ is_none (owner s.spans (area_start s.elf.segments.items)) → (tight : Bool) →
      HasPlace s tight → above ≡ tight
  placed-there is tight placed = is ∙ is-tight s higher tight placed

-- A file that was made, and that the reader takes, is written as it has to be.
use Rattle.std.proofs.Common.{ℕ, ◌<◌, List, Bool, length, get_or}
use Rattle.std.specs.Prelude.{All, AllPairs}
use Rattle.elf_image.specs.faults.FileFaults.{IsSound}
use Rattle.elf_image.specs.file.Header.{segments_of}
use Rattle.elf_image.specs.file.ParsedFile.{IsElfOf}
use Rattle.elf_image.specs.memory.Image.{LoadOnce}
use Rattle.elf_make.specs.CarriedBytes.{CarriesImage}
use Rattle.elf_make.specs.FrontBytes.{KeepsBehind, KeepsFront}
use Rattle.elf_make.specs.FileParts.{IsMade}
use Rattle.elf_make.specs.Source.{Source, HasPlace, is_changed, source_area}
use Rattle.elf_make.specs.WrittenFile.{AreApart, IsWritten}
use Rattle.elf_make.proofs.CellPieces.{CanHoldPiece}
use Rattle.elf_make.proofs.CellsWritten.{cells-written}
use Rattle.elf_make.proofs.CodeWritten.{code-written, executable-written}
use Rattle.elf_make.proofs.EntryWritten.{entry-written, entry_field-written}
use Rattle.elf_make.proofs.MadeSegments.{new-loads}
use Rattle.elf_make.proofs.MadeHeaders.{headers-written}
use Rattle.elf_make.proofs.PlacesWritten.{places-written}
use Rattle.elf_make.proofs.SoundFiles.{load_once}

pub written : (s : Source) (tight : Bool) (w : List ℕ) → IsElfOf s.elf.file.now s.elf → IsSound s.elf.file.now →
    All (CanHoldPiece s.elf) s.cells → AllPairs AreApart s.cells → IsMade s tight w → HasPlace s tight → IsSound w →
    CarriesImage s.elf.file.now w (is_changed s tight) s.elf.segments.items (segments_of w) → KeepsFront s.elf tight w →
    KeepsBehind s.elf (source_area s tight) w → IsWritten s tight w
written s tight w read sound can apart made placed sound_w image front behind = record {
  image = image;
  front = front;
  behind = behind;
  code = code-written s tight w read sound made placed some once;
  executable = executable-written s tight w read sound made placed some once;
  cells = cells-written s tight w read sound made can apart (new-loads s tight w made) once;
  entry = entry-written s tight w made;
  entry_field = entry_field-written s tight w made read sound (new-loads s tight w made) once;
  places = places-written s tight w read sound made placed;
  headers = headers-written s tight w made;
  sound = sound_w;
}
  where
    once : LoadOnce (segments_of w)
    once = load_once w sound_w

    some : (i : ℕ) (c : ℕ × ℕ × ℕ) → i < length s.cells → 0 < (get_or s.cells i c).1
    some i c below = (can i c below).some

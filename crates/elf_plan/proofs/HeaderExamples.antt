-- Positions of program headers in small examples, computed.
use Rattle.std.proofs.Common.{◌≡◌, refl, ℕ, true, false, Some, None, [], ◌∷◌}
use Rattle.elf_image.specs.declared.section.Section.{Section}
use Rattle.elf_image.specs.declared.segment.Segment.{Segment}
use Rattle.elf_plan.specs.declared.area.Area.{Area}
use Rattle.elf_plan.specs.declared.sections.Contents.TheVariants.{Copied, Kept}
use Rattle.elf_plan.specs.HeaderPlaces.{Outline, beside, section_holds, is_unloaded, new_header, place_behind, place_in}

-- Code at 1000 to 1020 of the file, in hexadecimal, and a header for four bytes after it, which no segment loads.
abbrev code : Segment
code = record {
  kind = 1;
  flags = 5;
  offset = 0x1000;
  vaddr = 0x10000;
  paddr = 0x10000;
  filesz = 0x20;
  memsz = 0x20;
  align = 0x1000;
}

abbrev note : ℕ → Segment
note offset = record { kind = 4; flags = 4; offset = offset; vaddr = 0; paddr = 0; filesz = 4; memsz = 4; align = 4 }

unloaded : is_unloaded (code ∷ note 0x1022 ∷ []) (note 0x1022) ≡ true
unloaded = refl

loaded : is_unloaded (code ∷ note 0x101f ∷ []) (note 0x101f) ≡ false
loaded = refl

-- A section of eight bytes from 1020 on contains them, if its contents are written after the loaded bytes.
abbrev section : Section
section = record {
  name = record { ref_ptr = (0, 0); now = [] };
  kind = 7;
  flags = 0;
  addr = 0;
  offset = 0x1020;
  size = 8;
  link = 0;
  info = 0;
  align = 4;
  entsize = 0;
}

held : section_holds Copied section (note 0x1022) ≡ true
held = refl

not-held : section_holds Copied section (note 0x1026) ≡ false
not-held = refl

not-written : section_holds Kept section (note 0x1022) ≡ false
not-written = refl

-- The contents are written at 3000.
follows : place_in (section ∷ []) (0x3000 ∷ []) (note 0x1022) 0 ≡ 0x3002
follows = refl

-- An area of 100 bytes after the code. A file of 2000 bytes has no bytes of a header there.
abbrev area : Area
area = record {
  tight = false;
  address = 0x10000;
  offset = 0x1000;
  start = 0x10020;
  code_end = 0x10120;
  frames = None;
  index = None;
  end = 0x10120;
}

abbrev outline : Outline
outline = record {
  area = area;
  shift = record { from = 0x1020; by = 0x1000 };
  table_at = 0x40;
  index_size = 0;
  file_size = 0x3000;
}

stays : beside outline 0x1000 (note 0x1022) ≡ 0x2022
stays = refl

ends : beside outline 0x1000 (note 0x2fff) ≡ 0x3000
ends = refl

abbrev still : Outline
still = record outline { shift = record { from = 0x1020; by = 0 } }

goes-on : beside still 0x1000 (note 0x111e) ≡ 0x211e
goes-on = refl

-- By kind: the table of program headers itself, and a header for bytes before the code's end.
table : place_behind outline 0x1000 (Some 0x3002) (record (note 0x1022) { kind = 6 }) ≡ 0x40
table = refl

-- A long header, whose bytes would leave the area, moves with its section like others.
long-table : place_behind outline 0x1000 (Some 0x3002) (record (note 0x1022) { kind = 6; filesz = 0x2000 }) ≡ 0x3002
long-table = refl

front : new_header (code ∷ []) outline None (note 0x101c) ≡ note 0x101c
front = refl

behind : new_header (code ∷ []) outline (Some 0x3002) (note 0x1022) ≡ note 0x3002
behind = refl

use Rattle.std.proofs.Common.{◌≡◌, ◌-◌, length, drop}
use Rattle.elf_image.specs.file.Sections.{text_of}
use Rattle.edge_profile.specs.NameEnds.{IsEnding, indices_in}
use Rattle.edge_profile.proofs.symbol_values.indices_in.Given as goal

abbrev pub invariant-loop-count : goal.invariant-loop-count
invariant-loop-count l = record {
  is : l.indices.items ≡ indices_in l.names.backward.items (drop (length l.texts - l.count) l.texts);
  at : IsEnding l.names.backward.items (text_of l.texts (length l.texts - l.count)) l.ending;
}

-- Written tables that would be too large.
use Rattle.std.specs.Prelude.{◌<◌, ℕ, List}
use Rattle.elf_image.specs.declared.elf.Elf.{Elf}
use Rattle.addr_map.specs.declared.span.Span.{Span}
use Rattle.answer_runs.specs.Weights.{weight_limit}
use Rattle.dw_unit.specs.AbbrevWeight.{abbrev_weight}
use Rattle.dw_unit.specs.Tables.{sections_of}
use Rattle.line_rewrite.specs.Tables.{line_sections, IsLineWeight}
use Rattle.range_loc_rewrite.specs.Tables.{list_sections}
use Rattle.range_loc_rewrite.specs.Weights.{IsRangesWeight, IsPlacesWeight}
use Rattle.addr_rewrite.specs.Tables.{aranges_of, IsArangesWeight}

-- A weight is above the limit, under the map by which code moves. Frame tables have no weight.
pub data IsTooHeavy (elf : Elf) (spans : List Span) : Type 0 where
  lines : (n : ℕ) → IsLineWeight (line_sections elf) spans n → weight_limit < n → IsTooHeavy elf spans
  ranges : (n : ℕ) → IsRangesWeight (list_sections elf) spans n → weight_limit < n → IsTooHeavy elf spans
  places : (n : ℕ) → IsPlacesWeight (list_sections elf) spans n → weight_limit < n → IsTooHeavy elf spans
  aranges : (n : ℕ) → IsArangesWeight (aranges_of elf) spans n → weight_limit < n → IsTooHeavy elf spans
  abbreviations : weight_limit < abbrev_weight (sections_of elf) → IsTooHeavy elf spans

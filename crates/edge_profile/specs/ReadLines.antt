-- The lines of a profile's text, as they were read.
use Rattle.std.specs.Prelude.{◌≡◌, ℕ, List, count_by, filter_map, is_none}
use Rattle.rv_code.specs.declared.placed.Func.{Func}
use Rattle.elf_image.specs.declared.symbol.Symbol.{Symbol}
use Rattle.edge_profile.specs.Grammar.{lines}
use Rattle.edge_profile.specs.PairCounts.{counted_by}
use Rattle.edge_profile.specs.declared.reading.ProfileLines.{ProfileLines}

pub record SaysAll (symbols : List Symbol) (funcs : List Func) (text : List ℕ) (said : ProfileLines) : Type 0 where
  pub counted : said.counted.items ≡ filter_map (counted_by symbols funcs) (lines text)
  pub ignored : said.ignored ≡ count_by (λ line. is_none (counted_by symbols funcs line)) (lines text)

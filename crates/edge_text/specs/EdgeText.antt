-- The text of a profile with given counts, which names functions by their addresses.
use Rattle.std.specs.Prelude.{◌≡◌, ℕ, ◌-◌, true, List, ◌++◌, codes, decimal, find, flat_map}
use Rattle.std.specs.Option.{option_map_or}
use Rattle.rv_code.specs.declared.placed.Func.{Func}
use Rattle.rv_code.specs.layout.ProgramCode.{is_code_address}
use Rattle.rb_bytes.specs.Text.{hexadecimal}
use Rattle.elf_image.specs.declared.elf.Elf.{Elf}
use Rattle.edge_profile.specs.PairCounts.{Counted, ArePairs, count_in, ignored_in}
use Rattle.edge_profile.specs.Weights.{starts_at}
use Rattle.edge_text.specs.LineCounts.{split_counts}

-- both ends of a pair are instructions
pub record HasCodeEnds (funcs : List Func) (p : Counted) : Type 0 where
  pub from : is_code_address funcs p.0 ≡ true
  pub to : is_code_address funcs p.1 ≡ true

-- the start of the function that has an instruction at an address; 0 if there is none
abbrev pub start_at : List Func → ℕ → ℕ
start_at funcs a = option_map_or (λ f. f.start) (find (λ f. starts_at f.insts.items a) funcs) 0

-- the start of this function, and the distance of the instruction from it
abbrev pub place_text : List Func → ℕ → List ℕ
place_text funcs a = hexadecimal (start_at funcs a) ++ codes " " ++ hexadecimal (a - start_at funcs a)

abbrev pub edge_line : List Func → Counted → List ℕ
edge_line funcs p =
    codes "1 @" ++ place_text funcs p.0 ++ codes " 1 @" ++ place_text funcs p.1 ++ codes " 0 " ++ decimal p.2
    ++ codes "\n"

-- the lines of pairs, in their order
abbrev pub text_of_pairs : List Func → List Counted → List ℕ
text_of_pairs funcs pairs = flat_map (edge_line funcs) (split_counts pairs)

-- Each pair with a positive count has its lines, in order. Read as a profile, the text has these counts, and no line is
-- ignored.
pub record IsEdgeText (elf : Elf) (funcs : List Func) (counts : ℕ → ℕ → ℕ) (text : List ℕ) : Type 0 where
  pub pairs : List Counted
  pub are_pairs : ArePairs counts pairs
  pub text_is : text ≡ text_of_pairs funcs pairs
  pub counts_are : (from to : ℕ) → count_in text elf funcs from to ≡ counts from to
  pub none_ignored : ignored_in text elf funcs ≡ 0

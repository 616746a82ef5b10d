-- Names don't weigh too much if there are few functions, and the names of symbols are short.
use Rattle.std.proofs.Common.{◌≡◌, ◌≤◌, ◌+◌, ◌*◌, ◌-◌, ◌^◌, ℕ, List, [], All, Option, Some, None, length, sum_by, min, refl, arith}
use Rattle.std.specs.Prelude.{◌&&◌, ◌==◌, option_and_then}
use Rattle.std.specs.Option.{option_map_or}
use Rattle.std.proofs.lemmas.List.Elements.{All-contains}
use Rattle.std.proofs.lemmas.List.Sums.{sum_by-le}
use Rattle.rb_bytes.proofs.Searches.{find-found}
use Rattle.rv_code.specs.declared.placed.Func.{Func}
use Rattle.elf_image.specs.declared.elf.Elf.{Elf}
use Rattle.elf_image.specs.declared.symbol.Symbol.{Symbol}
use Rattle.elf_image.specs.file.Cuts.{names_function}
use Rattle.answer_runs.specs.Weights.{weight_limit}
use Rattle.elf_plan.specs.ColdSymbols.{first_named, start_around}
use Rattle.elf_plan.specs.NameTables.{names_of_sections, names_of_symbols, size_of}
use Rattle.elf_plan.specs.NameWeight.{cold_weight, name_weight, section_weight}

bounded : (base cold count : ℕ) → min (base + 0) (2 ^ 64 - 1) ≤ 1000000000 → cold ≤ count * 1008 → count ≤ 1001 →
    min (base + cold) (2 ^ 64 - 1) ≤ weight_limit
bounded base cold count least most few = omega (arith, least, most, few)

module _ (elf : Elf) (funcs : List Func) (short : All (λ (s : Symbol). length s.name.now ≤ 1000) elf.symbols.items)
    (few : length funcs ≤ 1001) (base : name_weight elf funcs [] ≤ 1000000000) where
  one_name : (a : ℕ) → cold_weight elf.symbols.items funcs a ≤ 1008
  one_name a = around (start_around funcs a)
    where
      named : (o : Option Symbol) (start : ℕ) → first_named elf.symbols.items start ≡ o →
          option_map_or (λ (s : Symbol). 8 + length s.name.now) o 0 ≤ 1008
      named None start e = omega arith
      named (Some s) start e =
          let f = find-found (λ (s : Symbol). names_function s && (s.value == start)) elf.symbols.items s e in
          let l = All-contains (λ (s : Symbol). length s.name.now ≤ 1000) elf.symbols.items s short f.1 in
          omega (arith, l)

      around : (o : Option ℕ) → option_map_or (λ (s : Symbol). 8 + length s.name.now)
          (option_and_then (first_named elf.symbols.items) o) 0 ≤ 1008
      around None = omega arith
      around (Some start) = named (first_named elf.symbols.items start) start refl

  pub names_light : (cold : List ℕ) → length cold ≤ length funcs → name_weight elf funcs cold ≤ weight_limit
  names_light cold within =
      let sum = sum_by-le (cold_weight elf.symbols.items funcs) 1008 cold (λ k d l. one_name _) in
      let b = base in
      bounded
      (64 + size_of (names_of_sections elf) + size_of (names_of_symbols elf) + sum_by section_weight elf.sections.items)
      (sum_by (cold_weight elf.symbols.items funcs) cold) (length cold) b sum (omega (arith, within, few))

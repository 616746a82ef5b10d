-- The pair of instructions that a line names, and the counts of pairs.
use Rattle.std.specs.Prelude.{◌≡◌, ◌<◌, ℕ, ◌==◌, ◌&&◌, Bool, List, Option, Some, None, is_none, if◌then◌else◌, sum_by}
use Rattle.std.specs.Prelude.{count_by, filter_map, option_and_then}
use Rattle.rv_code.specs.declared.placed.Func.{Func}
use Rattle.rv_code.specs.layout.Lists.{ListsAll, IsPairBefore}
use Rattle.elf_image.specs.declared.elf.Elf.{Elf}
use Rattle.elf_image.specs.declared.symbol.Symbol.{Symbol}
use Rattle.edge_profile.specs.Grammar.{lines, fields, branch_line}
use Rattle.edge_profile.specs.Names.{address_at}

-- How often control went from one instruction to another: both addresses, and the count.
abbrev pub Counted : Type 0
Counted = ℕ × ℕ × ℕ

abbrev pub both_ends : Option ℕ → Option ℕ → ℕ → Option Counted
both_ends (Some from) (Some to) count = Some (from, to, count)
both_ends _ _ count = None

-- the pair and the count of a line; None if the line has another form, or if one of its ends isn't an instruction
abbrev pub counted_by : List Symbol → List Func → List ℕ → Option Counted
counted_by symbols funcs line =
    option_and_then (λ l. both_ends (address_at symbols funcs l.from) (address_at symbols funcs l.to) l.count)
    (branch_line (fields line))

-- the pairs and counts of all lines of a profile
abbrev pub counted_in : List ℕ → Elf → List Func → List Counted
counted_in text elf funcs = filter_map (counted_by elf.symbols.items funcs) (lines text)

-- the number of lines without a pair
abbrev pub ignored_in : List ℕ → Elf → List Func → ℕ
ignored_in text elf funcs = count_by (λ line. is_none (counted_by elf.symbols.items funcs line)) (lines text)

-- Counts of pairs.

abbrev pub is_pair : ℕ → ℕ → Counted → Bool
is_pair from to p = p.0 == from && p.1 == to

-- the count of a pair: the sum of all its counts in the list
abbrev pub count_among : ℕ → ℕ → List Counted → ℕ
count_among from to said = sum_by (λ p. if is_pair from to p then p.2 else 0) said

abbrev pub count_in : List ℕ → Elf → List Func → ℕ → ℕ → ℕ
count_in text elf funcs from to = count_among from to (counted_in text elf funcs)

-- the sum of all counts
abbrev pub total_count : List Counted → ℕ
total_count said = sum_by (λ p. p.2) said

-- a pair with a positive count
abbrev pub IsCountOf : (ℕ → ℕ → ℕ) → Counted → Type 0
IsCountOf counts p = (0 < p.2) × (counts p.0 p.1 ≡ p.2)

-- the order of pairs: by the first and then by the second address
abbrev pub IsCountedBefore : Counted → Counted → Type 0
IsCountedBefore p q = IsPairBefore (p.0, p.1) (q.0, q.1)

-- all pairs with positive counts, in order
abbrev pub ArePairs : (ℕ → ℕ → ℕ) → List Counted → Type 0
ArePairs counts pairs = ListsAll (IsCountOf counts) IsCountedBefore pairs

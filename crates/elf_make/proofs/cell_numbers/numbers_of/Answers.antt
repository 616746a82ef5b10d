use Rattle.std.proofs.Common.{◌≡◌, sym, subst, ℕ, ◌+◌, ◌<◌, List, ◌∷◌, [], ◌++◌, length, take, rules, arith}
use Rattle.std.proofs.lemmas.List.{get_or_default}
use Rattle.std.proofs.lemmas.Grind.{common_steps}
use Rattle.elf_parts.specs.declared.number_at.NumberAt.{NumberAt}
use Rattle.elf_make.specs.CellNumbers.{AreCellNumbers, IsCellNumber}
use Rattle.elf_make.proofs.CellLists.{AreCellNumbers-more}
use Rattle.elf_make.proofs.cell_numbers.numbers_of.Goals as goal

pub loop-cell-preserved : goal.loop-cell-preserved
loop-cell-preserved c =
    let i : ℕ = c.loop-cell.cell-index in
    let n : NumberAt = c.in_ok-number.number in
    let below : i < length c.args.cells.now = search rules in
    let items : c.push.new.self.items ≡ c.loop-cell.numbers.items ++ n ∷ [] = search rules in
    subst (λ (ns : List NumberAt). AreCellNumbers c.args.elf.now c.args.shift.now (take (i + 1) c.args.cells.now) ns) (sym items)
    (AreCellNumbers-more c.args.elf.now c.args.shift.now c.args.cells.now c.loop-cell.numbers.items i n
    below c.loop-cell.invariant
    (λ d. subst (λ (x : ℕ × ℕ × ℕ). IsCellNumber c.args.elf.now c.args.shift.now x n)
    (get_or_default c.args.cells.now i _ d below) c.in_ok-number.ensures))

pub returns : goal.returns
returns c = grind (arith, common_steps)

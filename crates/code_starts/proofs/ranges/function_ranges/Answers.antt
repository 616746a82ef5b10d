use Rattle.std.proofs.Common.{◌≡◌, ◌<◌, ◌↔◌, ◌∙◌, ap, ℕ, List, Result, Ok, Err, IfOk, map}
use Rattle.std.specs.List.{filter}
use Rattle.elf_image.specs.declared.symbol.Symbol.{Symbol}
use Rattle.elf_image.specs.declared.elf.Elf.{Elf}
use Rattle.elf_image.specs.declared.extent.Extent.{Extent}
use Rattle.elf_image.specs.file.Cuts.{names_function}
use Rattle.elf_code.specs.Parts.{IsCovered}
use Rattle.elf_image.specs.internal.Extents.{IsInOneExtent}
use Rattle.code_starts.specs.declared.ranges.Ranges.{Ranges}
use Rattle.code_starts.specs.Ranges.{symbol_extent}
use Rattle.code_starts.proofs.RangeLists.{IsInOneExtent-functions}
use Rattle.code_starts.proofs.ranges.function_ranges.Goals as goal

asked : {E : Type 0} (elf : Elf) (extents : List Extent) (r : Result Ranges E) →
    extents ≡ map symbol_extent (filter names_function elf.symbols.items) →
    IfOk r (λ x. (a e : ℕ) → a < e → IsInOneExtent x.reaches.items a e ↔ IsInOneExtent extents a e) →
    IfOk r (λ x. (start end : ℕ) → start < end → IsInOneExtent x.reaches.items start end ↔ IsCovered elf start end)
asked elf extents (Ok x) are same = IsInOneExtent-functions elf x.reaches.items extents same are
asked elf extents (Err e) are same = same

pub returns : goal.returns
returns c =
    let are = c.in_ok-symbol_extents.ensures
    ∙ ap (λ (ss : List Symbol). map symbol_extent (filter names_function ss)) c.deref.ensures.value in
    asked c.args.elf.now _ c.new.result are c.new.ensures

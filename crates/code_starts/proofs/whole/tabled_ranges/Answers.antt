use Rattle.std.proofs.Common.{◌≡◌, ◌<◌, ◌+◌, ◌↔◌, ℕ, List, Result, Ok, Err, IfOk, map}
use Rattle.std.specs.List.{Any}
use Rattle.elf_image.specs.declared.extent.Extent.{Extent}
use Rattle.elf_code.specs.Parts.{IsInTabled}
use Rattle.elf_image.specs.internal.Extents.{IsInOneExtent}
use Rattle.code_starts.specs.declared.ranges.Ranges.{Ranges}
use Rattle.code_starts.specs.Ranges.{tabled_extent}
use Rattle.code_starts.proofs.RangeLists.{IsInOneExtent-tabled}
use Rattle.code_starts.proofs.whole.tabled_ranges.Goals as goal

asked : {E : Type 0} (tabled : List (ℕ × ℕ)) (extents : List Extent) (r : Result Ranges E) → extents ≡ map tabled_extent tabled →
    IfOk r (λ x. (a e : ℕ) → a < e → IsInOneExtent x.reaches.items a e ↔ IsInOneExtent extents a e) →
    IfOk r (λ x. (a : ℕ) → IsInOneExtent x.reaches.items a (a + 1) ↔ Any (IsInTabled a) tabled)
asked tabled extents (Ok x) are same = IsInOneExtent-tabled tabled x.reaches.items extents same are
asked tabled extents (Err e) are same = same

pub returns : goal.returns
returns c = asked c.args.tabled.now _ c.new.result c.in_ok-tabled_extents.ensures c.new.ensures

-- The view of a search tree of ranges in contracts.
use Rattle.std.specs.Prelude.{ℕ, ◌<◌, ◌↔◌, ◌&&◌, nat_le, Bool, List, [], ◌∷◌, ◌++◌}
use Rattle.std.specs.List.Sorted.{IsNonDecreasingBy}
use Rattle.elf_image.specs.declared.extent.Extent.{Extent}
use Rattle.elf_image.specs.internal.Extents.{IsInOneExtent}
use Rattle.elf_plan.specs.declared.range_tree.Node.{Node}
use Rattle.elf_plan.specs.declared.range_tree.Node.TheVariants.{Leaf, Fork}

-- The range contains all numbers from `start` to before `end`.
abbrev pub covers : ℕ → ℕ → Extent → Bool
covers start end range = nat_le range.start start && nat_le end range.end

-- The ranges in order.
abbrev pub ranges_of : Node → List Extent
ranges_of Leaf = []
ranges_of (Fork before range behind reaches) = before.value ++ range ∷ behind.value

-- Ranges with ascending starts and ends that cover the same ranges of numbers as `ranges`.
pub record IsReachOf (reaches ranges : List Extent) : Type 0 where
  pub rising : IsNonDecreasingBy (λ s. s.start) reaches
  pub growing : IsNonDecreasingBy (λ s. s.end) reaches
  pub covered : (a e : ℕ) → a < e → IsInOneExtent reaches a e ↔ IsInOneExtent ranges a e

abbrev pub HasReaches : Node → Type 0
HasReaches Leaf = Unit {0}
HasReaches (Fork before range behind reaches) = IsReachOf reaches.items before.value

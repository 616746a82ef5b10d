use Rattle.std.proofs.Common.{◌≡◌, ◌≤◌, ℕ, ℤ, pos, int_le, ◌≤ℤ◌, ◌<ℤ◌, List, true, false, rules, arith}
use Rattle.std.specs.List.Sorted.{IsPartitionedBy}
use Rattle.std.proofs.lemmas.Int.{ints}
use Rattle.std.proofs.lemmas.List.Sorted.{IsPartitionPoint-from_clause}
use Rattle.code_starts.specs.declared.parts.Part.{Part}
use Rattle.code_starts.specs.Parts.{ArePartsApart}
use Rattle.code_starts.proofs.PartLookup.{rising}
use Rattle.code_starts.proofs.whole.count_up_to.Goals as goal

lower_passes : (a b : ℕ) (z : ℤ) → a ≤ b → int_le (pos b) z ≡ true → int_le (pos a) z ≡ true
lower_passes a b z upto passes = grind (arith, ints)

parted : (parts : List Part) (label : ℤ) → ArePartsApart parts → IsPartitionedBy (λ p. int_le (pos p.start) label) parts
parted parts label are i j d upto within passes = lower_passes _ _ label (rising parts are i j d upto within) passes

passes_by : (a : ℕ) (z : ℤ) → int_le (pos a) z ≡ true → pos a ≤ℤ z
passes_by a z passes = grind (arith, ints)

fails_above : (a : ℕ) (z : ℤ) → int_le (pos a) z ≡ false → z <ℤ pos a
fails_above a z fails = grind (arith, ints)

pub returns-clause-below : goal.returns-clause-below
returns-clause-below c =
    let point = IsPartitionPoint-from_clause (λ p. int_le (pos p.start) c.args.label) _ _ c.partition_point.ensures.partitioned
    (parted _ _ c.requires) (λ a r q k. search rules) in
    λ k d within. passes_by _ _ (point.0 k d (search rules) within)

pub returns-clause-above : goal.returns-clause-above
returns-clause-above c =
    let point = IsPartitionPoint-from_clause (λ p. int_le (pos p.start) c.args.label) _ _ c.partition_point.ensures.partitioned
    (parted _ _ c.requires) (λ a r q k. search rules) in
    λ k d from within. fails_above _ _ (point.1 k d from within)

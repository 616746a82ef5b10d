use Rattle.std.proofs.Common.{◌≡◌, ◌||◌, ℕ, take}
use Rattle.std.specs.List.{list_any}
use Rattle.edge_record.specs.AddressSets.{in_set, HaveSameRoom}
use Rattle.edge_record.specs.MoveCounts.{ends_at}
use Rattle.edge_record.proofs.watched.insert_ends.Given as goal

abbrev pub invariant-loop-block : goal.invariant-loop-block
invariant-loop-block l = record {
  added : (a : ℕ) →
      in_set l.set a ≡ (list_any (λ b. ends_at l.funcs a b) (take l.block-index l.blocks) || in_set l.initial.set a);
  room : HaveSameRoom l.initial.set l.set;
}

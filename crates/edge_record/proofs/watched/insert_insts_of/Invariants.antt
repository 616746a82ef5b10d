use Rattle.std.proofs.Common.{◌≡◌, ◌||◌, ℕ, take}
use Rattle.edge_profile.specs.Weights.{starts_at}
use Rattle.edge_record.specs.AddressSets.{in_set, HaveSameRoom}
use Rattle.edge_record.specs.MoveCounts.{saves_at}
use Rattle.edge_record.proofs.watched.insert_insts_of.Given as goal

abbrev pub invariant-loop-inst : goal.invariant-loop-inst
invariant-loop-inst l = record {
  code : (a : ℕ) → in_set l.code a ≡ (starts_at (take l.inst-index l.insts) a || in_set l.initial.code a);
  sources : (a : ℕ) → in_set l.sources a ≡ (saves_at (take l.inst-index l.insts) a || in_set l.initial.sources a);
  code_room : HaveSameRoom l.initial.code l.code;
  source_room : HaveSameRoom l.initial.sources l.sources;
}

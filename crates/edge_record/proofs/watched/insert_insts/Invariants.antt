use Rattle.std.proofs.Common.{◌≡◌, ◌||◌, ℕ, take}
use Rattle.std.specs.List.{list_any}
use Rattle.edge_profile.specs.Weights.{starts_at}
use Rattle.edge_record.specs.AddressSets.{in_set, HaveSameRoom}
use Rattle.edge_record.specs.MoveCounts.{saves_at}
use Rattle.edge_record.proofs.watched.insert_insts.Given as goal

abbrev pub invariant-loop-func : goal.invariant-loop-func
invariant-loop-func l = record {
  code : (a : ℕ) →
      in_set l.code a ≡ (list_any (λ f. starts_at f.insts.items a) (take l.func-index l.funcs) || in_set l.initial.code a);
  sources : (a : ℕ) →
      in_set l.sources a ≡ (list_any (λ f. saves_at f.insts.items a) (take l.func-index l.funcs) || in_set l.initial.sources a);
  code_room : HaveSameRoom l.initial.code l.code;
  source_room : HaveSameRoom l.initial.sources l.sources;
}

use Rattle.std.proofs.Common.{◌<◌, ℕ, List, AllPairs, map, subst, sym, refl}
use Rattle.std.specs.Prelude.{IsPermutation}
use Rattle.std.proofs.lemmas.Result.{IfOk-weaker}
use Rattle.rb_bytes.proofs.ListLemmas.{rising}
use Rattle.edge_profile.specs.PairCounts.{Counted}
use Rattle.flow_infer.specs.Repairs.{IsRepaired}
use Rattle.flow_infer.specs.Sources.{AreEntries, AreLookedUp, turned}
use Rattle.cfg_build.specs.NamedAddresses.{code_of}
use Rattle.flow_infer.proofs.Runs.{counted_rise}
use Rattle.flow_infer.proofs.repairing.repair.Goals as goal

pub repair_functions-requires : goal.repair_functions-requires
repair_functions-requires c = record {
  stretches = c.requires.blocks;
  joined = c.requires.edges;
  ascending = rising _ (subst (λ (xs : List ℕ). AllPairs (λ a b. a < b) xs) (sym c.deref.ensures.value)
      c.in_ok-entries.ensures.ascending);
  pairs = c.pairs-pairs.ensures.value;
  departing = record { ordered = counted_rise _ c.pairs-pairs.ensures.exact.ordered; few = c.pairs-pairs.ensures.few };
  arriving = subst AreLookedUp (sym c.deref-2.ensures.value) c.in_ok-ends.ensures.ordered;
  permuted = subst (IsPermutation (map turned c.pairs-pairs.result.now)) (sym c.deref-2.ensures.value)
      c.in_ok-ends.ensures.permutation;
}

pub returns : goal.returns
returns c =
    let code = code_of c.args.funcs.now c.args.refs.now c.args.entry in
    let entries = subst (AreEntries code) (sym c.deref.ensures.value) c.in_ok-entries.ensures.members in
    IfOk-weaker c.repair_functions.result _ _
    (λ flow repaired. subst (λ (pairs : List Counted). IsRepaired code c.args.blocks.now c.args.edges.now pairs flow)
    c.pairs-pairs.ensures.value (repaired code (record { funcs = refl; entries = entries })))
    c.repair_functions.ensures

use Rattle.std.proofs.Common.{sym, subst, ℕ, ◌<◌, List, arith}
use Rattle.std.specs.Prelude.{AllPairs}
use Rattle.rv_code.specs.declared.placed.Placed.{Placed}
use Rattle.rv_code.specs.declared.placed.Func.{Func}
use Rattle.rb_bytes.specs.Lists.{Gains}
use Rattle.rb_bytes.proofs.Gains.{Given, gains_next, gains_all}
use Rattle.jump_tables.specs.TablePairs.{IsPairOf}
use Rattle.jump_tables.proofs.Collected.{all_gained, AreTablePairs-all, AreTablePairs-none}
use Rattle.jump_tables.proofs.table_pairs.tables.Goals as goal

pub push_pairs-requires : goal.push_pairs-requires
push_pairs-requires c = subst (AllPairs (λ (a b : ℕ). a < b))
    (sym c.deref-in-loop-func.ensures.value) c.in_ok-named.ensures.ascending

pub loop-func-preserved : goal.loop-func-preserved
loop-func-preserved c =
    let named = c.in_ok-named.named.items in
    gains_next (λ (f : Func) e. IsPairOf f.insts.items named e) c.args.funcs.now c.loop-func.func-index c.func-item.result
    c.func-item.result _ c.loop-func.pairs.items c.push_pairs.new.pairs.items c.loop-func-test.true c.func-item.is
    (subst (λ (ps : List Placed). Gains c.loop-func.pairs.items c.push_pairs.new.pairs.items
    (IsPairOf ps named)) c.deref.ensures.value
    (subst (λ (xs : List ℕ). Gains c.loop-func.pairs.items c.push_pairs.new.pairs.items (IsPairOf c.deref.result.now xs))
    c.deref-in-loop-func.ensures.value c.in_ok-push_pairs.ensures))
    c.loop-func.invariant

pub returns : goal.returns
returns c =
    let named = c.in_ok-named.named.items in
    AreTablePairs-all c.args.funcs.now c.args.cells.now named _ c.in_ok-named.ensures.members c.make_ordered.ensures.ordered
    (all_gained (Given (λ (f : Func) e. IsPairOf f.insts.items named e) c.args.funcs.now) c.new-pairs.result.items _ _
    c.new-pairs.ensures.items
    (gains_all (λ (f : Func) e. IsPairOf f.insts.items named e) c.args.funcs.now c.loop-func.func-index _ _
    (let upto = c.loop-func.auto.func-index-end in omega arith) c.loop-func.invariant)
    c.make_ordered.ensures.same)

pub returns-then-not-any_jumps : goal.returns-then-not-any_jumps
returns-then-not-any_jumps c =
    AreTablePairs-none c.args.funcs.now c.args.cells.now c.new-pairs.result.items c.new-pairs.ensures.items
    (λ has. let is = c.any_jumps.ensures has in let not = c.if-not-any_jumps.true in absurd (cc))

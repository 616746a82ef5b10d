use Rattle.std.proofs.Common.{◌≡◌, refl, sym, subst, ℕ, List, slice_index_or, arith}
use Rattle.std.specs.Prelude.{◌↔◌, Contains}
use Rattle.rv_code.specs.declared.placed.Placed.{Placed}
use Rattle.rv_code.specs.layout.Edges.{IsTableJump}
use Rattle.rb_bytes.proofs.Gains.{gains_next, gains_all, gains_nothing, gains_same}
use Rattle.jump_tables.specs.TablePairs.{IsLabel}
use Rattle.jump_tables.proofs.Collected.{jump_is, no_inst, pairs_are}
use Rattle.jump_tables.proofs.table_pairs.push_pairs.Goals as goal

pub returns-then-not-has_table_jump : goal.returns-then-not-has_table_jump
returns-then-not-has_table_jump c =
    gains_nothing _ _ (λ e ((k, p, within, is, (at, jumps)), label).
    let has = c.has_table_jump.ensures.1 (k, p, within, is, jumps) in
    let not = c.if-not-has_table_jump.true in
    absurd (cc))

pub loop-inst-preserved-then-not-is_table_jump : goal.loop-inst-preserved-then-not-is_table_jump
loop-inst-preserved-then-not-is_table_jump c =
    let insts = c.args.insts.now in
    let p = slice_index_or insts c.loop-inst.inst-index no_inst in
    gains_next (λ (p : Placed) (e : ℕ × ℕ). ((p.addr ≡ e.0) × IsTableJump p) × IsLabel insts c.args.named.now e.1) insts
    c.loop-inst.inst-index p no_inst _ _ _ c.loop-inst-test.true refl
    (gains_nothing _ _ (λ e ((at, jumps), label).
    let is = c.is_table_jump.ensures.1 jumps in
    let not = c.if-not-is_table_jump.true in
    absurd (cc)))
    c.loop-inst.invariant

pub loop-inst-preserved : goal.loop-inst-preserved
loop-inst-preserved c =
    let insts = c.args.insts.now in
    let named = c.args.named.now in
    let p = slice_index_or insts c.loop-inst.inst-index no_inst in
    gains_next (λ (p : Placed) (e : ℕ × ℕ). ((p.addr ≡ e.0) × IsTableJump p) × IsLabel insts named e.1) insts
    c.loop-inst.inst-index p no_inst _ _ _ c.loop-inst-test.true refl
    (gains_same _ _ (λ (e : ℕ × ℕ). (e.0 ≡ p.addr) × Contains c.deref.result.now e.1)
    (λ (e : ℕ × ℕ). ((p.addr ≡ e.0) × IsTableJump p) × IsLabel insts named e.1)
    (jump_is c.deref.result.now named p insts (c.is_table_jump.ensures.0 c.if-not-is_table_jump.false)
    (subst (λ (xs : List ℕ). (a : ℕ) → Contains xs a ↔ IsLabel insts named a) (sym c.deref.ensures.value) c.in_ok-labels.ensures))
    c.in_ok-push_row.ensures)
    c.loop-inst.invariant

pub returns : goal.returns
returns c =
    let insts = c.args.insts.now in
    let named = c.args.named.now in
    gains_same _ _ _ _ (pairs_are insts named)
    (gains_all (λ (p : Placed) (e : ℕ × ℕ). ((p.addr ≡ e.0) × IsTableJump p)
    × IsLabel insts named e.1) insts c.loop-inst.inst-index
    _ _ (let upto = c.loop-inst.auto.inst-index-end in omega arith) c.loop-inst.invariant)

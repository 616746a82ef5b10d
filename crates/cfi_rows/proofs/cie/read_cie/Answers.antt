use Rattle.std.proofs.Common.{rules, ◌≡◌, ◌∙◌, ◌<◌, ◌^◌, sym, ap, arith, length}
use Rattle.std.specs.Prelude.{flat_map, sum_by}
use Rattle.std.proofs.lemmas.Result.{err_from_is_err_and}
use Rattle.rb_bytes.specs.Readers.{Reading}
use Rattle.cfi_rows.specs.FrameInstructions.{instructions_at}
use Rattle.cfi_rows.specs.Entries.{head_at}
use Rattle.cfi_rows.specs.EntryCounts.{registers_set, bytes_in}
use Rattle.cfi_rows.specs.Outlines.{frame_after}
use Rattle.cfi_rows.proofs.Failures.{fails_by}
use Rattle.cfi_rows.proofs.CieParts.{no-frame, made}
use Rattle.cfi_rows.proofs.InstructionLists.{exact-bytes}
use Rattle.cfi_rows.proofs.RegisterCounts.{alone}
use Rattle.cfi_rows.proofs.cie.read_cie.Goals as goal
use Rattle.cfi_rows.proofs.cie.read_cie.Goals.{After-expression_bytes-bytes}

pub returns-in_err-frame-clause-err : goal.returns-in_err-frame-clause-err
returns-in_err-frame-clause-err c =
    let p = err_from_is_err_and c.from_residual-in_err-frame.result c.from_residual-in_err-frame.ensures.1 in
    rw (p.1, p.2)
    (fails_by c.in_err-frame.field-0.0
    (λ n. no-frame c.args.end c.args.body.now _ _ _ (sym (ap (λ (r : Reading). head_at c.args.end r.left) c.new-cursor.ensures)
    ∙ c.in_ok-head.ensures.ok)
    (ap (λ x. instructions_at x c.read_head.new.cursor.left) (sym c.factors.ensures) ∙ c.in_ok-list.ensures.ok)
    (ap frame_after (sym c.deref.ensures.value) ∙ n))
    c.in_err-frame.ensures.err)

-- the bytes of expressions are counted exactly
bytes-of : (c : After-expression_bytes-bytes) →
    (sum_by bytes_in c.deref-3.result.now ≡ c.expression_bytes-bytes.result) × (c.expression_bytes-bytes.result < 2 ^ 63)
bytes-of c =
    let small : length c.args.body.now < 2 ^ 63 = search rules in
    let left : length c.new-cursor.result.left ≡ length c.args.body.now = ap (λ (r : Reading). length r.left) c.new-cursor.ensures in
    let on = c.in_ok-head.ensures.on in
    let room = c.in_ok-list.ensures.room in
    exact-bytes c.in_ok-list.list.items c.deref-3.result.now c.expression_bytes-bytes.result (length c.args.body.now)
    c.deref-3.ensures.value (omega (arith, left, on, room)) small c.expression_bytes-bytes.ensures

pub invariant_of-result : goal.invariant_of-result
invariant_of-result c = record {
  few = c.in_ok-registers.ensures.few;
  small = (bytes-of (goal.at.invariant_of-result c).After-expression_bytes-bytes).1;
}

pub returns-clause-ok : goal.returns-clause-ok
returns-clause-ok c =
    let counted = alone c.new.result c.in_ok-registers.registers (flat_map registers_set c.deref-2.result.now)
    (flat_map registers_set c.in_ok-list.list.items) c.new.ensures.empty c.in_ok-registers.ensures.counted
    (ap (flat_map registers_set) c.deref-2.ensures.value) in
    let bytes = (bytes-of (goal.at.returns-clause-ok c).After-expression_bytes-bytes).0 in
    made c.args.end c.args.body.now _ _ c.in_ok-list.list.items
    (sym (ap (λ (r : Reading). head_at c.args.end r.left) c.new-cursor.ensures) ∙ c.in_ok-head.ensures.ok)
    (ap (λ x. instructions_at x c.read_head.new.cursor.left) (sym c.factors.ensures) ∙ c.in_ok-list.ensures.ok)
    (ap frame_after (sym c.deref.ensures.value) ∙ c.in_ok-frame.ensures.ok)
    counted.0 counted.1
    (ap (sum_by bytes_in) (sym c.deref-3.ensures.value) ∙ bytes)

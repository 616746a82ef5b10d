use Rattle.std.proofs.Common.{rules, ◌≡◌, ◌∙◌, ◌<◌, ◌^◌, length, List, [], ℕ, sym, ap, subst, arith, refl}
use Rattle.std.specs.Prelude.{flat_map, sum_by}
use Rattle.std.proofs.lemmas.Result.{err_from_is_err_and}
use Rattle.std.proofs.lemmas.Grind.{common_steps}
use Rattle.rb_bytes.specs.Readers.{Reading}
use Rattle.cfi_rows.specs.Augmentations.{augmentation_of}
use Rattle.cfi_rows.specs.EntryCounts.{registers_set, bytes_in}
use Rattle.cfi_rows.specs.Entries.{RawEntry}
use Rattle.cfi_rows.specs.FdeHeads.{fde_head_at}
use Rattle.cfi_rows.specs.FrameInstructions.{instructions_at}
use Rattle.cfi_rows.specs.KeptCies.{cie_of}
use Rattle.cfi_rows.specs.Outlines.{outline_rows}
use Rattle.cfi_rows.specs.RegisterSets.{AreIn, AreCounted}
use Rattle.cfi_rows.proofs.Failures.{fails_by}
use Rattle.cfi_rows.proofs.FdeParts.{no-instructions, unsound, made-as}
use Rattle.cfi_rows.proofs.InstructionLists.{exact-bytes}
use Rattle.cfi_rows.proofs.fde.read_fde.Goals as goal
use Rattle.cfi_rows.proofs.fde.read_fde.Goals.{After-expression_bytes-own}

pub returns-in_err-list-clause-err : goal.returns-in_err-list-clause-err
returns-in_err-list-clause-err c = λ is known kept.
    let p = err_from_is_err_and c.from_residual-in_err-list.result c.from_residual-in_err-list.ensures.1 in
    let A = augmentation_of c.args.cie.now.head.augmentation in
    let head = sym (ap (λ (r : Reading). fde_head_at A c.args.end r.left) c.new-cursor.ensures
    ∙ ap (λ (e : RawEntry). fde_head_at A c.args.end e.body) c.entry.view_is) ∙ c.in_ok-head.ensures.ok in
    rw (p.1, p.2)
    (fails_by c.in_err-list.field-0.0
    (λ n. no-instructions (cie_of c.args.cie.now is known) c.args.end c.args.entry.now c.in_ok-head.head c.read_fde_head.new.cursor.left
    head
    (ap (λ x. instructions_at x c.read_fde_head.new.cursor.left) (sym c.factors.ensures) ∙ n))
    c.in_err-list.ensures.err)

pub returns-in_err-rows-clause-err : goal.returns-in_err-rows-clause-err
returns-in_err-rows-clause-err c = λ is known kept.
    let p = err_from_is_err_and c.from_residual-in_err-rows.result c.from_residual-in_err-rows.ensures.1 in
    let A = augmentation_of c.args.cie.now.head.augmentation in
    let head = sym (ap (λ (r : Reading). fde_head_at A c.args.end r.left) c.new-cursor.ensures
    ∙ ap (λ (e : RawEntry). fde_head_at A c.args.end e.body) c.entry.view_is) ∙ c.in_ok-head.ensures.ok in
    rw (p.1, p.2)
    (fails_by c.in_err-rows.field-0.0
    (λ n. unsound c.args.cie.now is known c.args.end c.args.entry.now c.in_ok-head.head c.read_fde_head.new.cursor.left
    c.in_ok-list.list.items kept head
    (ap (λ x. instructions_at x c.read_fde_head.new.cursor.left) (sym c.factors.ensures) ∙ c.in_ok-list.ensures.ok)
    (ap (λ xs. outline_rows xs (record { location = c.in_ok-head.head.start; frame = c.args.cie.now.frame; saved = [] }))
    (sym c.deref.ensures.value) ∙ n))
    c.in_err-rows.ensures.err)

-- the bytes of expressions are counted exactly
own-bytes : (c : After-expression_bytes-own) →
    (sum_by bytes_in c.deref-3.result.now ≡ c.expression_bytes-own.result) × (c.expression_bytes-own.result < 2 ^ 63)
own-bytes c =
    let small : length c.entry.inside.body.now < 2 ^ 63 = search rules in
    let left : length c.new-cursor.result.left ≡ length c.entry.inside.body.now =
    ap (λ (r : Reading). length r.left) c.new-cursor.ensures in
    let on = c.in_ok-head.ensures.on in
    let room = c.in_ok-list.ensures.room in
    exact-bytes c.in_ok-list.list.items c.deref-3.result.now c.expression_bytes-own.result (length c.entry.inside.body.now)
    c.deref-3.ensures.value (omega (arith, left, on, room)) small c.expression_bytes-own.ensures

pub overflow_add-bytes : goal.overflow_add-bytes
overflow_add-bytes c =
    let own = (own-bytes (goal.at.overflow_add-bytes c).After-expression_bytes-own).1 in
    let bytes : c.args.cie.now.bytes < 2 ^ 63 = search rules in
    omega (arith, own, bytes)

pub returns-clause-ok : goal.returns-clause-ok
returns-clause-ok c = λ is known kept.
    let A = augmentation_of c.args.cie.now.head.augmentation in
    let head = sym (ap (λ (r : Reading). fde_head_at A c.args.end r.left) c.new-cursor.ensures
    ∙ ap (λ (e : RawEntry). fde_head_at A c.args.end e.body) c.entry.view_is) ∙ c.in_ok-head.ensures.ok in
    let own = (own-bytes (goal.at.returns-clause-ok c).After-expression_bytes-own).0 in
    made-as c.args.cie.now is known c.args.end c.args.entry.now c.in_ok-head.head c.read_fde_head.new.cursor.left c.in_ok-list.list.items
    c.in_ok-rows.rows c.in_ok-added.added c.expression_bytes-own.result _ _ _ kept head
    (ap (λ x. instructions_at x c.read_fde_head.new.cursor.left) (sym c.factors.ensures) ∙ c.in_ok-list.ensures.ok)
    (ap (λ xs. outline_rows xs (record { location = c.in_ok-head.head.start; frame = c.args.cie.now.frame; saved = [] }))
    (sym c.deref.ensures.value)
    ∙ c.in_ok-rows.ensures.ok)
    (subst (λ ys. (xs : List ℕ) → AreIn xs c.args.cie.now.registers.set →
    AreCounted xs (flat_map registers_set ys) c.args.cie.now.registers.set c.in_ok-added.added)
    c.deref-2.ensures.value c.in_ok-added.ensures.counted)
    (sym own ∙ ap (sum_by bytes_in) c.deref-3.ensures.value)
    (ap (λ (e : RawEntry). e.place) c.entry.view_is)
    refl
    refl

pub returns-in_err-head-clause-err : goal.returns-in_err-head-clause-err
returns-in_err-head-clause-err c = grind (arith, common_steps)

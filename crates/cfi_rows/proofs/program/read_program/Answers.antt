use Rattle.std.proofs.Common.{◌≡◌, ◌∙◌, Ok, Err, refl, sym, ap, subst}
use Rattle.std.proofs.lemmas.Result.{err_from_is_err_and}
use Rattle.std.specs.Rc.{rc_value}
use Rattle.rb_bytes.specs.Readers.{Reading}
use Rattle.cfi_rows.specs.declared.cie_program.CieProgram.{CieProgram}
use Rattle.cfi_rows.specs.declared.program.Program.{Program}
use Rattle.cfi_rows.specs.Augmentations.{augmentation_of}
use Rattle.cfi_rows.specs.Entries.{head_context}
use Rattle.cfi_rows.specs.FdeHeads.{fde_head_at}
use Rattle.cfi_rows.specs.FrameInstructions.{instructions_at}
use Rattle.cfi_rows.specs.Heads.{head_of}
use Rattle.cfi_rows.specs.declared.instruction.Malformed.TheVariants.{Entry}
use Rattle.cfi_rows.proofs.Failures.{fails_by}
use Rattle.cfi_rows.proofs.ReadPrograms.{fde-made, no-head, no-list}
use Rattle.cfi_rows.proofs.program.read_program.Goals as goal

pub returns-clause-program : goal.returns-clause-program
returns-clause-program c = λ cie e kept body.
    let k = rc_value c.args.cie in
    let A = augmentation_of k.head.augmentation in
    let made : Program = record { initial = c.args.cie; start = c.in_ok-head.head.start; instructions = c.in_ok-list.list } in
    let read = subst (λ (x : CieProgram). fde_head_at (augmentation_of x.head.augmentation) c.args.end c.new-cursor.result.left
    ≡ Ok (c.in_ok-head.head, c.read_fde_head.new.cursor.left)) c.deref.ensures c.in_ok-head.ensures.ok in
    let head = ap (fde_head_at A c.args.end) body
    ∙ sym (ap (λ (r : Reading). fde_head_at A c.args.end r.left) c.new-cursor.ensures) ∙ read in
    let context = c.factors.ensures ∙ ap (λ (x : CieProgram). head_context c.args.end (head_of x.head)) c.deref-2.ensures in
    fde-made k cie c.args.end e c.in_ok-head.head c.read_fde_head.new.cursor.left c.in_ok-list.list.items made kept head
    (ap (λ x. instructions_at x c.read_fde_head.new.cursor.left) (sym context) ∙ c.in_ok-list.ensures.ok)
    refl refl refl

pub returns-in_err-head-clause-err : goal.returns-in_err-head-clause-err
returns-in_err-head-clause-err c = λ cie e kept body.
    let k = rc_value c.args.cie in
    let A = augmentation_of k.head.augmentation in
    let p = err_from_is_err_and c.from_residual.result c.from_residual.ensures.1 in
    rw (p.1, p.2)
    (fails_by c.in_err-head.field-0.0
    (λ n. no-head k cie c.args.end e kept (ap (fde_head_at A c.args.end) body
    ∙ sym (ap (λ (r : Reading). fde_head_at A c.args.end r.left) c.new-cursor.ensures)
    ∙ subst (λ (x : CieProgram). fde_head_at (augmentation_of x.head.augmentation) c.args.end c.new-cursor.result.left ≡ Err Entry)
    c.deref.ensures n))
    c.in_err-head.ensures.err)

pub returns-in_err-list-clause-err : goal.returns-in_err-list-clause-err
returns-in_err-list-clause-err c = λ cie e kept body.
    let k = rc_value c.args.cie in
    let A = augmentation_of k.head.augmentation in
    let read = subst (λ (x : CieProgram). fde_head_at (augmentation_of x.head.augmentation) c.args.end c.new-cursor.result.left
    ≡ Ok (c.in_ok-head.head, c.read_fde_head.new.cursor.left)) c.deref.ensures c.in_ok-head.ensures.ok in
    let head = ap (fde_head_at A c.args.end) body
    ∙ sym (ap (λ (r : Reading). fde_head_at A c.args.end r.left) c.new-cursor.ensures) ∙ read in
    let context = c.factors.ensures ∙ ap (λ (x : CieProgram). head_context c.args.end (head_of x.head)) c.deref-2.ensures in
    let p = err_from_is_err_and c.from_residual-in_err-list.result c.from_residual-in_err-list.ensures.1 in
    rw (p.1, p.2)
    (fails_by c.in_err-list.field-0.0
    (λ n. no-list k cie c.args.end e c.in_ok-head.head c.read_fde_head.new.cursor.left kept head
    (ap (λ x. instructions_at x c.read_fde_head.new.cursor.left) (sym context) ∙ n))
    c.in_err-list.ensures.err)

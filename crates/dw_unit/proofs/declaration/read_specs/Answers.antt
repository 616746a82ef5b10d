use Rattle.std.proofs.Common.{◌∙◌, sym, ap, arith, Ok, List}
use Rattle.std.proofs.lemmas.List.{append-nil}
use Rattle.std.proofs.lemmas.Result.{err_from_is_err_and}
use Rattle.dw_unit.specs.declared.declaration.Spec.{Spec}
use Rattle.dw_unit.specs.Declarations.{specs_at}
use Rattle.dw_unit.proofs.Walks.{with_front}
use Rattle.dw_unit.proofs.Readers.{specs_more, specs_end, specs_trouble, spec_forward}
use Rattle.dw_unit.proofs.declaration.read_specs.Goals as goal

pub returns-in_err-spec-clause-trouble : goal.returns-in_err-spec-clause-trouble
returns-in_err-spec-clause-trouble c =
    let p = err_from_is_err_and c.from_residual.result c.from_residual.ensures.1 in
    rw (p.1, p.2) (sym c.specs.invariant.same
    ∙ specs_trouble c.specs.specs.items c.specs.cursor.left c.in_err-spec.field-0.0 c.in_err-spec.ensures.trouble)

pub specs-preserved : goal.specs-preserved
specs-preserved c =
    let read = rw c.in-Some.is at c.in_ok-spec.ensures.read in
    record {
      same =
          ap (λ (l : List Spec). with_front l (specs_at c.next_spec.new.cursor.left)) c.in_ok-push-in-Some.ensures.items
          ∙ specs_more c.specs.specs.items c.in-Some.spec c.specs.cursor.left c.next_spec.new.cursor.left read ∙ c.specs.invariant.same;
      on = omega (arith, spec_forward c.specs.cursor.left c.next_spec.new.cursor.left _ read, c.specs.invariant.on);
    }

pub returns-in-None-clause-read : goal.returns-in-None-clause-read
returns-in-None-clause-read c =
    let read = rw c.in-None.is at c.in_ok-spec.ensures.read in
    sym c.specs.invariant.same ∙ specs_end c.specs.specs.items c.specs.cursor.left c.next_spec.new.cursor.left read
    ∙ ap (λ (l : List Spec). Ok (l, c.next_spec.new.cursor.left)) (append-nil c.specs.specs.items)

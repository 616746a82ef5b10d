use Rattle.std.proofs.Common.{◌∙◌, sym, ap, arith, ℕ}
use Rattle.std.proofs.lemmas.Result.{err_from_is_err_and}
use Rattle.dw_unit.specs.CompUnits.{form_at}
use Rattle.dw_unit.proofs.Forms.{form_step, form_gap, form_implicit, uleb_forward}
use Rattle.dw_unit.proofs.attr.form.Goals as goal

pub returns-in_err-found-clause-trouble : goal.returns-in_err-found-clause-trouble
returns-in_err-found-clause-trouble c =
    let e = form_gap c.args.declaration c.forms.cursor.left c.in_err-found.field-0.0 c.in_err-found.ensures.gap in
    let p = err_from_is_err_and c.from_residual.result c.from_residual.ensures.1 in
    rw (p.1, p.2) (sym c.forms.invariant.same ∙ ap (λ (x : ℕ). form_at c.args.declaration x c.forms.cursor.left) c.forms-test.true ∙ e)

pub returns-then-found-eq-DW_FORM_implicit_const-clause-trouble :
    goal.returns-then-found-eq-DW_FORM_implicit_const-clause-trouble
returns-then-found-eq-DW_FORM_implicit_const-clause-trouble c =
    let f = rw c.if-found-eq-DW_FORM_implicit_const.true at c.in_ok-found.ensures.read in
    sym c.forms.invariant.same ∙ ap (λ (x : ℕ). form_at c.args.declaration x c.forms.cursor.left) c.forms-test.true
    ∙ form_implicit c.args.declaration c.forms.cursor.left c.uleb.new.self.left f

pub forms-preserved : goal.forms-preserved
forms-preserved c = record {
  same =
      sym (form_step c.args.declaration c.in_ok-found.found c.forms.cursor.left c.uleb.new.self.left c.in_ok-found.ensures.read
      c.if-found-eq-DW_FORM_implicit_const.false)
      ∙ sym (ap (λ (x : ℕ). form_at c.args.declaration x c.forms.cursor.left) c.forms-test.true)
      ∙ c.forms.invariant.same;
  on = omega (arith, uleb_forward c.forms.cursor.left c.uleb.new.self.left c.in_ok-found.found c.in_ok-found.ensures.read);
}

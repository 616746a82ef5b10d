use Rattle.std.proofs.Common.{◌∙◌, ◌++◌, List, ap}
use Rattle.std.specs.Prelude.{◌==◌}
use Rattle.std.specs.Int.{w64, cast_signed}
use Rattle.std.proofs.lemmas.Bool.{ne_eqb}
use Rattle.rb_bytes.specs.Leb.{uleb, sleb}
use Rattle.dw_unit.proofs.SpelledSteps.{spec_written}
use Rattle.dw_unit.proofs.new_abbrevs.put_spec.Goals as goal

pub returns-else-spec-eq-DW_FORM_implicit_const : goal.returns-else-spec-eq-DW_FORM_implicit_const
returns-else-spec-eq-DW_FORM_implicit_const c =
    c.in_ok-put_uleb-2.ensures.ok ∙ ap (λ (l : List _). l ++ uleb c.args.spec.form) c.in_ok-put_uleb.ensures.ok
    ∙ spec_written c.args.out.now.items (uleb c.args.spec.name) (uleb c.args.spec.form) (sleb (cast_signed w64 c.args.spec.implicit))
    (c.args.spec.form == 33)
    (ne_eqb c.args.spec.form 33 c.if-spec-eq-DW_FORM_implicit_const.false)

use Rattle.std.proofs.Common.{◌≤◌, ◌∙◌, ◌++◌, List, ℕ, ap, arith, sym, length}
use Rattle.std.proofs.lemmas.List.{take_all}
use Rattle.std.specs.Prelude.{flat_map}
use Rattle.dw_unit.specs.declared.declaration.Spec.{Spec}
use Rattle.dw_unit.specs.Changes.{spec_bytes, changed_spec}
use Rattle.dw_unit.proofs.SpelledSteps.{flat_flat, out_more}
use Rattle.dw_unit.proofs.new_abbrevs.put_specs.Goals as goal

abbrev none : Spec
none = record { name = 0; form = 0; implicit = 0 }

pub loop-spec-preserved : goal.loop-spec-preserved
loop-spec-preserved c = λ is_own d n.
    out_more (λ s. flat_map spec_bytes (changed_spec is_own d s)) c.args.specs.now c.loop-spec.spec-index none c.args.out.now.items
    c.loop-spec.out.items c.put_changed.new.out.items
    c.loop-spec-test.true (c.loop-spec.invariant is_own d n) (c.in_ok-put_changed.ensures is_own d n)

pub returns : goal.returns
returns c = λ is_own d n.
    let specs : List Spec = c.args.specs.now in
    let f : Spec → List ℕ = λ s. flat_map spec_bytes (changed_spec is_own d s) in
    let all : length specs ≤ c.loop-spec.spec-index = omega arith in
    c.loop-spec.invariant is_own d n
    ∙ ap (λ (l : List Spec). c.args.out.now.items ++ flat_map f l) (take_all c.loop-spec.spec-index specs all)
    ∙ sym (ap (λ (l : List ℕ). c.args.out.now.items ++ l) (flat_flat spec_bytes (changed_spec is_own d) specs))

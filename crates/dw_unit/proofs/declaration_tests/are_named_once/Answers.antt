use Rattle.std.proofs.Common.{◌≡◌, ◌<◌, ◌+◌, ◌-◌, ◌∙◌, ◌⊎◌, inl, inr, ℕ, List, true, false, sym, ap, arith, length, get_or, drop}
use Rattle.std.specs.List.{list_any}
use Rattle.dw_unit.specs.CompUnits.{are_named_once, may_repeat}
use Rattle.dw_unit.specs.Declarations.{is_named}
use Rattle.dw_unit.specs.declared.declaration.Spec.{Spec}
use Rattle.dw_unit.proofs.Named.{named_again, later_twice, once_step, known_step}
use Rattle.dw_unit.proofs.declaration_tests.are_named_once.Goals as goal
use Rattle.dw_unit.proofs.declaration_tests.are_named_once.Goals.{else-again-via-then-again+else-not-may_repeat, else-again-via-else-again}

pub returns-then-not-may_repeat : goal.returns-then-not-may_repeat
returns-then-not-may_repeat c =
    let specs : List Spec = c.args.specs.now in
    let i : ℕ = c.specs.index - 1 in
    let h : i < length specs = omega (arith, c.specs-test.true, c.specs.auto.index) in
    let next : c.specs.index ≡ i + 1 = omega (arith, c.specs-test.true) in
    let d : Spec = record { name = 0; form = 0; implicit = 0 } in
    let name : ℕ = (get_or specs i d).name in
    let again : list_any (is_named name) (drop (i + 1) specs) ≡ true =
    ap (λ (k : ℕ). list_any (is_named name) (drop k specs)) (sym next) ∙ sym (c.specs.invariant.known name) ∙ sym c.contains-again.ensures
    ∙ c.if-again.true in
    let once : may_repeat name ≡ false = sym c.may_repeat.ensures ∙ c.if-not-may_repeat.true in
    sym (later_twice specs i (named_again specs i d h once again))

pub specs-preserved : goal.specs-preserved
specs-preserved c =
    let specs : List Spec = c.args.specs.now in
    let i : ℕ = c.specs.index - 1 in
    let h : i < length specs = omega (arith, c.specs-test.true, c.specs.auto.index) in
    let next : c.specs.index ≡ i + 1 = omega (arith, c.specs-test.true) in
    let d : Spec = record { name = 0; form = 0; implicit = 0 } in
    let name : ℕ = (get_or specs i d).name in
    let single : (may_repeat name ≡ true) ⊎ (list_any (is_named name) (drop (i + 1) specs) ≡ false) = elim c.else-again.branch [
      | else-again-via-then-again+else-not-may_repeat w ↦ inl (sym w.may_repeat.ensures ∙ w.if-not-may_repeat.false)
      | else-again-via-else-again w ↦ inr (ap (λ (k : ℕ). list_any (is_named name) (drop k specs)) (sym next)
          ∙ sym (c.specs.invariant.known name)
          ∙ sym c.contains-again.ensures ∙ w.if-again.false)
    ] in
    record {
      once = once_step specs i d h single (ap (λ (k : ℕ). are_named_once (drop k specs)) (sym next) ∙ c.specs.invariant.once);
      known = λ q. known_step specs i q d _ _ h (c.specs.invariant.known q ∙ ap (λ (k : ℕ). list_any (is_named q) (drop k specs)) next)
          (c.in_ok-insert.ensures.updates.0 q);
    }

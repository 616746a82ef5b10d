use Rattle.std.proofs.Common.{sym, ap, ◌∙◌, BTreeMap, ℕ, cond, nat_cmp, Some}
use Rattle.std.specs.Prelude.{is_some}
use Rattle.std.specs.BTreeMap.{get}
use Rattle.elf_image.specs.declared.symbol.Symbol.{Symbol}
use Rattle.elf_plan.proofs.FirstNames.{first-new, first-named, first-no_function}
use Rattle.elf_plan.proofs.first_names.first_names.Goals as goal
use Rattle.elf_plan.proofs.first_names.first_names.Goals.{then-names_function+then-not-contains_key+in_ok-insert, else-names_function}
use Rattle.elf_plan.proofs.first_names.first_names.Goals.{else-names_function-via-then-names_function+else-not-contains_key}
use Rattle.elf_plan.proofs.first_names.first_names.Goals.{else-names_function-via-else-names_function}

pub loop-symbol-preserved : goal.loop-symbol-preserved
loop-symbol-preserved c =
    let symbols = c.args.symbols.now in
    let i = c.loop-symbol.symbol-index in
    elim c.if-names_function.branch [
      | then-names_function+then-not-contains_key+in_ok-insert w ↦ λ q.
          ap (λ (m : BTreeMap ℕ Symbol). get nat_cmp m q) w.names-is
          ∙ w.in_ok-insert.ensures.updates.0 q
          ∙ ap (cond _ (Some _)) (c.loop-symbol.invariant q)
          ∙ sym (first-new symbols i _ q c.loop-symbol-test.true (sym c.names_function.ensures ∙ w.if-names_function.true)
          (ap is_some (sym (c.loop-symbol.invariant _)) ∙ sym w.contains_key.ensures ∙ w.if-not-contains_key.true))
      | else-names_function w ↦ elim w.else-names_function.branch [
        | else-names_function-via-then-names_function+else-not-contains_key v ↦ λ q.
            ap (λ (m : BTreeMap ℕ Symbol). get nat_cmp m q) w.names-is
            ∙ c.loop-symbol.invariant q
            ∙ sym (first-named symbols i _ q c.loop-symbol-test.true
            (ap is_some (sym (c.loop-symbol.invariant _)) ∙ sym v.contains_key.ensures ∙ v.if-not-contains_key.false))
        | else-names_function-via-else-names_function v ↦ λ q.
            ap (λ (m : BTreeMap ℕ Symbol). get nat_cmp m q) w.names-is
            ∙ c.loop-symbol.invariant q
            ∙ sym (first-no_function symbols i _ q c.loop-symbol-test.true (sym c.names_function.ensures
            ∙ v.if-names_function.false))
      ]
    ]

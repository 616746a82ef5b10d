use Rattle.std.proofs.Common.{ℕ, ◌≡◌, sym, ap, ◌∙◌, refl}
use Rattle.std.specs.Prelude.{slice_index_or}
use Rattle.std.proofs.lemmas.Option.{slice_get_read, none-some}
use Rattle.rv_code.specs.layout.FunctionMembers.{func_holds}
use Rattle.rv_code.proofs.lists.FunctionAt.{function_at-holds, function_at-within}
use Rattle.func_place.proofs.ties.other_function_at.Goals as goal
use Rattle.rb_bytes.proofs.Tests.{clash}

pub returns-then-func_holds : goal.returns-then-func_holds
returns-then-func_holds c = λ g. (
  λ e. absurd (none-some g e),
  λ found. absurd (found.1
      (function_at-holds c.args.funcs.now c.args.address c.args.place g c.index-funcs-place.result c.requires.funcs
      (slice_get_read c.args.funcs.now _ c.args.place c.index-funcs-place.result refl c.requires.inside c.index-funcs-place.is)
      (sym c.func_holds.ensures ∙ c.if-func_holds.true) found.0)),
)

pub returns : goal.returns
returns c = λ g. (
  λ e.
      let found = sym c.function_at.ensures ∙ e in (
        found,
        λ (at : g ≡ c.args.place).
            let there = (function_at-within c.args.funcs.now c.args.address g c.index-funcs-place.result found).1 in
            let same = ap (λ (k : ℕ). func_holds c.args.address (slice_index_or c.args.funcs.now k c.index-funcs-place.result)) at
            in
            let is = ap (func_holds c.args.address) c.index-funcs-place.is in
            clash (func_holds c.args.address c.index-funcs-place.result) (is ∙ sym same ∙ there)
            (sym c.func_holds.ensures ∙ c.if-func_holds.false),
      ),
  λ found. c.function_at.ensures ∙ found.0,
)

use Rattle.std.proofs.Common.{◌≡◌, ◌∙◌, sym, subst, ℕ, Option, Some}
use Rattle.std.specs.Prelude.{IfSome}
use Rattle.rv_code.specs.layout.FunctionMembers.{function_at}
use Rattle.elf_plan.specs.Fragments.{IsFragment}
use Rattle.elf_make.proofs.symbols.NewCode.size_from.Goals as goal

pub returns-in-Some : goal.returns-in-Some
returns-in-Some c =
    let funcs = c.args.self.now.funcs.now in
    let spans = c.args.self.now.map.now in
    let is : function_at funcs c.args.old ≡ Some c.in-Some.func = sym c.function_at.ensures ∙ c.in-Some.is in
    subst (λ (o : Option ℕ). IfSome o (λ f. IsFragment funcs spans f c.args.new c.bytes_left.result)) (sym is)
    (c.bytes_left.ensures funcs spans c.requires.fragments)

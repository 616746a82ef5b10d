use Rattle.std.proofs.Common.{sym, subst, ℕ, List}
use Rattle.std.proofs.lemmas.Result.{IfOk-weaker}
use Rattle.rv_reloc.specs.Refs.{AreRefs}
use Rattle.func_find.specs.FunctionParts.{AreFunctionParts}
use Rattle.func_find.specs.Referents.{AreReferred}
use Rattle.func_find.proofs.Judged.{AreFunctionParts-code}
use Rattle.func_find.proofs.function_parts.kept_parts.Goals as goal
use Rattle.rb_bytes.proofs.Tests.{clash}

pub returns-then-not-branch : goal.returns-then-not-branch
returns-then-not-branch c = λ tabled refers.
    subst (AreFunctionParts c.args.elf.now tabled) (sym c.in_ok-from_slice.ensures.items)
    (AreFunctionParts-code c.args.elf.now tabled c.args.parts.now c.requires.parts
    (λ any. clash _ (c.in_ok-have_nops.ensures.1 any) c.if-not-branch.true))

pub returns : goal.returns
returns c =
    let elf = c.args.elf.now in
    IfOk-weaker c.function_parts.result
    (λ kept. (tabled : List (ℕ × ℕ)) → AreReferred elf tabled c.in_ok-referred.referred.addresses.items →
    AreFunctionParts elf tabled kept.items)
    (λ kept. (tabled : List (ℕ × ℕ)) → AreRefs elf tabled c.args.refs.now → AreFunctionParts elf tabled kept.items)
    (λ kept are tabled refers. are tabled (c.in_ok-referred.ensures tabled refers)) c.function_parts.ensures

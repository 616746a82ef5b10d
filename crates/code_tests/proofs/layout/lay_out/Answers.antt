use Rattle.std.proofs.Common.{◌∙◌, sym, subst, List}
use Rattle.std.specs.Prelude.{AllPairs}
use Rattle.rv_code.specs.declared.placed.Func.{Func}
use Rattle.rv_code.specs.layout.FunctionLists.{AreLaidOut}
use Rattle.rv_code.specs.layout.Lists.{IsPairBefore}
use Rattle.cfg_build.specs.EdgeLists.{AreStretches}
use Rattle.cfg_build.specs.NamedAddresses.{code_of}
use Rattle.cfg_build.proofs.layout.AcceptedCode.{AreLaidOut-functions}
use Rattle.cfg_build.proofs.layout.BlockPartition.{AreStretches-blocks}
use Rattle.code_tests.proofs.layout.lay_out.Goals as goal

pub references-requires-clause-read : goal.references-requires-clause-read
references-requires-clause-read c =
    record { file = c.args.file.now; fields = c.in_ok-elf.ensures.fields; sound = c.in_ok-elf.ensures.sound }

pub edges-requires-clause-funcs : goal.edges-requires-clause-funcs
edges-requires-clause-funcs c =
    subst AreLaidOut (sym c.deref-6.ensures.value)
    (AreLaidOut-functions c.in_ok-elf.elf c.args.file.now c.in_ok-elf.ensures.fields c.in_ok-elf.ensures.sound c.args.whole.now
    c.in_ok-funcs.funcs.items c.in_ok-funcs.ensures.functions c.in_ok-funcs.ensures.free)

pub edges-requires-clause-blocks : goal.edges-requires-clause-blocks
edges-requires-clause-blocks c =
    subst (λ (funcs : List Func). AreStretches funcs c.deref-7.result.now) (c.deref-3.ensures.value ∙ sym c.deref-6.ensures.value)
    (subst (AreStretches c.deref-3.result.now) (sym c.deref-7.ensures.value)
    (AreStretches-blocks (code_of c.deref-3.result.now c.in_ok-refs.refs c.in_ok-elf.elf.entry) c.in_ok-blocks.blocks.items
    c.in_ok-blocks.ensures))

pub edges-requires-clause-targets : goal.edges-requires-clause-targets
edges-requires-clause-targets c =
    subst (AllPairs IsPairBefore) (sym c.deref-8.ensures.value) c.in_ok-targets.ensures.ordered

use Rattle.std.proofs.Common.{◌∙◌, sym, ap, subst, List}
use Rattle.rv_code.specs.layout.Lists.{ListsNumbers}
use Rattle.elf_code.specs.Parts.{IsStart}
use Rattle.code_starts.specs.declared.parts.Part.{Part}
use Rattle.code_starts.specs.Starts.{starts_of}
use Rattle.code_starts.proofs.StartLists.{starts-list}
use Rattle.code_starts.proofs.instruction_starts.starts.Goals as goal

pub returns : goal.returns
returns c =
    let elf = c.args.elf.now in
    let same = c.in_ok-starts_of.ensures ∙ ap (λ (ps : List Part). starts_of elf ps) c.deref.ensures.value in
    subst (ListsNumbers (IsStart elf)) (sym same) (starts-list elf c.in_ok-parts.parts.items c.in_ok-parts.ensures)

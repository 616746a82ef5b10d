use Rattle.std.proofs.Common.{◌≡◌, sym, subst, List, ◌++◌, ℕ, rules}
use Rattle.std.specs.List.{Contains}
use Rattle.elf_image.specs.file.CutLists.{symbol_bounds, section_bounds}
use Rattle.elf_image.proofs.CutLists.{IsCutAddress-from_lists, lists-from_IsCutAddress}
use Rattle.elf_image.proofs.function_bounds.cuts.Goals as goal

pub returns-clause-exact : goal.returns-clause-exact
returns-clause-exact c =
    let symbols = c.args.elf.now.symbols.items in
    let sections = c.args.elf.now.sections.items in
    let pushed : c.push_section_bounds.new.cuts.items ≡ symbol_bounds symbols ++ section_bounds sections = search rules in
    λ a.
    let same = c.make_ascending.ensures.same a in
    let Has : List ℕ → Type 0 = λ xs. Contains xs a in (
      (λ is_in. IsCutAddress-from_lists symbols sections a (subst Has pushed (same.0 is_in))),
      (λ is_cut. same.1 (subst Has (sym pushed) (lists-from_IsCutAddress symbols sections a is_cut))),
    )

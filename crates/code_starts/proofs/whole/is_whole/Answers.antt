use Rattle.std.proofs.Common.{ℕ, ◌↔◌}
use Rattle.std.specs.List.{Contains}
use Rattle.elf_code.specs.Parts.{StartsIn}
use Rattle.code_starts.proofs.WholeLookup.{StartsIn-inside, IsWholePart-starts}
use Rattle.code_starts.proofs.whole.is_whole.Goals as goal

pub returns : goal.returns
returns c = λ tabled same.
    let elf = c.args.elf.now in
    let part = c.args.part.now in
    let inside : (a : ℕ) → Contains c.starts_in.result.now a ↔ StartsIn elf part.start part.end a = λ a.
    let (to, from) = StartsIn-inside elf c.args.starts.now part.start part.end c.requires.starts c.requires.part a in
    let (out, back) = c.starts_in.ensures.members a in
    ((λ listed. to (out listed)), λ starts. back (from starts)) in
    let (to, from) =
    IsWholePart-starts elf tabled part.start part.end c.args.ranges.now.reaches.items c.starts_in.result.now
    c.requires.part inside same in
    ((λ is. to (c.any_held.ensures.0 is)), λ whole. c.any_held.ensures.1 (from whole))

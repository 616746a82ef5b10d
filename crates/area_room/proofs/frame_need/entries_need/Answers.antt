use Rattle.std.proofs.Common.{◌∙◌, ap, ℕ, List}
use Rattle.area_room.specs.EntryNeeds.{bounds_of, entries_need}
use Rattle.file_room.specs.Numbers.{capped}
use Rattle.area_room.proofs.EntrySums.{entries_need-permutation}
use Rattle.area_room.proofs.frame_need.entries_need.Goals as goal

pub returns : goal.returns
returns c =
    let funcs = c.args.funcs.now in
    let blocks = c.args.blocks.now in
    let entries = c.args.entries.now in
    c.sum_of_needs-need.ensures ∙ ap (λ (bounds : List ℕ). capped (entries_need funcs blocks bounds entries)) c.deref-2.ensures.value
    ∙ ap capped (entries_need-permutation funcs blocks (bounds_of entries) c.in_ok-bounds.bounds.items entries
    c.in_ok-bounds.ensures.all)

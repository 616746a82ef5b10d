use Rattle.std.proofs.Common.{◌∙◌, ap, List, [], ◌∷◌, ◌++◌}
use Rattle.elf_image.specs.declared.segment.Segment.{Segment}
use Rattle.elf_image.specs.file.Header.{e_phoff, segments_from}
use Rattle.elf_image.proofs.ReadLists.{segments_from-none, segments_from-more}
use Rattle.elf_image.proofs.tables.read_segments.Goals as goal

pub loop-index-init : goal.loop-index-init
loop-index-init c = c.new-segments.ensures.items ∙ segments_from-none c.args.file.now (e_phoff c.args.file.now)

pub loop-index-preserved : goal.loop-index-preserved
loop-index-preserved c =
    let file = c.args.file.now in
    c.in_ok-push.ensures.items
    ∙ ap (λ (xs : List Segment). xs ++ c.segment_of.result ∷ []) c.loop-index.invariant
    ∙ ap (λ (p : Segment). segments_from file (e_phoff file) c.loop-index.index ++ p ∷ []) c.segment_of.ensures
    ∙ segments_from-more file (e_phoff file) c.loop-index.index

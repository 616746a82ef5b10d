use Rattle.std.proofs.Common.{List, ◌∙◌, ap, sym, subst, inl, inr, arith}
use Rattle.rb_bytes.specs.declared.fault.FaultKind.TheVariants.{ExecSegments}
use Rattle.elf_image.specs.declared.segment.Segment.{Segment}
use Rattle.elf_image.specs.memory.Image.{segment_of, LoadOnce}
use Rattle.elf_image.proofs.ReadLists.{LoadOnce-apart}
use Rattle.elf_image.proofs.SectionLemmas.{tables-whole}
use Rattle.elf_image.proofs.reader.read_beside.Goals as goal

pub segments_by_address-requires : goal.segments_by_address-requires
segments_by_address-requires c =
    let Once : List Segment → Type 0 = λ ps. LoadOnce ps in
    subst
    Once
    (sym (c.deref.ensures.value ∙ c.in_ok-segments.ensures))
    (LoadOnce-apart c.args.file.now (λ place shares. c.requires.lacks ExecSegments (omega arith) place (inr (inl (inl shares)))))

pub invariant_of-result-clause-tables : goal.invariant_of-result-clause-tables
invariant_of-result-clause-tables c = tables-whole c.args.file.now c.args.sections.items c.requires.readable c.requires.sections

pub invariant_of-result-clause-same : goal.invariant_of-result-clause-same
invariant_of-result-clause-same c =
    λ a. c.in_ok-loads.ensures.same a ∙ ap (λ (ps : List Segment). segment_of ps a) c.deref.ensures.value

use Rattle.std.proofs.Common.{rules, ◌≡◌, ◌∙◌, false, None, sym, ap}
use Rattle.cfi_rows.specs.Entries.{Frames}
use Rattle.cfi_rows.specs.Frames.{frames_in, eh_frames}
use Rattle.cfi_rows.specs.ReadFrames.{read_as}
use Rattle.frame_rewrite.specs.FrameAnswers.{is_marked_by, cuts_of}
use Rattle.frame_rewrite.proofs.ReadTables.{no-fault, read-of, means-so, cut-marks, copied-there}
use Rattle.frame_rewrite.proofs.eh_table.EhFramesAddrTable.read.Goals as goal

pub returns-clause-reads : goal.returns-clause-reads
returns-clause-reads c =
    let t = c.in_ok-frames.frames in
    let elf = c.args.elf.now in
    let none : t.bad ≡ None = search rules in
    let same : read_as t ≡ eh_frames elf = read-of t false (frames_in false elf) c.in_ok-frames.ensures.kind
    c.in_ok-frames.ensures.section in
    let sound : (read_as t).bad ≡ None = sym c.in_ok-frames.ensures.bad ∙ none in
    let marks = cut-marks elf c.in_ok-cuts.cuts.items c.in_ok-cuts.ensures.exact in (
      means-so (is_marked_by (cuts_of elf)) (is_marked_by c.in_ok-cuts.cuts.items) (eh_frames elf) (read_as t) same sound marks,
      no-fault (eh_frames elf) (ap (λ (x : Frames). x.bad) (sym same) ∙ sound),
    )

pub returns-clause-comes : goal.returns-clause-comes
returns-clause-comes c = record {
  kind = c.in_ok-frames.ensures.kind;
  section = c.in_ok-frames.ensures.section;
  there = c.is_some.ensures ∙ copied-there c.section_called.result _ c.section_called.ensures;
  marks = cut-marks c.args.elf.now c.in_ok-cuts.cuts.items c.in_ok-cuts.ensures.exact;
}

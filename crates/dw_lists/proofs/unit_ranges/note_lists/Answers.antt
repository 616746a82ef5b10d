use Rattle.std.proofs.Common.{◌++◌, List, sym, subst, take, append-nil}
use Rattle.std.proofs.lemmas.List.{take_all}
use Rattle.dw_unit.specs.declared.entry.Attr.{Attr}
use Rattle.dw_lists.specs.KnownLists.{IsNoted}
use Rattle.cover_lists.proofs.GroupFacts.{grow_none, grow_more}
use Rattle.dw_lists.proofs.NotedLists.{one_more}
use Rattle.dw_lists.proofs.unit_ranges.note_lists.Goals as goal

pub loop-attr-init : goal.loop-attr-init
loop-attr-init c = λ s u before b r n k noted.
    (grow_none c.args.groups.now n, k, subst (λ (l : List Attr). IsNoted s u l c.args.others) (sym (append-nil before)) noted)

pub loop-attr-preserved : goal.loop-attr-preserved
loop-attr-preserved c = λ s u before b r n k noted.
    let p = c.loop-attr.invariant s u before b r n k noted in
    let q = c.in_ok-faults.ensures s u (before ++ take c.loop-attr.attr-index c.args.attrs.now) b r p.0.numbered p.1 p.2 in (
      grow_more c.args.groups.now c.loop-attr.groups c.note_list.new.groups p.0 q.0,
      q.1,
      subst (λ (l : List Attr). IsNoted s u l c.in_ok-faults.faults)
          (one_more before c.args.attrs.now c.loop-attr.attr-index _ c.loop-attr-test.true) q.2,
    )

pub returns : goal.returns
returns c = λ s u before b r n k noted.
    let p = c.loop-attr.invariant s u before b r n k noted in (
      p.0,
      p.1,
      subst (λ (l : List Attr). IsNoted s u (before ++ l) c.loop-attr.faults)
          (take_all c.loop-attr.attr-index c.args.attrs.now c.loop-attr-test.false) p.2,
    )

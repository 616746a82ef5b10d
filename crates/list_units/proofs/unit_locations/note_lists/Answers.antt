use Rattle.std.proofs.Common.{◌++◌, List, sym, subst, take, append-nil}
use Rattle.std.proofs.lemmas.List.{take_all}
use Rattle.dw_unit.specs.declared.entry.Attr.{Attr}
use Rattle.dw_lists.specs.KnownLists.{AreNoted}
use Rattle.dw_lists.specs.Lists.{locations_kind}
use Rattle.list_units.specs.ReadLists.{offsets_in, AreListed}
use Rattle.list_units.proofs.LocationFacts.{read_none, read_more}
use Rattle.dw_lists.proofs.NotedLists.{one_more}
use Rattle.list_units.proofs.unit_locations.note_lists.Goals as goal

pub loop-attr-init : goal.loop-attr-init
loop-attr-init c = (
  λ s u before r k noted. (
    read_none s u c.args.lists.now.items c.args.known.now k,
    subst (λ (l : List Attr). AreNoted locations_kind s.locations s.units.addr u l c.args.others) (sym (append-nil before)) noted,
  ),
  λ s u before first r x.
      subst (λ (l : List Attr). AreListed s u (offsets_in s u l) first c.args.lists.now.items c.args.known.now) (sym (append-nil before)) x,
)

pub loop-attr-preserved : goal.loop-attr-preserved
loop-attr-preserved c = (
  λ s u before r k noted.
      let p = c.loop-attr.invariant.0 s u before r k noted in
      let q = c.in_ok-faults.ensures.read s u (before ++ take c.loop-attr.attr-index c.args.attrs.now) r p.0.known_are p.1 in (
        read_more s u c.args.lists.now.items c.loop-attr.lists.items c.note_list.new.lists.items c.loop-attr.known c.note_list.new.known p.0
            q.0,
        subst (λ (l : List Attr). AreNoted locations_kind s.locations s.units.addr u l c.in_ok-faults.faults)
            (one_more before c.args.attrs.now c.loop-attr.attr-index _ c.loop-attr-test.true) q.1,
      ),
  λ s u before first r x.
      subst (λ (l : List Attr). AreListed s u (offsets_in s u l) first c.note_list.new.lists.items c.note_list.new.known)
      (one_more before c.args.attrs.now c.loop-attr.attr-index _ c.loop-attr-test.true)
      (c.in_ok-faults.ensures.listed s u (before ++ take c.loop-attr.attr-index c.args.attrs.now) first r
      (c.loop-attr.invariant.1 s u before first r x)),
)

pub returns-clause-read : goal.returns-clause-read
returns-clause-read c = λ s u before r k noted.
    let p = c.loop-attr.invariant.0 s u before r k noted in (
      p.0,
      subst (λ (l : List Attr). AreNoted locations_kind s.locations s.units.addr u (before ++ l) c.loop-attr.faults)
          (take_all c.loop-attr.attr-index c.args.attrs.now c.loop-attr-test.false) p.1,
    )

pub returns-clause-listed : goal.returns-clause-listed
returns-clause-listed c = λ s u before first r x.
    subst (λ (l : List Attr). AreListed s u (offsets_in s u (before ++ l)) first c.loop-attr.lists.items c.loop-attr.known)
    (take_all c.loop-attr.attr-index c.args.attrs.now c.loop-attr-test.false) (c.loop-attr.invariant.1 s u before first r x)

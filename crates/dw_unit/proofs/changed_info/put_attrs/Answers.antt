use Rattle.std.proofs.Common.{◌≤◌, ◌+◌, ◌++◌, ◌∙◌, ℕ, List, ◌∷◌, drop, sym, ap, subst, arith, get_or}
use Rattle.std.proofs.lemmas.List.{drop_more}
use Rattle.std.proofs.lemmas.Grind.{common_steps}
use Rattle.std.specs.Prelude.{flat_map}
use Rattle.dw_unit.specs.declared.entry.Attr.{Attr}
use Rattle.dw_unit.specs.Changes.{Patch, patched, attr_patches}
use Rattle.dw_unit.specs.EntryChanges.{ArePlaced}
use Rattle.dw_unit.proofs.PlacedAttrs.{placed_less, placed_within}
use Rattle.dw_unit.proofs.WalkSteps.{patches_step}
use Rattle.dw_unit.proofs.changed_info.put_attrs.Goals as goal

abbrev none : Attr
none = record { name = 0; form = 0; place = 0; len = 0; value = 0 }

pub put_attr-requires-clause-within : goal.put_attr-requires-clause-within
put_attr-requires-clause-within c =
    let i : ℕ = c.loop-attr.attr-index in
    let attrs : List Attr = c.args.attrs.now in
    let a : Attr = get_or attrs i none in
    let here : ArePlaced c.loop-attr.to c.args.end (a ∷ drop (i + 1) attrs) =
    subst (λ (l : List Attr). ArePlaced c.loop-attr.to c.args.end l) (drop_more attrs i none c.loop-attr-test.true)
    c.loop-attr.invariant.placed in
    let behind : a.place + a.len ≤ c.args.end = placed_within (a.place + a.len) c.args.end (drop (i + 1) attrs) here.1 in
    let all = c.requires.within in
    omega arith

pub loop-attr-preserved : goal.loop-attr-preserved
loop-attr-preserved c =
    let i : ℕ = c.loop-attr.attr-index in
    let attrs : List Attr = c.args.attrs.now in
    let a : Attr = get_or attrs i none in
    let to : ℕ = c.in_ok-to.to in
    let here : ArePlaced c.loop-attr.to c.args.end (a ∷ drop (i + 1) attrs) =
    subst (λ (l : List Attr). ArePlaced c.loop-attr.to c.args.end l) (drop_more attrs i none c.loop-attr-test.true)
    c.loop-attr.invariant.placed in
    record {
      placed = placed_less (a.place + a.len) to c.args.end (drop (i + 1) attrs) c.in_ok-to.ensures.to here.1;
      put = λ m e ps moves of.
          let f : Attr → List Patch = attr_patches m c.args.entry.is_own c.args.entry.is_first e in
          c.in_ok-to.ensures.put m e (flat_map f (drop (i + 1) attrs) ++ ps) moves of
          ∙ ap (λ (l : List Patch). c.loop-attr.out.items ++ patched c.loop-attr.to l (drop c.loop-attr.to c.args.info.now))
          (sym (patches_step f attrs i none ps c.loop-attr-test.true))
          ∙ c.loop-attr.invariant.put m e ps moves of;
    }

pub put_attr-requires-clause-room : goal.put_attr-requires-clause-room
put_attr-requires-clause-room c = c.requires.room c.loop-attr.attr-index none c.loop-attr-test.true

pub put_attr-requires-clause-placed : goal.put_attr-requires-clause-placed
put_attr-requires-clause-placed c = grind (arith, common_steps)

pub returns-clause-put : goal.returns-clause-put
returns-clause-put c = grind (arith, common_steps)

pub returns-clause-to : goal.returns-clause-to
returns-clause-to c = grind (arith, common_steps)

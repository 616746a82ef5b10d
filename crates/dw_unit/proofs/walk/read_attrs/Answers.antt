use Rattle.std.proofs.Common.{◌≡◌, ◌≤◌, ◌∙◌, Ok, List, arith, ap, sym, length}
use Rattle.std.proofs.lemmas.List.{append-nil, drop_all}
use Rattle.dw_unit.specs.declared.declaration.Spec.{Spec}
use Rattle.dw_unit.specs.declared.entry.Attr.{Attr}
use Rattle.dw_unit.specs.CompUnits.{attrs_at}
use Rattle.dw_unit.proofs.Walks.{with_front}
use Rattle.dw_unit.proofs.PlacedAttrs.{attrs_placed}
use Rattle.dw_unit.proofs.walk.read_attrs.Goals as goal

pub returns-clause-placed : goal.returns-clause-placed
returns-clause-placed c =
    let items : List Attr = c.loop-spec.attrs.items in
    let all : length c.args.specs.now ≤ c.loop-spec.spec-index = omega arith in
    let read : attrs_at c.args.end c.args.declaration c.args.specs.now c.args.cursor.now.left ≡ Ok (items, c.loop-spec.cursor.left) =
    sym c.loop-spec.invariant.same
    ∙ ap (λ (ss : List Spec). with_front items (attrs_at c.args.end c.args.declaration ss c.loop-spec.cursor.left))
    (drop_all c.loop-spec.spec-index c.args.specs.now all)
    ∙ ap (λ (l : List Attr). Ok (l, c.loop-spec.cursor.left)) (append-nil items) in
    attrs_placed c.args.end c.args.declaration c.args.specs.now items c.args.cursor.now.left c.loop-spec.cursor.left c.requires read

use Rattle.std.proofs.Common.{◌≡◌, ◌∙◌, ◌++◌, Bool, List, ap, sym, drop}
use Rattle.std.proofs.lemmas.Result.{IfOk-weaker}
use Rattle.std.specs.Prelude.{flat_map}
use Rattle.dw_unit.specs.declared.entry.Attr.{Attr}
use Rattle.dw_unit.specs.Changes.{patched, attr_patches, is_first_of, is_own}
use Rattle.dw_unit.specs.EntryChanges.{IsOf}
use Rattle.dw_unit.proofs.changed_units.put_entry.Goals as goal

pub returns-clause-put : goal.returns-clause-put
returns-clause-put c = IfOk-weaker c.put_attrs.result _ _ (λ to put s m u e ps x own place declared attrs.
    let entry = c.changed_entry-entry.result in
    let own_is : entry.is_own ≡ is_own s e.declaration = c.changed_entry-entry.ensures.is_own s m x ∙ ap (is_own s) (sym declared) in
    let first_is : entry.is_first ≡ is_first_of u e = c.changed_entry-entry.ensures.is_first u e own place in
    let of : IsOf e entry = c.changed_entry-entry.ensures.of e place declared in
    put m e ps x.moves of
    ∙ ap (λ (b : Bool). c.args.out.now.items ++ patched c.args.from (flat_map (attr_patches m b entry.is_first e) c.args.attrs.now ++ ps)
    (drop c.args.from c.args.change.now.info.now)) own_is
    ∙ ap (λ (b : Bool). c.args.out.now.items ++ patched c.args.from
    (flat_map (attr_patches m (is_own s e.declaration) b e) c.args.attrs.now ++ ps) (drop c.args.from c.args.change.now.info.now))
    first_is
    ∙ ap (λ (l : List Attr). c.args.out.now.items ++ patched c.args.from
    (flat_map (attr_patches m (is_own s e.declaration) (is_first_of u e) e) l ++ ps) (drop c.args.from c.args.change.now.info.now))
    (sym attrs))
    c.put_attrs.ensures.put

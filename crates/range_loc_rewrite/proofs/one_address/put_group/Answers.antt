use Rattle.std.proofs.Common.{◌≡◌, ◌∙◌, Bool, true, false, ap, cond, nat_cmp, refl, sym}
use Rattle.std.specs.Prelude.{◌==◌, ◌&&◌, ◌||◌}
use Rattle.std.specs.BTreeSet.{contains}
use Rattle.range_loc_rewrite.proofs.NumberSets.{at_key}
use Rattle.range_loc_rewrite.proofs.one_address.put_group.Goals as goal

-- A group that isn't found.
not_more : (old is held : Bool) → held ≡ false → old ≡ (old || (is && held))
not_more true is held e = refl
not_more false true held e = sym e
not_more false false held e = refl

one_more : (old is held : Bool) → held ≡ true → cond is true old ≡ (old || (is && held))
one_more true true held e = refl
one_more true false held e = refl
one_more false true held e = sym e
one_more false false held e = refl

pub returns-then-not-holds : goal.returns-then-not-holds
returns-then-not-holds c = λ g.
    not_more (contains nat_cmp c.args.found.now g) (c.args.cover.now.group == g) _ (sym c.holds.ensures ∙ c.if-not-holds.true)

pub returns : goal.returns
returns c = λ g.
    let old = contains nat_cmp c.args.found.now g in
    c.in_ok-insert.ensures.updates.0 g ∙ ap (λ (b : Bool). cond b true old) (at_key c.args.cover.now.group g)
    ∙ one_more old (c.args.cover.now.group == g) _ (sym c.holds.ensures ∙ c.if-not-holds.false)

use Rattle.std.proofs.Common.{◌≡◌, ◌∙◌, length, sym, subst, rules, replicate}
use Rattle.std.proofs.lemmas.List.{length-replicate}
use Rattle.branch_fixup.specs.Ways.{AreStarts}
use Rattle.branch_fixup.proofs.Ways.{are_starts, none_longer}
use Rattle.branch_fixup.proofs.settling.settle.Goals as goal
use Rattle.rb_bytes.proofs.ListLemmas.{zeros}

pub new-requires-clause-starts : goal.new-requires-clause-starts
new-requires-clause-starts c =
    let p = c.in_ok-places.ensures in
    subst (AreStarts c.args.block_ends.now) (sym c.deref.ensures.value)
    (are_starts c.args.block_ends.now c.args.forms.now c.in_ok-places.places.items c.requires.block_ends p.len p.at)

pub invariant_of-settling : goal.invariant_of-settling
invariant_of-settling c =
    let p = c.in_ok-places.ensures in
    record {
      fit = c.requires.block_ends;
      begin = subst (AreStarts c.args.block_ends.now) (sym c.deref-2.ensures.value)
          (are_starts c.args.block_ends.now c.args.forms.now c.in_ok-places.places.items c.requires.block_ends p.len p.at);
      over = c.in_ok-crossings.ensures;
    }

pub grow_from-requires-clause-settling : goal.grow_from-requires-clause-settling
grow_from-requires-clause-settling c =
    let ts = c.args.block_ends.now in
    let fresh : c.deref_mut.result.now ≡ replicate (length ts) 0 =
    c.deref_mut.ensures.value ∙ c.in_ok-more.ensures.items_if_clones_equal (λ y h. search rules) in
    rw (c.deref-2.ensures.value, fresh) (record {
      count = length-replicate (length ts) 0;
      sound = c.requires.sound;
      longer = none_longer ts c.in_ok-places.places.items c.args.forms.now (replicate (length ts) 0) c.requires.block_ends
          c.in_ok-places.ensures.at (zeros (length ts));
    })

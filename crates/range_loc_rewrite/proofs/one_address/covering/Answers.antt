use Rattle.std.proofs.Common.{◌∙◌, ◌++◌, [], ℕ, List, None, ap, get_or, sym, take, arith}
use Rattle.std.specs.Prelude.{flat_map}
use Rattle.std.proofs.lemmas.List.{flat_map_more, take_more}
use Rattle.std.proofs.lemmas.Grind.{common_steps}
use Rattle.cover_lists.specs.declared.groups.RangedEntry.{RangedEntry}
use Rattle.range_loc_rewrite.specs.OneAddress.{place_if}
use Rattle.range_loc_rewrite.proofs.one_address.covering.Goals as goal

abbrev nobody : RangedEntry
nobody = record { place = 0; group = 0; own = 0; index = None; entry = None; first = None }

pub loop-entry-preserved : goal.loop-entry-preserved
loop-entry-preserved c =
    let ranged = c.args.ranged.now in
    let i = c.loop-entry.entry-index in
    let f = place_if c.args.found.now in
    c.in_ok-put_covering.ensures ∙ ap (λ (l : List ℕ). l ++ f (get_or ranged i nobody)) c.loop-entry.invariant
    ∙ flat_map_more f [] (take i ranged) (get_or ranged i nobody) ∙ ap (flat_map f) (sym (take_more ranged i nobody c.loop-entry-test.true))

pub returns : goal.returns
returns c = grind (arith, common_steps)

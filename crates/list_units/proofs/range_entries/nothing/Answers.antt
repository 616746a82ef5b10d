use Rattle.std.proofs.Common.{◌<◌, List, ap, sym, subst, refl, length}
use Rattle.std.specs.Prelude.{All}
use Rattle.std.proofs.lemmas.List.Elements.{All-nil}
use Rattle.cover_lists.specs.declared.cover_tree.Cover.{Cover}
use Rattle.cover_lists.specs.declared.groups.RangedEntry.{RangedEntry}
use Rattle.list_units.specs.Gathering.{seen_kept}
use Rattle.list_units.proofs.range_entries.nothing.Goals as goal

pub returns : goal.returns
returns c = λ s. record {
  numbered = (
    subst (λ (cs : List Cover). All (λ (x : Cover). x.group < 0) cs) (sym c.new.ensures.items) (All-nil (λ (x : Cover). x.group < 0)),
    ap length c.new-2.ensures.items,
  );
  within = subst (λ (rs : List RangedEntry). All (λ (r : RangedEntry). r.group < 0) rs) (sym c.new-3.ensures.items)
      (All-nil (λ (r : RangedEntry). r.group < 0));
  form = refl;
  high = refl;
  unformed_are = refl;
  bad = refl;
  gathered = λ _. record {
    seen = λ a. ap (λ (rs : List RangedEntry). seen_kept c.new.result.items rs a) c.new-3.ensures.items;
    bad = refl;
    indexes = c.new-4.ensures.items;
  };
}

use Rattle.std.proofs.Common.{◌<◌, List, [], ap, sym, subst, refl, length}
use Rattle.std.specs.Prelude.{All}
use Rattle.std.specs.List.{AllZip}
use Rattle.std.proofs.lemmas.List.Elements.{All-nil}
use Rattle.cover_lists.specs.declared.cover_tree.Cover.{Cover}
use Rattle.list_units.specs.declared.located_attr.LocatedAttr.{LocatedAttr}
use Rattle.cover_lists.specs.KeptLists.{all_say}
use Rattle.dw_lists.specs.declared.named_list.NamedList.{NamedList}
use Rattle.list_units.specs.Listing.{IsNameOf}
use Rattle.list_units.specs.UnitLocations.{IsHeld, all_located}
use Rattle.list_units.proofs.place_entries.nothing.Goals as goal

pub returns : goal.returns
returns c = λ s. record {
  numbered = (
    subst (λ (cs : List Cover). All (λ (x : Cover). x.group < 0) cs) (sym c.new.ensures.items) (All-nil (λ (x : Cover). x.group < 0)),
    ap length c.new-2.ensures.items,
  );
  form = refl;
  high = refl;
  unformed_are = refl;
  bad = refl;
  gathered = λ _. record {
    held = subst (λ (ls : List LocatedAttr). All (IsHeld 0 (length c.new-3.result.items)) ls) (sym c.new-4.ensures.items)
        (All-nil (IsHeld 0 (length c.new-3.result.items)));
    says = λ a. ap (λ (ls : List LocatedAttr). all_located c.new.result.items c.new-3.result.items ls a) c.new-4.ensures.items;
    ranges = refl;
    locations = refl;
    listed = ap all_say c.new-3.ensures.items;
    names = subst (λ (ns : List NamedList). AllZip (IsNameOf c.new-3.result.items) ns []) (sym c.new-5.ensures.items) tt;
    indexes = c.new-6.ensures.items;
  };
}

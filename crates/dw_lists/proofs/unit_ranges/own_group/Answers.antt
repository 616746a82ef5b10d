use Rattle.std.proofs.Common.{◌≡◌, ◌∙◌, ◌==◌, ◌∷◌, [], ℕ, List, Option, Some, None, ap, sym, subst}
use Rattle.std.specs.Prelude.{option_map}
use Rattle.std.specs.List.{find}
use Rattle.std.specs.Option.{option_copied}
use Rattle.std.proofs.lemmas.Result.{IfOk-weaker}
use Rattle.answer_runs.specs.declared.range.Range.{Range}
use Rattle.dw_unit.specs.declared.attribute.TheConstants.{DW_AT_ranges}
use Rattle.dw_unit.specs.declared.entry.Attr.{Attr}
use Rattle.dw_unit.specs.CompUnits.{attr}
use Rattle.cover_lists.specs.declared.list_place.Bounds.{Bounds}
use Rattle.cover_lists.specs.Groups.{HasRanges}
use Rattle.cover_lists.specs.Located.{ranges_in, Located}
use Rattle.dw_lists.specs.KnownLists.{range_list}
use Rattle.dw_lists.specs.Lists.{ranges_kind, list_offset}
use Rattle.dw_lists.specs.Ranges.{ranges_of}
use Rattle.cover_lists.proofs.GroupFacts.{group_added, group_has, grow_none, none_has}
use Rattle.dw_lists.proofs.RangeLists.{still_known}
use Rattle.dw_lists.proofs.OwnRanges.{bounds_of, listed_ranges, own_bounds, own_list, of_offset}
use Rattle.dw_lists.proofs.unit_ranges.own_group.Goals as goal

abbrev range_of : Bounds → Range
range_of b = record { low = b.low; high = b.high }

named : (o : Option Attr) (xs ys : List Attr) → ys ≡ xs → o ≡ find (λ (a : Attr). a.name == DW_AT_ranges) xs →
    find (λ (a : Attr). a.name == DW_AT_ranges) ys ≡ o
named o xs ys same e = ap (λ (l : List Attr). find (λ (a : Attr). a.name == DW_AT_ranges) l) same ∙ sym e

pub returns-in-Some : goal.returns-in-Some
returns-in-Some c = λ s u e same b r n k.
    let bounds : bounds_of s.units.addr u e ≡ Some (range_of c.in-Some.bounds) =
    ap (λ (l : List ℕ). bounds_of l u e) (sym r.section) ∙ sym (c.bounds.ensures u e r.addresses same)
    ∙ ap (option_map range_of) c.in-Some.is in
    let ls : List Located = record { range = Some (range_of c.in-Some.bounds); expression = [] } ∷ [] in
    let grow = group_added c.args.groups.now c.keep_group.new.groups ls n c.in_ok-group.ensures.count c.in_ok-group.ensures.covers
    c.in_ok-group.ensures.firsts in (
      grow,
      still_known (range_list s u) c.args.groups.now c.keep_group.new.groups c.args.known.now grow k,
      subst (λ (o : Option (List Range)). HasRanges c.keep_group.new.groups (Some c.in_ok-group.group) o) (sym (own_bounds s u e (range_of
          c.in-Some.bounds) bounds))
          (subst (λ (m : ℕ). HasRanges c.keep_group.new.groups (Some m) (Some (range_of c.in-Some.bounds ∷ []))) (sym
          c.in_ok-group.ensures.number)
          (group_has c.args.groups.now c.keep_group.new.groups ls n c.in_ok-group.ensures.count c.in_ok-group.ensures.covers
          c.in_ok-group.ensures.firsts)),
    )

pub returns-in_default-attr_named : goal.returns-in_default-attr_named
returns-in_default-attr_named c = λ s u e same b r n k.
    let unbounded : bounds_of s.units.addr u e ≡ None =
    ap (λ (l : List ℕ). bounds_of l u e) (sym r.section) ∙ sym (c.bounds.ensures u e r.addresses same)
    ∙ ap (option_map range_of) c.in_default.is in
    let none : attr DW_AT_ranges e ≡ None =
    named (option_copied c.attr_named.result) c.args.attrs.now e.attrs same c.attr_named.ensures
    ∙ ap option_copied c.in_default-attr_named.is in (
      grow_none c.args.groups.now n,
      k,
      subst (λ (o : Option (List Range)). HasRanges c.args.groups.now None o) (sym (own_list s u e unbounded ∙ ap (listed_ranges s u) none))
          (none_has c.args.groups.now),
    )

pub returns-in-Some-list_offset : goal.returns-in-Some-list_offset
returns-in-Some-list_offset c = λ s u e same b r n k.
    let a : Attr = c.in-Some-attr_named.named.now in
    let at : ℕ = c.in-Some-list_offset.at in
    let unbounded : bounds_of s.units.addr u e ≡ None =
    ap (λ (l : List ℕ). bounds_of l u e) (sym r.section) ∙ sym (c.bounds.ensures u e r.addresses same)
    ∙ ap (option_map range_of) c.in_default.is in
    let there : attr DW_AT_ranges e ≡ Some a =
    named (option_copied c.attr_named.result) c.args.attrs.now e.attrs same c.attr_named.ensures
    ∙ ap option_copied c.in-Some-attr_named.is in
    let offset : list_offset ranges_kind s.ranges u a ≡ Some at =
    ap (λ (l : List ℕ). list_offset ranges_kind l u a) (sym b) ∙ sym (c.list_offset.ensures u r.lists) ∙ c.in-Some-list_offset.is in
    let ranges : ranges_of s u e ≡ option_map ranges_in (range_list s u at) =
    own_list s u e unbounded ∙ ap (listed_ranges s u) there ∙ of_offset s u a (Some at) offset in
    IfOk-weaker c.group_at.result _ _ (λ group looked. (
      looked.grow,
      looked.known_are,
      subst (λ (o : Option (List Range)). HasRanges c.group_at.new.groups group o) (sym ranges) looked.is.ranges,
    )) (c.group_at.ensures s u b r n k)

pub returns-in-None : goal.returns-in-None
returns-in-None c = λ s u e same b r n k.
    let a : Attr = c.in-Some-attr_named.named.now in
    let unbounded : bounds_of s.units.addr u e ≡ None =
    ap (λ (l : List ℕ). bounds_of l u e) (sym r.section) ∙ sym (c.bounds.ensures u e r.addresses same)
    ∙ ap (option_map range_of) c.in_default.is in
    let there : attr DW_AT_ranges e ≡ Some a =
    named (option_copied c.attr_named.result) c.args.attrs.now e.attrs same c.attr_named.ensures
    ∙ ap option_copied c.in-Some-attr_named.is in
    let offset : list_offset ranges_kind s.ranges u a ≡ None =
    ap (λ (l : List ℕ). list_offset ranges_kind l u a) (sym b) ∙ sym (c.list_offset.ensures u r.lists) ∙ c.in-None.is in (
      grow_none c.args.groups.now n,
      k,
      subst (λ (o : Option (List Range)). HasRanges c.args.groups.now None o)
          (sym (own_list s u e unbounded ∙ ap (listed_ranges s u) there ∙ of_offset s u a None offset)) (none_has c.args.groups.now),
    )

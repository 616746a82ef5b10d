-- The answers by the groups of ranges that contain an address are the answers at the address.
use Rattle.std.proofs.Common.{◌≡◌, ◌∙◌, ◌++◌, ℕ, Bool, true, false, List, [], ◌∷◌, refl, ap, filter, map}
use Rattle.std.specs.Prelude.{flat_map, if◌then◌else◌}
use Rattle.std.specs.BTreeSet.{BTreeSet, contains}
use Rattle.std.specs.Ordering.{nat_cmp}
use Rattle.std.proofs.lemmas.List.Concat.{flat_map_single}
use Rattle.cover_lists.specs.declared.cover_tree.Cover.{Cover}
use Rattle.cover_lists.specs.declared.groups.RangedEntry.{RangedEntry}
use Rattle.cover_lists.specs.declared.kept_list.KeptList.{KeptList}
use Rattle.cover_lists.specs.Groups.{group_holds, held_places}
use Rattle.list_units.specs.UnitLocations.{all_located, located_says}
use Rattle.list_units.specs.declared.located_attr.LocatedAttr.{LocatedAttr}
use Rattle.range_loc_rewrite.specs.OneAddress.{place_if, said_if}

-- The elements that pass a test.
flat_if : {X A : Type 0} (test : X → Bool) (f : X → List A) (xs : List X) →
    flat_map (λ (x : X). if test x then f x else []) xs ≡ flat_map f (filter test xs)
flat_if test f [] = refl
flat_if test f (x ∷ xs) = by (test x) (flat_if test f xs) where
  by : (b : Bool) → flat_map (λ x. if test x then f x else []) xs ≡ flat_map f (filter test xs) →
      (if b then f x else []) ++ flat_map (λ x. if test x then f x else []) xs
      ≡ flat_map f (if b then x ∷ filter test xs else filter test xs)
  by true e = ap (λ l. f x ++ l) e
  by false e = e

module _ (covers : List Cover) (found : BTreeSet ℕ) (a : ℕ) (same : (g : ℕ) → contains nat_cmp found g ≡ group_holds covers g a) where
  pub covers_are : (ranged : List RangedEntry) → flat_map (place_if found) ranged ≡ held_places covers ranged a
  covers_are ranged =
      flat_if (λ (r : RangedEntry). contains nat_cmp found r.group) (λ (r : RangedEntry). r.place ∷ []) ranged
      ∙ flat_map_single (λ (r : RangedEntry). r.place) (filter (λ (r : RangedEntry). contains nat_cmp found r.group) ranged)
      ∙ (λ i. map (λ (r : RangedEntry). r.place) (filter (λ (r : RangedEntry). same r.group i) ranged))

  pub places_are : (lists : List KeptList) (located : List LocatedAttr) →
      flat_map (said_if found lists a) located ≡ all_located covers lists located a
  places_are lists located =
      flat_if (λ (l : LocatedAttr). contains nat_cmp found l.group) (located_says lists a) located
      ∙ (λ i. flat_map (located_says lists a) (filter (λ (l : LocatedAttr). same l.group i) located))

-- A unit joins those that share a table.
use Rattle.std.proofs.Common.{◌≡◌, ◌∙◌, ◌+◌, ◌<◌, ◌≤◌, ◌≢◌, ◌++◌, ◌∷◌, [], ℕ, zero, suc, Bool, true, false, List, Option, Some, None}
use Rattle.std.proofs.Common.{BTreeMap, nat_cmp, refl}
use Rattle.std.proofs.Common.{zero-add, sym, ap, subst, arith, length, take, drop, get_or, ⊎_elim}
use Rattle.std.specs.Prelude.{Contains}
use Rattle.std.specs.BTreeMap.{get, IsEmpty}
use Rattle.std.proofs.lemmas.Grind.{common_steps}
use Rattle.std.proofs.lemmas.List.{length-drop, take_more}
use Rattle.rb_bytes.proofs.Members.{Contains-nil}
use Rattle.rb_bytes.proofs.Options.{same_some}
use Rattle.dw_lists.specs.declared.indexed_unit.IndexedUnit.{IndexedUnit}
use Rattle.dw_lists.specs.declared.list_kind.ListKind.{ListKind}
use Rattle.dw_lists.specs.declared.named_list.NamedList.{NamedList}
use Rattle.list_writer.specs.TableGroups.{AreClaimed, AreOf, IsClaim, IsGroup, StayUsed}
use Rattle.list_writer.specs.WrittenTables.{AreApart, AreLeft, IsOwned, keys_end, units_end}
use Rattle.list_writer.proofs.PutEntries.{contains_behind, contains_more, contains_split, contains_still, none_there}
use Rattle.list_writer.proofs.UnitSteps.{Next, next_own, one_group, order_back, owns_back, owns_from, split_is, taken_own, units_back}

-- Claims

-- The claims for some of the attributes.
pub record AreClaimedSoFar (own : ℕ) (entries : List NamedList) (old new : BTreeMap ℕ ℕ) : Type 0 where
  pub stay : StayUsed old new
  pub claimed : (r : NamedList) (i : ℕ) → Contains entries r → r.index ≡ Some i → get nat_cmp new i ≡ Some own
  pub still : AreOf own old → AreOf own new

pub none_claimed : (own : ℕ) (used : BTreeMap ℕ ℕ) → AreClaimedSoFar own [] used used
none_claimed own used = record { stay = λ i o e. e; claimed = λ r i c e. absurd (Contains-nil r c); still = λ are. are }

pub one_claimed : (own : ℕ) (rs : List NamedList) (i : ℕ) (d : NamedList) (old mid new : BTreeMap ℕ ℕ) (free : Bool) → i < length rs →
    AreClaimedSoFar own (take i rs) old mid → IsClaim own (get_or rs i d).index mid new free → free ≡ true →
    AreClaimedSoFar own (take (i + 1) rs) old new
one_claimed own rs i d old mid new free h before c is =
    subst (λ (l : List NamedList). AreClaimedSoFar own l old new) (sym (take_more rs i d h)) (record {
      stay = λ k o e. c.stay k o (before.stay k o e);
      claimed = λ r k there e. ⊎_elim
          (λ (old_one : Contains (take i rs) r). c.stay k own (before.claimed r k old_one e))
          (λ (same : get_or rs i d ≡ r). c.claimed is k (ap (λ (q : NamedList). q.index) same ∙ e))
          (contains_more (take i rs) (get_or rs i d) r there);
      still = λ are. c.still (before.still are);
    })

pub not_claimed : (own : ℕ) (entries rs : List NamedList) (old mid new : BTreeMap ℕ ℕ) (index : Option ℕ) (free : Bool) →
    AreClaimedSoFar own rs old mid → IsClaim own index mid new free → free ≡ false → AreClaimed own entries old new false
not_claimed own entries rs old mid new index free before c is = record {
  stay = λ k o e. c.stay k o (before.stay k o e);
  claimed = λ no. absurd (cc);
  alone = λ are. sym is ∙ c.alone (before.still are);
}

pub all_claimed : (own : ℕ) (entries : List NamedList) (old new : BTreeMap ℕ ℕ) → AreClaimedSoFar own entries old new →
    AreClaimed own entries old new true
all_claimed own entries old new c = record { stay = c.stay; claimed = λ is. c.claimed; alone = λ are. refl }

-- Groups

wider : (xs ys : List IndexedUnit) (r : NamedList) → IsOwned xs r → IsOwned (xs ++ ys) r
wider xs ys r w = record { x = w.x; there = contains_still xs ys w.x w.there; own = w.own; index = w.index }

module _ (kind : ListKind) (lo bound : ℕ) (front mine behind : List NamedList) (before later : List IndexedUnit) (x : IndexedUnit)
    (left : AreLeft kind lo bound (front ++ (mine ++ behind)) (before ++ x ∷ later))
    (g : IsGroup front (mine ++ behind) before (x ∷ later)) (own : (r : NamedList) → Contains mine r → r.own ≡ x.own)
    (next : Next x.own behind) where
  inner : AreLeft kind (keys_end lo front) (units_end bound before) (mine ++ behind) (x ∷ later)
  inner =
      let back = owns_back 0 front (mine ++ behind) left.owns in record {
        order = order_back kind lo front (mine ++ behind) left.order;
        owns = owns_from back.0 (mine ++ behind) back.1;
        rise = units_back bound before (x ∷ later) left.rise;
        owned = g.later_owned;
      }

  one : IsGroup mine behind (x ∷ []) later
  one = one_group kind (keys_end lo front) (units_end bound before) mine behind x later inner own next

  group_more : AreApart (front ++ mine) → IsGroup (front ++ mine) behind (before ++ x ∷ []) later
  group_more apart = record {
    owned = λ r c. ⊎_elim
        (λ (there : Contains front r). wider before (x ∷ []) r (g.owned r there))
        (λ (there : Contains mine r).
        let w = one.owned r there in
        record { x = w.x; there = contains_behind before (x ∷ []) w.x w.there; own = w.own; index = w.index })
        (contains_split front mine r c);
    later_owned = one.later_owned;
    apart = apart;
  }

-- No index is of two units, if each is claimed for one.
abbrev pub AreUsed : List NamedList → BTreeMap ℕ ℕ → Type 0
AreUsed entries used = (r : NamedList) (i : ℕ) → Contains entries r → r.index ≡ Some i → get nat_cmp used i ≡ Some r.own

used_apart : (entries : List NamedList) (used : BTreeMap ℕ ℕ) → AreUsed entries used → AreApart entries
used_apart entries used are r q i c d e f = same_some (get nat_cmp used i) r.own q.own (are r i c e) (are q i d f)

used_more : (front mine : List NamedList) (own : ℕ) (old new : BTreeMap ℕ ℕ) → AreUsed front old →
    ((r : NamedList) → Contains mine r → r.own ≡ own) → AreClaimed own mine old new true → AreUsed (front ++ mine) new
used_more front mine own old new are owned c r i there e = ⊎_elim
    (λ (a : Contains front r). c.stay i r.own (are r i a e))
    (λ (b : Contains mine r). c.claimed refl r i b e ∙ ap (λ (n : ℕ). Some n) (sym (owned r b)))
    (contains_split front mine r there)

taken_len : (xs : List NamedList) (n : ℕ) → n ≤ length xs → length (take n xs) ≡ n
taken_len xs n h = grind (arith, common_steps)

take_nil : {X : Type 0} (n : ℕ) → take {A = X} n [] ≡ []
take_nil zero = refl
take_nil (suc n) = refl

take_plus : {X : Type 0} (n k : ℕ) (xs : List X) → take (n + k) xs ≡ take n xs ++ take k (drop n xs)
take_plus zero k xs = ap (λ (m : ℕ). take m xs) (zero-add k)
take_plus (suc n) k [] = take_nil (suc n + k) ∙ sym (take_nil k)
take_plus (suc n) k (x ∷ xs) =
    let e : suc n + k ≡ suc (n + k) = omega arith in
    ap (λ (m : ℕ). take m (x ∷ xs)) e ∙ ap (λ l. x ∷ l) (take_plus n k xs)

drop_plus : {X : Type 0} (n k : ℕ) (xs : List X) → drop (n + k) xs ≡ drop k (drop n xs)
drop_plus n k xs = grind (arith, common_steps)

drop_one : {X : Type 0} (n : ℕ) (xs : List X) (d : X) → n < length xs → drop n xs ≡ get_or xs n d ∷ drop (n + 1) xs
drop_one n xs d h = grind (arith, common_steps)

-- Units at the front share a table.
pub record IsShared (units : List IndexedUnit) (entries : List NamedList) (n taken : ℕ) (used : BTreeMap ℕ ℕ) : Type 0 where
  pub within : taken ≤ length entries
  pub used_are : AreUsed (take taken entries) used
  pub empty : n ≡ 0 → IsEmpty used
  pub group : (kind : ListKind) (lo bound : ℕ) → AreLeft kind lo bound entries units →
      IsGroup (take taken entries) (drop taken entries) (take n units) (drop n units)

pub none_shared : (units : List IndexedUnit) (entries : List NamedList) (used : BTreeMap ℕ ℕ) → IsEmpty used →
    IsShared units entries 0 0 used
none_shared units entries used empty = record {
  within = omega arith;
  used_are = λ r i c e. absurd (Contains-nil r c);
  empty = λ e. empty;
  group = λ kind lo bound left. record {
    owned = λ r c. absurd (Contains-nil r c);
    later_owned = left.owned;
    apart = λ r q i c d e f. absurd (Contains-nil r c);
  };
}

-- One more unit.
module _ (units : List IndexedUnit) (entries : List NamedList) (n taken len : ℕ) (old new : BTreeMap ℕ ℕ) (d : IndexedUnit)
    (rest mine : List NamedList) (s : IsShared units entries n taken old) (h : n < length units) (rest_is : rest ≡ drop taken entries)
    (mine_is : mine ≡ take len rest) (fits : len ≤ length rest)
    (same : (k : ℕ) (e : NamedList) → k < len → (get_or rest k e).own ≡ (get_or units n d).own)
    (next : (e : NamedList) → len < length rest → (get_or rest len e).own ≢ (get_or units n d).own)
    (c : AreClaimed (get_or units n d).own mine old new true) where
  abbrev x : IndexedUnit
  x = get_or units n d

  abbrev front : List NamedList
  front = take taken entries

  abbrev behind : List NamedList
  behind = drop len rest

  size : length mine ≡ len
  size = ap length mine_is ∙ taken_len rest len fits

  taken_are : take (taken + length mine) entries ≡ front ++ mine
  taken_are =
      take_plus taken (length mine) entries
      ∙ ap (λ (l : List NamedList). front ++ l) ((λ i. take (size i) (sym rest_is i)) ∙ sym mine_is)

  behind_are : drop (taken + length mine) entries ≡ behind
  behind_are = drop_plus taken (length mine) entries ∙ (λ i. drop (size i) (sym rest_is i))

  owned : (r : NamedList) → Contains mine r → r.own ≡ x.own
  owned r there = taken_own rest len x.own same fits r (subst (λ (l : List NamedList). Contains l r) mine_is there)

  rest_split : drop taken entries ≡ mine ++ behind
  rest_split = sym rest_is ∙ split_is rest len ∙ ap (λ (l : List NamedList). l ++ behind) (sym mine_is)

  used_now : AreUsed (front ++ mine) new
  used_now = used_more front mine x.own old new s.used_are owned c

  pub one_shared : IsShared units entries (n + 1) (taken + length mine) new
  one_shared = record {
    within = let a = s.within in let b = length-drop taken entries in let e = ap length rest_is in
        omega (arith, a, b, e, size, fits);
    used_are = subst (λ (l : List NamedList). AreUsed l new) (sym taken_are) used_now;
    empty = λ e. absurd (omega (arith, e));
    group = λ kind lo bound left.
        let entries_are : entries ≡ front ++ (mine ++ behind) =
        split_is entries taken ∙ ap (λ (l : List NamedList). front ++ l) rest_split in
        let units_are : units ≡ take n units ++ x ∷ drop (n + 1) units =
        split_is units n ∙ ap (λ (l : List IndexedUnit). take n units ++ l) (drop_one n units d h) in
        let inside : AreLeft kind lo bound (front ++ (mine ++ behind)) (take n units ++ x ∷ drop (n + 1) units) =
        subst (λ (us : List IndexedUnit). AreLeft kind lo bound (front ++ (mine ++ behind)) us) units_are
        (subst (λ (rs : List NamedList). AreLeft kind lo bound rs units) entries_are left) in
        let g : IsGroup front (mine ++ behind) (take n units) (x ∷ drop (n + 1) units) =
        subst (IsGroup front (mine ++ behind) (take n units)) (drop_one n units d h)
        (subst (λ (l : List NamedList). IsGroup front l (take n units) (drop n units)) rest_split (s.group kind lo bound left)) in
        let more = group_more kind lo bound front mine behind (take n units) (drop (n + 1) units) x inside g owned
        (next_own rest len x.own next) (used_apart (front ++ mine) new used_now) in
        subst (λ (us : List IndexedUnit). IsGroup (take (taken + length mine) entries) (drop (taken + length mine) entries) us
        (drop (n + 1) units)) (sym (take_more units n d h))
        (subst (λ (l : List NamedList). IsGroup l (drop (taken + length mine) entries) (take n units ++ x ∷ []) (drop (n + 1) units))
        (sym taken_are)
        (subst (λ (l : List NamedList). IsGroup (front ++ mine) l (take n units ++ x ∷ []) (drop (n + 1) units)) (sym behind_are) more));
  }

-- The first unit claims all of its indexes.
pub not_first : (units : List IndexedUnit) (entries mine : List NamedList) (n taken own : ℕ) (old new : BTreeMap ℕ ℕ) (free : Bool) →
    IsShared units entries n taken old → AreClaimed own mine old new free → free ≡ false → 0 < n
not_first units entries mine zero taken own old new free s c is =
    absurd (let e : false ≡ true = sym is ∙ c.alone nothing in cc)
  where
    nothing : AreOf own old
    nothing i o f = let g : None ≡ Some o = sym (none_there old i (s.empty refl)) ∙ f in absurd (cc)
not_first units entries mine (suc n) taken own old new free s c is = omega arith

-- Lists that are written one after another into the body of a table.
use Rattle.std.proofs.Common.{◌≡◌, ◌≢◌, ◌∙◌, ◌++◌, ◌∷◌, [], ℕ, Bool, List, Some, BTreeMap, nat_cmp, zero, suc, map, refl, sym, ap, subst}
use Rattle.std.proofs.Common.{arith, length, cond, ⊎_elim, append_assoc, append-nil}
use Rattle.std.specs.Prelude.{slice_get}
use Rattle.std.specs.BTreeMap.{get, is_at}
use Rattle.std.specs.Global.{Vec}
use Rattle.std.specs.Option.{option_map_or}
use Rattle.std.proofs.lemmas.Bool.{cases_eq}
use Rattle.std.proofs.lemmas.Grind.{common_steps}
use Rattle.list_writer.specs.WrittenTables.{bytes_in, Begins, AreListed, IsLonger, IsListed}

pub longer_begins : (old new : List ℕ) (o : ℕ) (part : List ℕ) → IsLonger old new → Begins old o part → Begins new o part
longer_begins old new o part l b = record {
  before = b.before;
  more = b.more ++ l.more;
  is = l.is ∙ ap (λ (x : List ℕ). x ++ l.more) b.is ∙ append_assoc b.before (part ++ b.more) l.more
      ∙ ap (λ (x : List ℕ). b.before ++ x) (append_assoc part b.more l.more);
  at = b.at;
}

pub at_key : (k q : ℕ) → k ≢ q → is_at (nat_cmp k) q ≡ Bool.false
at_key k q ne = grind (arith, common_steps)

pub at_same : (k : ℕ) → is_at (nat_cmp k) k ≡ Bool.true
at_same k = grind (arith, common_steps)

pub same_some : (o p : ℕ) → Some o ≡ Some p → o ≡ p
same_some o p e = cc

module _ (lists : List (Vec ℕ)) (old new : List ℕ) (known more : BTreeMap ℕ ℕ) (number : ℕ) (listed : AreListed lists old known) where
  pub list_more : new ≡ old ++ bytes_in lists number → ((q : ℕ) → get nat_cmp more q ≡ cond (is_at (nat_cmp number) q) (Some (length old))
      (get nat_cmp known q)) →
      IsListed lists number (length old) old new more
  list_more made inserted = record { longer = longer; listed = again; begins = here }
    where
      longer : IsLonger old new
      longer = record { more = bytes_in lists number; is = made }

      here : Begins new (length old) (bytes_in lists number)
      here = record {
        before = old;
        more = [];
        is = made ∙ ap (λ (x : List ℕ). old ++ x) (sym (append-nil (bytes_in lists number)));
        at = refl;
      }

      again : AreListed lists new more
      again g o e = ⊎_elim
          (λ (same : number ≡ g).
          let is : Some (length old) ≡ Some o =
          sym (inserted g ∙ ap (λ (b : Bool). cond b (Some (length old)) (get nat_cmp known g)) (ap (is_at (nat_cmp number)) (sym same)
          ∙ at_same number)) ∙ e in
          subst (λ (n : ℕ). Begins new n (bytes_in lists g)) (same_some (length old) o is)
          (subst (λ (k : ℕ). Begins new (length old) (bytes_in lists k)) same here))
          (λ (ne : number ≢ g).
          longer_begins old new o (bytes_in lists g) longer
          (listed g o (sym (inserted g ∙ ap (λ (b : Bool). cond b (Some (length old)) (get nat_cmp known g)) (at_key number g ne)) ∙ e)))
          (cases_eq number g)

-- The bytes of a list, from lists that were spelled one by one.
pub bytes_at : {X : Type 0} (f : X → List ℕ) (bs : List (Vec ℕ)) (xs : List X) (n : ℕ) → map (λ (b : Vec ℕ). b.items) bs ≡ map f xs →
    bytes_in bs n ≡ option_map_or f (slice_get xs n) []
bytes_at f [] [] n e = refl
bytes_at f [] (x ∷ xs) n e = absurd (cc)
bytes_at f (b ∷ bs) [] n e = absurd (cc)
bytes_at f (b ∷ bs) (x ∷ xs) zero e = same_head b.items (f x) (map (λ (b : Vec ℕ). b.items) bs) (map f xs) e
  where
    same_head : (x y : List ℕ) (xs ys : List (List ℕ)) → x ∷ xs ≡ y ∷ ys → x ≡ y
    same_head x y xs ys e = cc
bytes_at f (b ∷ bs) (x ∷ xs) (suc n) e = bytes_at f bs xs n (same_rest b.items (f x) (map (λ (b : Vec ℕ). b.items) bs) (map f xs) e)
  where
    same_rest : (x y : List ℕ) (xs ys : List (List ℕ)) → x ∷ xs ≡ y ∷ ys → xs ≡ ys
    same_rest x y xs ys e = cc

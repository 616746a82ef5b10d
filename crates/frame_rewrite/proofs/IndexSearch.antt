-- A search in an index finds the entry that holds an address.
use Rattle.std.proofs.Common.{ℕ, zero, suc, ◌≤◌, ◌<◌, ◌≡◌, ◌&&◌, ◌⊎◌, inl, inr, List, [], ◌∷◌, Option, Some, None, leb, ltb, Bool}
use Rattle.std.proofs.Common.{true, false, refl, sym, ◌∙◌, ap, subst, arith, filter, cond, get_or}
use Rattle.std.specs.Prelude.{All, AllPairs, Contains, IsPermutation}
use Rattle.std.specs.List.{last_or}
use Rattle.std.proofs.lemmas.Bool.Decides.{nat_tests}
use Rattle.std.proofs.lemmas.List.Elements.{All-head, All-tail}
use Rattle.std.proofs.lemmas.List.Sorted.{All-permutation, Contains-permutation}
use Rattle.rb_bytes.proofs.Members.{Contains-nil, Contains-cons_cases}
use Rattle.rb_bytes.proofs.Permuted.{AllPairs-permutation}
use Rattle.cfi_rows.specs.Entries.{Fde, is_in_range}
use Rattle.frame_rewrite.specs.Index.{AreApart, AreFilled, ShareNoAddress, last_from}

abbrev Rise : List Fde → Type 0
Rise list = AllPairs (λ f g. f.start ≤ g.start) list

-- after the entry that holds an address none begins at it or below
module _ (a : ℕ) where
  abbrev begins : Fde → Bool
  begins g = leb g.start a

  none-behind : (o : Option Fde) (gs : List Fde) → All (λ g. begins g ≡ false) gs → last_or o (filter begins gs) ≡ o
  none-behind o [] h = refl
  none-behind o (g ∷ gs) h =
      ap (λ (b : Bool). last_or o (cond b (g ∷ filter begins gs) (filter begins gs))) (All-head (λ g. begins g ≡ false) g gs h)
      ∙ none-behind o gs (All-tail (λ g. begins g ≡ false) g gs h)

  is-behind : (f g : Fde) → is_in_range f a ≡ true → f.start ≤ g.start → ShareNoAddress f g → g.start < g.end
      → begins g ≡ false
  is-behind f g holds le apart some = by (leb g.start a) refl where
    first : (s e : ℕ) → s < e → (leb s s && ltb s e) ≡ true
    first s e h = grind (arith, nat_tests)

    between : (s e b : ℕ) → (leb s a && ltb a e) ≡ true → s ≤ b → leb b a ≡ true → (leb s b && ltb b e) ≡ true
    between s e b t h u = grind (arith, nat_tests)

    by : (b : Bool) → leb g.start a ≡ b → leb g.start a ≡ false
    by true t = absurd (apart g.start (between f.start f.end g.start holds le t) (first g.start g.end some))
    by false t = t

  finds : (f : Fde) (o : Option Fde) (list : List Fde) → is_in_range f a ≡ true → Rise list → AreApart list → AreFilled list
      → Contains list f → last_or o (filter begins list) ≡ Some f
  finds f o [] holds rise apart some c = absurd (Contains-nil f c)
  finds f o (g ∷ gs) holds rise apart some c =
      either (Contains-cons_cases g gs f c)
      (λ p. finds f p gs holds (λ i j d less inside. rise (suc i) (suc j) d (omega arith) (omega arith))
      (λ i j d less inside. apart (suc i) (suc j) d (omega arith) (omega arith)) (All-tail (λ (x : Fde). x.start < x.end) g gs some)) where
        started : (s e : ℕ) → (leb s a && ltb a e) ≡ true → leb s a ≡ true
        started s e t = grind (arith, nat_tests)

        later : g ≡ f → All (λ x. begins x ≡ false) gs
        later same k d inside =
            is-behind g (get_or gs k d) (subst (λ (x : Fde). is_in_range x a ≡ true) (sym same) holds)
            (rise zero (suc k) d (omega arith) (omega arith))
            (apart zero (suc k) d (omega arith) (omega arith)) (All-tail (λ (x : Fde). x.start < x.end) g gs some k d inside)

        by : (b : Bool) → leb g.start a ≡ b → ((p : Option Fde) → Contains gs f → last_or p (filter begins gs) ≡ Some f)
            → Contains gs f → last_or o (cond b (g ∷ filter begins gs) (filter begins gs)) ≡ Some f
        by true t more there = more (Some g) there
        by false t more there = more o there

        either : (g ≡ f) ⊎ Contains gs f → ((p : Option Fde) → Contains gs f → last_or p (filter begins gs) ≡ Some f)
            → last_or o (filter begins (g ∷ gs)) ≡ Some f
        either (inl same) more =
            ap (λ (b : Bool). last_or o (cond b (g ∷ filter begins gs) (filter begins gs)))
            (started g.start g.end (subst (λ (x : Fde). is_in_range x a ≡ true) (sym same) holds))
            ∙ none-behind (Some g) gs (later same) ∙ ap (λ (x : Fde). Some x) same
        either (inr there) more = by (leb g.start a) refl more there

pub leads-to : (list sorted : List Fde) → IsPermutation list sorted → Rise sorted → AreApart list → AreFilled list
    → (f : Fde) (a : ℕ) → Contains list f → is_in_range f a ≡ true → last_from sorted a ≡ Some f
leads-to list sorted same rise apart some f a c holds =
    finds a f None sorted holds rise
    (AllPairs-permutation ShareNoAddress (λ x y h b p q. h b q p) list sorted same apart)
    (All-permutation (λ (x : Fde). x.start < x.end) list sorted same some) (Contains-permutation list sorted f same c)

-- The sweep over the fields that can be cells.
use Rattle.std.proofs.Common.{◌≡◌, ◌∙◌, sym, subst, ap, refl, ℕ, ◌+◌, ◌<◌, ◌≤◌, ◌⊎◌, inl, inr, ⊎_elim, true, false}
use Rattle.std.proofs.Common.{List, [], ◌∷◌, ◌++◌, length, slice_index_or, arith}
use Rattle.std.proofs.lemmas.Int.{ints}
use Rattle.std.proofs.lemmas.List.{get_or_default}
use Rattle.std.specs.List.{Contains, AllPairs}
use Rattle.std.proofs.lemmas.Bool.{cases_lt}
use Rattle.std.proofs.lemmas.List.Elements.{Contains-append_left, Contains-push, Contains-push_cases}
use Rattle.std.proofs.lemmas.List.Quantifiers.{all_pairs_push}
use Rattle.elf_image.specs.declared.elf.Elf.{Elf}
use Rattle.elf_code.specs.Cells.{Field, Content, Address, Difference, CanBeCell, Counts, counts, gives_way, IsContentBefore, IsFieldBefore}
use Rattle.elf_code.proofs.Counts.{can_of, no_both}
use Rattle.rv_reloc.specs.CountedFields.{IsFieldUpTo, AreCandidates, AreCounted}

-- The order is strict.

content_one_way : (c d : Content) → IsContentBefore c d → IsContentBefore d c → ⊥
content_one_way (Address to) (Address to') is back = is
content_one_way (Address to) (Difference to' from') is back = back
content_one_way (Difference to from) (Address to') is back = is
content_one_way (Difference to from) (Difference to' from') (inl less) (inl more) = omega (arith, ints)
content_one_way (Difference to from) (Difference to' from') (inl less) (inr (same, more)) = omega (arith, ints)
content_one_way (Difference to from) (Difference to' from') (inr (same, less)) (inl more) = omega (arith, ints)
content_one_way (Difference to from) (Difference to' from') (inr (same, less)) (inr (same', more)) = omega (arith, ints)

pub one_way : (f g : Field) → IsFieldBefore f g → IsFieldBefore g f → ⊥
one_way f g (inl lower) (inl higher) = omega arith
one_way f g (inl lower) (inr (same, rest)) = omega arith
one_way f g (inr (same, rest)) (inl higher) = omega arith
one_way f g (inr (same, inl wider)) (inr (same', inl wider')) = omega arith
one_way f g (inr (same, inl wider)) (inr (same', inr (width, rest))) = omega arith
one_way f g (inr (same, inr (width, rest))) (inr (same', inl wider)) = omega arith
one_way f g (inr (same, inr (width, is))) (inr (same', inr (width', back))) = content_one_way f.content g.content is back

not_back : (x g : Field) → IsFieldBefore g x → IsFieldUpTo x g → ⊥
not_back x g before (inl after) = one_way g x before after
not_back x g before (inr same) =
    one_way g g (subst (λ (h : Field). IsFieldBefore g h) same before) (subst (λ (h : Field). IsFieldBefore g h) same before)

pub not_above : (f g : Field) → IsFieldBefore f g → f.place ≤ g.place
not_above f g (inl lower) = omega arith
not_above f g (inr (same, rest)) = omega arith

-- No field both counts and doesn't count.

pub counts_once : {elf : Elf} {tabled : List (ℕ × ℕ)} (f : Field) → Counts elf tabled f true → Counts elf tabled f false → ⊥
counts_once f wins gives = no_both f true wins gives

-- The sweep.

abbrev pub Earlier : List Field → ℕ → Field → Type 0
Earlier fields i f = (k : ℕ) × (k < i) × (slice_index_or fields k f ≡ f)

-- The first fields are done: those that count are kept, and end at or before a bound.
pub record IsSweptTo (elf : Elf) (tabled : List (ℕ × ℕ)) (fields : List Field) (i : ℕ) (kept : List Field)
    (reach : ℕ) : Type 0 where
  pub judged : (f : Field) → Earlier fields i f → Contains kept f ⊎ Counts elf tabled f false
  pub counted : (f : Field) → Contains kept f → Counts elf tabled f true
  pub earlier : (f : Field) → Contains kept f → Earlier fields i f
  pub below : (f : Field) → Contains kept f → f.place + f.width ≤ reach
  pub reached : (reach ≡ 0) ⊎ ((f : Field) × Contains kept f × (f.place + f.width ≡ reach))
  pub ordered : AllPairs (λ f g. f.place + f.width ≤ g.place) kept

no_field : (f : Field) → Contains [] f → ⊥
no_field f (k, within, is) = omega arith

pub IsSweptTo-begin : (elf : Elf) (tabled : List (ℕ × ℕ)) (fields : List Field) → IsSweptTo elf tabled fields 0 [] 0
IsSweptTo-begin elf tabled fields = record {
  judged = λ f (k, below, is). absurd (omega arith);
  counted = λ f is. absurd (no_field f is);
  earlier = λ f is. absurd (no_field f is);
  below = λ f is. absurd (no_field f is);
  reached = inl refl;
  ordered = λ i j d less within. absurd (omega arith);
}

-- A field that is before the field with index i has a lower index.
earlier_if_before : (elf : Elf) (tabled : List (ℕ × ℕ)) (fields : List Field) (i : ℕ) (x g : Field) →
    AreCandidates elf tabled fields →
    i < length fields → x ≡ slice_index_or fields i x → CanBeCell elf tabled g → IsFieldBefore g x → Earlier fields i g
earlier_if_before elf tabled fields i x g are within is can before =
    let (k, inside, there) = are.each g can in
    let same : slice_index_or fields k x ≡ g = get_or_default fields k x g inside ∙ there in
    ⊎_elim
    (λ (less : k < i). (k, less, there))
    (λ (more : i ≤ k). ⊎_elim
    (λ (above : i < k). absurd
    (not_back x g before
    (subst (λ (h : Field). IsFieldUpTo x h) same
    (subst (λ (h : Field). IsFieldUpTo h (slice_index_or fields k x)) (sym is) (are.ordered i k x above inside)))))
    (λ (not_above : k ≤ i). let e : k ≡ i = omega arith in
    let g_is : g ≡ x = sym same ∙ ap (λ (j : ℕ). slice_index_or fields j x) e ∙ sym is in
    absurd
    (one_way x x (subst (λ (h : Field). IsFieldBefore h x) g_is before) (subst (λ (h : Field). IsFieldBefore h x) g_is before)))
    (cases_lt i k))
    (cases_lt k i)

up_to_if_earlier : (elf : Elf) (tabled : List (ℕ × ℕ)) (fields : List Field) (i : ℕ) (x g : Field) →
    AreCandidates elf tabled fields → i < length fields → x ≡ slice_index_or fields i x → Earlier fields i g → IsFieldUpTo g x
up_to_if_earlier elf tabled fields i x g are within is (k, less, there) =
    let same : slice_index_or fields k x ≡ g = get_or_default fields k x g (omega arith) ∙ there in
    subst (λ (h : Field). IsFieldUpTo h x) same
    (subst (λ (h : Field). IsFieldUpTo (slice_index_or fields k x) h) (sym is) (are.ordered k i x less within))

earlier_cases : (fields : List Field) (i : ℕ) (x f : Field) → i < length fields → x ≡ slice_index_or fields i x →
    Earlier fields (i + 1) f → Earlier fields i f ⊎ (x ≡ f)
earlier_cases fields i x f within is (k, below, there) =
    ⊎_elim
    (λ (less : k < i). inl (k, less, there))
    (λ (more : i ≤ k). let e : i ≡ k = omega arith in
    inr (is ∙ get_or_default fields i x f within ∙ ap (λ (j : ℕ). slice_index_or fields j f) e ∙ there))
    (cases_lt k i)

later : (fields : List Field) (i : ℕ) (f : Field) → Earlier fields i f → Earlier fields (i + 1) f
later fields i f (k, below, there) = (k, omega arith, there)

-- A field doesn't count if an earlier field that counts reaches into it.
pub IsSweptTo-drops : (elf : Elf) (tabled : List (ℕ × ℕ)) (fields kept : List Field) (i reach : ℕ) (x : Field) →
    AreCandidates elf tabled fields → i < length fields → x ≡ slice_index_or fields i x → x.place < reach →
    IsSweptTo elf tabled fields i kept reach → IsSweptTo elf tabled fields (i + 1) kept reach
IsSweptTo-drops elf tabled fields kept i reach x are within is low to = record {
  judged = λ f early. ⊎_elim (λ before. to.judged f before)
      (λ (same : x ≡ f). subst (λ (h : Field). Contains kept h ⊎ Counts elf tabled h false) same drops)
      (earlier_cases fields i x f within is early);
  counted = to.counted;
  earlier = λ f is_in. later fields i f (to.earlier f is_in);
  below = to.below;
  reached = to.reached;
  ordered = to.ordered;
}
  where
    listed : Contains fields x
    listed = (i, within, sym is)

    gives : (g : Field) → Contains kept g → g.place + g.width ≡ reach → IsFieldUpTo g x →
        Contains kept x ⊎ Counts elf tabled x false
    gives g is_in ends (inl before) =
        let place : g.place ≤ x.place = not_above g x before in
        let bytes : 0 < x.width = are.has_bytes x listed in
        inr (gives_way x g (are.only x listed) before (omega arith, omega arith) (to.counted g is_in))
    gives g is_in ends (inr same) = inl (subst (Contains kept) same is_in)

    drops : Contains kept x ⊎ Counts elf tabled x false
    drops = ⊎_elim
        (λ (none : reach ≡ 0). absurd (omega arith))
        (λ (g, is_in, ends). gives g is_in ends (up_to_if_earlier elf tabled fields i x g are within is (to.earlier g is_in)))
        to.reached

-- A field that no kept field reaches into counts.
pub IsSweptTo-keeps : (elf : Elf) (tabled : List (ℕ × ℕ)) (fields kept : List Field) (i reach : ℕ) (x : Field) →
    AreCandidates elf tabled fields → i < length fields → x ≡ slice_index_or fields i x → reach ≤ x.place →
    IsSweptTo elf tabled fields i kept reach → IsSweptTo elf tabled fields (i + 1) (kept ++ x ∷ []) (x.place + x.width)
IsSweptTo-keeps elf tabled fields kept i reach x are within is high to = record {
  judged = λ f early. ⊎_elim
      (λ before. ⊎_elim (λ is_in. inl (Contains-append_left kept (x ∷ []) f is_in)) (λ gives. inr gives) (to.judged f before))
      (λ (same : x ≡ f). inl (subst (Contains (kept ++ x ∷ [])) same (Contains-push kept x)))
      (earlier_cases fields i x f within is early);
  counted = λ f is_in. ⊎_elim (to.counted f) (λ (same : x ≡ f). subst (λ (h : Field). Counts elf tabled h true) same wins)
      (Contains-push_cases kept x f is_in);
  earlier = λ f is_in. ⊎_elim (λ before. later fields i f (to.earlier f before))
      (λ (same : x ≡ f). subst (Earlier fields (i + 1)) same (i, omega arith, sym is)) (Contains-push_cases kept x f is_in);
  below = λ f is_in. ⊎_elim (λ before. let b = to.below f before in omega arith)
      (λ (same : x ≡ f). let p = ap (λ (h : Field). h.place + h.width) same in omega arith) (Contains-push_cases kept x f is_in);
  reached = inr (x, Contains-push kept x, refl);
  ordered = all_pairs_push (λ (f g : Field). f.place + f.width ≤ g.place) kept x to.ordered
      (λ k d inside. let b =
      to.below (slice_index_or kept k d) (k, inside, get_or_default kept k (slice_index_or kept k d) d inside) in
      omega arith);
}
  where
    listed : Contains fields x
    listed = (i, within, sym is)

    wins : Counts elf tabled x true
    wins = counts x (are.only x listed) (λ g can before share.
        ⊎_elim (λ is_in. let b = to.below g is_in in let s = share.0 in let t = share.1 in absurd (omega arith)) (λ gives. gives)
        (to.judged g (earlier_if_before elf tabled fields i x g are within is can before)))

pub IsSweptTo-all : (elf : Elf) (tabled : List (ℕ × ℕ)) (fields kept : List Field) (i reach : ℕ) →
    AreCandidates elf tabled fields → i ≡ length fields → IsSweptTo elf tabled fields i kept reach → AreCounted elf tabled kept
IsSweptTo-all elf tabled fields kept i reach are all to = record {
  only = to.counted;
  each = λ f wins.
      let (k, within, there) = are.each f (can_of wins) in
      ⊎_elim (λ is_in. is_in) (λ gives. absurd (counts_once f wins gives)) (to.judged f (k, omega arith, there));
  ordered = to.ordered;
}

-- The list after a push.
pub IsSweptTo-pushed : (elf : Elf) (tabled : List (ℕ × ℕ)) (fields kept now : List Field) (i reach : ℕ) (x : Field) → now ≡ kept
    ++ x ∷ [] → AreCandidates elf tabled fields → i < length fields → x ≡ slice_index_or fields i x → reach ≤ x.place →
    IsSweptTo elf tabled fields i kept reach → IsSweptTo elf tabled fields (i + 1) now (x.place + x.width)
IsSweptTo-pushed elf tabled fields kept now i reach x pushed are within is high to =
    subst (λ (list : List Field). IsSweptTo elf tabled fields (i + 1) list (x.place + x.width)) (sym pushed)
    (IsSweptTo-keeps elf tabled fields kept i reach x are within is high to)

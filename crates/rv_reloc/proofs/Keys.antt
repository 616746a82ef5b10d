-- The sort order of fields by place, width and content.
use Rattle.std.proofs.Common.{◌≡◌, ◌∙◌, sym, subst, ap, refl, ℕ, ◌+◌, ◌<◌, ◌≤◌, ℤ, ◌<ℤ◌, ◌⊎◌, inl, inr, ⊎_elim, true, false, List}
use Rattle.std.proofs.Common.{map, length, slice_index_or, arith}
use Rattle.std.proofs.lemmas.Cmp.{ranked, int_ranked}
use Rattle.std.proofs.lemmas.Int.{ints}
use Rattle.std.proofs.lemmas.List.{get_or-map, length-map}
use Rattle.std.specs.declared.cmp.Ordering.{Ordering}
use Rattle.std.specs.declared.cmp.Ordering.TheVariants.{Less, Equal, Greater}
use Rattle.std.specs.List.{AllPairs}
use Rattle.std.specs.Ordering.{nat_cmp, int_cmp, is_lt, ordering_then}
use Rattle.elf_code.specs.Cells as cells
use Rattle.elf_code.specs.Cells.{Field, CanBeCell}
use Rattle.rv_reloc.specs.CountedFields.{as_field, content, IsContentUpTo, IsKeyUpTo}
use Rattle.rv_reloc.specs.declared.sweep.Candidate.{Candidate}
use Rattle.rv_reloc.specs.declared.sweep.Content.{Content}
use Rattle.rv_reloc.specs.declared.sweep.Content.TheVariants.{Address, Difference}
use Rattle.rv_reloc.proofs.Lexicographic.{then_not_less, number_up, integer_up, then_up, less_trans, AllPairs-from_next}

-- The comparison of contents, case by case.
pub record ComparesContents (cmp : Content → Content → Ordering) : Type 0 where
  pub addresses : (a b : ℕ) → cmp (Address a) (Address b) ≡ nat_cmp a b
  pub address_first : (a : ℕ) (to from : ℤ) → cmp (Address a) (Difference to from) ≡ Less
  pub differences : (to from to' from' : ℤ) →
      cmp (Difference to from) (Difference to' from') ≡ ordering_then (int_cmp to to') (int_cmp from from')

content_up : (cmp : Content → Content → Ordering) → ComparesContents cmp → (c d : Content) → is_lt (cmp d c) ≡ false →
    IsContentUpTo (content c) (content d)
content_up cmp is (Address a) (Address b) up =
    number_up a b (sym (ap is_lt (is.addresses b a)) ∙ up)
content_up cmp is (Address a) (Difference to from) up = tt
content_up cmp is (Difference to from) (Address b) up =
    let e : true ≡ false = sym (ap is_lt (is.address_first b to from)) ∙ up in absurd (cc)
content_up cmp is (Difference to from) (Difference to' from') up =
    let h = then_not_less (int_cmp to' to) (int_cmp from' from) _ _ _ (int_ranked to' to (int_cmp to' to) refl)
    (sym (ap is_lt (is.differences to' from' to from)) ∙ up) in
    ⊎_elim
    (λ (both : (to' ≡ to) × (is_lt (int_cmp from' from) ≡ false)).
    inr (sym both.0, integer_up from from' both.1))
    (λ (less : to <ℤ to'). inl less)
    h

-- The key of the next field isn't less.
abbrev pub IsNotLess : (Content → Content → Ordering) → Candidate → Candidate → Type 0
IsNotLess cmp x y =
    is_lt (ordering_then (ordering_then (nat_cmp y.place x.place) (nat_cmp x.width y.width)) (cmp y.content x.content)) ≡ false

reassociate : (o p q : Ordering) → ordering_then (ordering_then o p) q ≡ ordering_then o (ordering_then p q)
reassociate Less p q = refl
reassociate Equal p q = refl
reassociate Greater p q = refl

key_up : (cmp : Content → Content → Ordering) → ComparesContents cmp → (x y : Candidate) → IsNotLess cmp x y →
    IsKeyUpTo (as_field x) (as_field y)
key_up cmp is x y up =
    let widths = nat_cmp x.width y.width in
    then_up x.place y.place (ordering_then widths (cmp y.content x.content)) _
    (λ later. ⊎_elim
    (λ (alike : (x.width ≡ y.width) × (is_lt (cmp y.content x.content) ≡ false)). inr
    (alike.0, content_up cmp is x.content y.content alike.1))
    (λ (wider : y.width < x.width). inl wider)
    (then_not_less widths (cmp y.content x.content) _ _ _ (ranked x.width y.width widths refl) later))
    (sym (ap is_lt (reassociate (nat_cmp y.place x.place) widths (cmp y.content x.content))) ∙ up)

-- Transitivity.

content_trans : (c d e : cells.Content) → IsContentUpTo c d → IsContentUpTo d e → IsContentUpTo c e
content_trans (cells.Address a) (cells.Address b) (cells.Address c) p q = omega arith
content_trans (cells.Address a) (cells.Address b) (cells.Difference to from) p q = tt
content_trans (cells.Address a) (cells.Difference to from) (cells.Address c) p q = absurd q
content_trans (cells.Address a) (cells.Difference to from) (cells.Difference to' from') p q = tt
content_trans (cells.Difference to from) (cells.Address b) e p q = absurd p
content_trans (cells.Difference to from) (cells.Difference to' from') (cells.Address c) p q = absurd q
content_trans (cells.Difference to from) (cells.Difference to' from') (cells.Difference to2 from2) (inl p) (inl q) =
    inl (omega (arith, ints))
content_trans (cells.Difference to from) (cells.Difference to' from') (cells.Difference to2 from2) (inl p) (inr (e, q)) =
    inl (omega (arith, ints))
content_trans (cells.Difference to from) (cells.Difference to' from') (cells.Difference to2 from2) (inr (e, p)) (inl q) =
    inl (omega (arith, ints))
content_trans (cells.Difference to from) (cells.Difference to' from') (cells.Difference to2 from2) (inr (e, p)) (inr (f, q)) =
    inr (e ∙ f, omega (arith, ints))

widths_trans : (f g h : Field) →
    (g.width < f.width) ⊎ ((f.width ≡ g.width) × IsContentUpTo f.content g.content) → (h.width < g.width)
    ⊎ ((g.width ≡ h.width) × IsContentUpTo g.content h.content) → (h.width < f.width)
    ⊎ ((f.width ≡ h.width) × IsContentUpTo f.content h.content)
widths_trans f g h (inl a) (inl b) = inl (omega arith)
widths_trans f g h (inl a) (inr (e, b)) = inl (omega arith)
widths_trans f g h (inr (e, a)) (inl b) = inl (omega arith)
widths_trans f g h (inr (e, a)) (inr (e', b)) = inr (e ∙ e', content_trans f.content g.content h.content a b)

key_trans : (f g h : Field) → IsKeyUpTo f g → IsKeyUpTo g h → IsKeyUpTo f h
key_trans f g h = less_trans f.place g.place h.place _ _ _ (widths_trans f g h)

none : Candidate
none = record { place = 0; width = 0; content = Address 0 }

pub keys-sorted : (cmp : Content → Content → Ordering) (xs : List Candidate) → ComparesContents cmp →
    ((k : ℕ) (d : Candidate) → 0 ≤ k → k + 1 < length xs → IsNotLess cmp (slice_index_or xs k d) (slice_index_or xs (k + 1) d)) →
    AllPairs IsKeyUpTo (map as_field xs)
keys-sorted cmp xs is sorted i j d less within =
    let inside : j < length xs = (let n = length-map xs as_field in omega arith) in
    let up = AllPairs-from_next (λ x y. IsKeyUpTo (as_field x) (as_field y))
    (λ x y z. key_trans (as_field x) (as_field y) (as_field z)) xs
    (λ k e before. key_up cmp is (slice_index_or xs k e) (slice_index_or xs (k + 1) e)
    (sorted k e (omega arith) before)) i j none less inside in
    let at_i = get_or-map as_field xs i none d (omega arith) in
    let at_j = get_or-map as_field xs j none d inside in
    subst (λ (f : Field). IsKeyUpTo f (slice_index_or (map as_field xs) j d)) (sym at_i)
    (subst (λ (g : Field). IsKeyUpTo (as_field (slice_index_or xs i none)) g) (sym at_j) up)

-- The starts of instructions as a list.
use Rattle.std.proofs.Common.{◌≡◌, ◌∙◌, sym, subst, ap, refl, ℕ, zero, suc, ◌+◌, ◌-◌, ◌%◌, ◌<◌, ◌≤◌, ◌⊎◌, inl, inr, ⊎_elim, Bool}
use Rattle.std.proofs.Common.{true, false, nat_lt, ◌==◌, if◌then◌else◌, List, [], ◌∷◌, ◌++◌, slice_index_or, arith}
use Rattle.std.specs.List.{Contains, AllPairs}
use Rattle.std.proofs.lemmas.Bool.{cases_lt, lt-ltb, le-ltb}
use Rattle.std.proofs.lemmas.List.{get_or_default}
use Rattle.std.proofs.lemmas.List.Kept.{AllPairs-cons}
use Rattle.std.proofs.lemmas.List.Elements.{Contains-append_left, Contains-append_right, Contains-append_cases}
use Rattle.rv_code.specs.layout.Lists.{ListsNumbers}
use Rattle.elf_image.specs.declared.elf.Elf.{Elf}
use Rattle.elf_code.specs.Parts.{StartsIn, at_start, after, length_at, halfword_at, IsStart}
use Rattle.rb_bytes.proofs.Members.{Contains-cons_cases}
use Rattle.rb_bytes.proofs.ListLemmas.{pairs_append}
use Rattle.code_starts.specs.declared.parts.Part.{Part}
use Rattle.code_starts.specs.Parts.{AreCodeParts, Precedes}
use Rattle.code_starts.specs.Starts.{starts_within, starts_from, starts_of}

length_by : (is_full : Bool) → 0 < (if is_full then 4 else 2)
length_by true = omega arith
length_by false = omega arith

pub length_positive : (elf : Elf) (a : ℕ) → 0 < length_at elf a
length_positive elf a = length_by (halfword_at elf a % 4 == 3)

-- One more start.

below : {A : Type 0} (a end : ℕ) (xs ys : List A) → a < end → (if nat_lt a end then xs else ys) ≡ xs
below a end xs ys less = ap (λ (b : Bool). if b then xs else ys) (lt-ltb a end less)

above : {A : Type 0} (a end : ℕ) (xs ys : List A) → end ≤ a → (if nat_lt a end then xs else ys) ≡ ys
above a end xs ys more = ap (λ (b : Bool). if b then xs else ys) (le-ltb a end more)

within_past : (elf : Elf) (end a n : ℕ) → end ≤ a → starts_within elf end a n ≡ []
unfolding starts_within
within_past elf end a zero past = refl
within_past elf end a (suc n) past = above a end _ _ past

within_suc : (elf : Elf) (end a n : ℕ) → a < end →
    starts_within elf end a (suc n) ≡ a ∷ starts_within elf end (a + length_at elf a) n
unfolding starts_within
within_suc elf end a n less = below a end _ _ less

-- Any sufficient number of steps gives the same list.
within_enough : (elf : Elf) (end a n m : ℕ) → end ≤ a + n → end ≤ a + m → starts_within elf end a n ≡ starts_within elf end a m
within_enough elf end a zero m n_enough m_enough =
    within_past elf end a zero (omega arith) ∙ sym (within_past elf end a m (omega arith))
within_enough elf end a (suc n) zero n_enough m_enough =
    within_past elf end a (suc n) (omega arith) ∙ sym (within_past elf end a zero (omega arith))
within_enough elf end a (suc n) (suc m) n_enough m_enough =
    let long : 0 < length_at elf a = length_positive elf a in
    ⊎_elim
    (λ (less : a < end).
    within_suc elf end a n less
    ∙ ap (λ (xs : List ℕ). a ∷ xs) (within_enough elf end (a + length_at elf a) n m (omega arith) (omega arith))
    ∙ sym (within_suc elf end a m less))
    (λ (past : end ≤ a). within_past elf end a (suc n) past ∙ sym (within_past elf end a (suc m) past))
    (cases_lt a end)

pub starts_from-next : (elf : Elf) (end a : ℕ) → a < end → starts_from elf end a ≡ a ∷ starts_from elf end (a + length_at elf a)
starts_from-next elf end a less =
    let long : 0 < length_at elf a = length_positive elf a in
    let n : end - a ≡ suc (end - a - 1) = omega arith in
    ap (starts_within elf end a) n ∙ within_suc elf end a (end - a - 1) less
    ∙ ap (λ (xs : List ℕ). a ∷ xs)
    (within_enough elf end (a + length_at elf a) (end - a - 1) (end - (a + length_at elf a)) (omega arith) (omega arith))

pub starts_from-past : (elf : Elf) (end a : ℕ) → end ≤ a → starts_from elf end a ≡ []
starts_from-past elf end a past = within_past elf end a (end - a) past

-- The list is complete.

pub starts_later : (elf : Elf) (start end a : ℕ) → start < end → StartsIn elf (start + length_at elf start) end a →
    StartsIn elf start end a
starts_later elf start end _ less (at_start inside) = after start (at_start less) inside
starts_later elf start end _ less (after a before inside) = after a (starts_later elf start end a less before) inside

pub starts_cases : (elf : Elf) (start end a : ℕ) → StartsIn elf start end a →
    (a ≡ start) ⊎ StartsIn elf (start + length_at elf start) end a
starts_cases elf start end _ (at_start inside) = inl refl
starts_cases elf start end _ (after a before inside) =
    ⊎_elim
    (λ (first : a ≡ start). inr
    (subst (λ (b : ℕ). StartsIn elf (start + length_at elf start) end (b + length_at elf b)) (sym first)
    (at_start (subst (λ (b : ℕ). b + length_at elf b < end) first inside))))
    (λ later. inr (after a later inside))
    (starts_cases elf start end a before)

pub starts_inside : (elf : Elf) (start end a : ℕ) → StartsIn elf start end a → (start ≤ a) × (a < end)
starts_inside elf start end _ (at_start inside) = (omega arith, inside)
starts_inside elf start end _ (after a before inside) =
    let low = (starts_inside elf start end a before).0 in (omega arith, inside)

-- Lists of all numbers of a set.

lists_none : (P : ℕ → Type 0) → ((a : ℕ) → P a → ⊥) → ListsNumbers P []
lists_none P none =
    record {
      only = λ a (k, within, is). absurd (omega arith);
      each = λ a is. absurd (none a is);
      ordered = λ i j d less within. absurd (omega arith);
    }

lists_cons : (P : ℕ → Type 0) (x : ℕ) (xs : List ℕ) → ListsNumbers P xs → ((a : ℕ) → P a → x < a) →
    ListsNumbers (λ a. (a ≡ x) ⊎ P a) (x ∷ xs)
lists_cons P x xs lists less = record {
  only = λ a is_in. ⊎_elim (λ same. inl (sym same)) (λ later. inr (lists.only a later)) (Contains-cons_cases x xs a is_in);
  each = λ a. ⊎_elim (λ same. (0, omega arith, sym same)) (λ is.
      let (k, within, there) = lists.each a is in
      (suc k, omega arith, there));
  ordered = AllPairs-cons (λ a b. a < b) x xs
      (λ k d within. less (slice_index_or xs k d)
      (lists.only _ (k, within, get_or_default xs k (slice_index_or xs k d) d within))) lists.ordered;
}

lists_same : {P Q : ℕ → Type 0} (xs : List ℕ) → ((a : ℕ) → P a → Q a) → ((a : ℕ) → Q a → P a) →
    ListsNumbers P xs → ListsNumbers Q xs
lists_same xs to from lists =
    record { only = λ a is_in. to a (lists.only a is_in); each = λ a is. lists.each a (from a is); ordered = lists.ordered }

pub lists_append : (P Q : ℕ → Type 0) (xs ys : List ℕ) → ListsNumbers P xs → ListsNumbers Q ys → ((a b : ℕ) → P a → Q b → a < b) →
    ListsNumbers (λ a. P a ⊎ Q a) (xs ++ ys)
lists_append P Q xs ys left right less = record {
  only = λ a is_in. ⊎_elim (λ l. inl (left.only a l)) (λ r. inr (right.only a r)) (Contains-append_cases xs ys a is_in);
  each = λ a. ⊎_elim (λ l. Contains-append_left xs ys a (left.each a l)) (λ r. Contains-append_right xs ys a (right.each a r));
  ordered = pairs_append (λ a b. a < b) xs ys left.ordered right.ordered (λ a b l r. less a b (left.only a l) (right.only b r));
}

-- The starts in one part.
pub starts_within-lists : (elf : Elf) (end a n : ℕ) → end ≤ a + n → ListsNumbers (StartsIn elf a end) (starts_within elf end a n)
starts_within-lists elf end a zero enough =
    subst (ListsNumbers (StartsIn elf a end)) (sym (within_past elf end a zero (omega arith)))
    (lists_none (StartsIn elf a end) (λ x is. let (low, high) = starts_inside elf a end x is in omega arith))
starts_within-lists elf end a (suc n) enough =
    let long : 0 < length_at elf a = length_positive elf a in
    ⊎_elim
    (λ (less : a < end).
    subst (ListsNumbers (StartsIn elf a end)) (sym (within_suc elf end a n less))
    (lists_same (a ∷ starts_within elf end (a + length_at elf a) n)
    (λ x. ⊎_elim (λ (same : x ≡ a). subst (StartsIn elf a end) (sym same) (at_start less))
    (λ later. starts_later elf a end x less later))
    (λ x is. starts_cases elf a end x is)
    (lists_cons (StartsIn elf (a + length_at elf a) end) a (starts_within elf end (a + length_at elf a) n)
    (starts_within-lists elf end (a + length_at elf a) n (omega arith))
    (λ x is. let low = (starts_inside elf (a + length_at elf a) end x is).0 in omega arith))))
    (λ (past : end ≤ a).
    subst (ListsNumbers (StartsIn elf a end)) (sym (within_past elf end a (suc n) past))
    (lists_none (StartsIn elf a end) (λ x is. let (low, high) = starts_inside elf a end x is in omega arith)))
    (cases_lt a end)

-- The starts in all parts.
InSome : Elf → List Part → ℕ → Type 0
InSome elf ps a = (p : Part) × Contains ps p × StartsIn elf p.start p.end a

starts_of-lists : (elf : Elf) (ps : List Part) → AllPairs Precedes ps → ListsNumbers (InSome elf ps) (starts_of elf ps)
unfolding InSome
starts_of-lists elf [] ordered = lists_none (InSome elf []) (λ a (p, (k, within, is), starts). omega arith)
starts_of-lists elf (p ∷ ps) ordered =
    lists_same (starts_from elf p.end p.start ++ starts_of elf ps)
    (λ a. ⊎_elim (λ here. (p, (0, omega arith, refl), here))
    (λ (q, (k, within, is), there). (q, (suc k, omega arith, is), there)))
    (λ a (q, listed, there). ⊎_elim
    (λ (same : p ≡ q). inl (subst (λ (r : Part). StartsIn elf r.start r.end a) (sym same) there))
    (λ later. inr (q, later, there))
    (Contains-cons_cases p ps q listed))
    (lists_append (StartsIn elf p.start p.end) (InSome elf ps) (starts_from elf p.end p.start) (starts_of elf ps)
    (starts_within-lists elf p.end p.start (p.end - p.start) (omega arith))
    (starts_of-lists elf ps (λ i j d less within. ordered (suc i) (suc j) d (omega arith) (omega arith)))
    (λ a b here (q, (k, within, is), there).
    let follows : p.end ≤ q.start = subst (λ (r : Part). p.end ≤ r.start) is (ordered 0 (suc k) q (omega arith) (omega arith)) in
    let high = (starts_inside elf p.start p.end a here).1 in
    let low = (starts_inside elf q.start q.end b there).0 in
    omega arith))

pub starts-list : (elf : Elf) (ps : List Part) → AreCodeParts elf ps → ListsNumbers (IsStart elf) (starts_of elf ps)
unfolding InSome
starts-list elf ps are =
    lists_same (starts_of elf ps)
    (λ a (p, listed, starts).
    record { start = p.start; end = p.end; is_start = record { part = are.only p listed; starts = starts } })
    (λ a is. (
      record { start = is.start; end = is.end },
      are.each
          (record { start = is.start; end = is.end }) is.is_start.part,
      is.is_start.starts,
    ))
    (starts_of-lists elf ps are.ordered)

-- The program headers of a written file load the bytes that those of the input do, and the new area.
use Rattle.std.proofs.Common.{◌≡◌, ◌∙◌, sym, ap, subst, refl, ℕ, suc, ◌+◌, ◌-◌, ◌≤◌, ◌<◌, ◌⊎◌, inl, inr, List, [], ◌∷◌, ◌++◌}
use Rattle.std.proofs.Common.{Bool, IsTrue, length, get_or, take, drop, arith, length-append}
use Rattle.std.specs.Prelude.{Contains}
use Rattle.std.proofs.lemmas.Bool.{cases_lt}
use Rattle.std.proofs.lemmas.Grind.{common_steps}
use Rattle.std.proofs.lemmas.List.{get_or-drop, get_or-take, get_or_append_left, get_or-append_right, get_or_default}
use Rattle.elf_image.specs.declared.segment.Segment.{Segment}
use Rattle.elf_image.specs.memory.Image.{is_load}
use Rattle.elf_plan.specs.NewSegments.{IsNewLoad, IsRenewed, AreRenewed, inserted}

module _ (file_end step end : ℕ) (tight : Bool) (grows : ℕ → Bool) where
  -- The new headers of loaded segments are in the list.
  pub renewed-load : (ps qs : List Segment) → AreRenewed file_end step end tight grows ps qs → (p : Segment) → Contains ps p →
      IsTrue (is_load p) → (q : Segment) × Contains qs q × IsNewLoad file_end step p q
  renewed-load ps qs are p (i, below, is) load =
      let q : Segment = get_or qs i p in
      let count = are.count in
      let inside : i < length qs = omega arith in
      let renewed : IsRenewed file_end step end tight (grows i) (get_or ps i p) q = are.each i p p below in (
        q,
        (i, inside, get_or_default qs i q p inside),
        subst (λ (s : Segment). IsNewLoad file_end step s q) is
            (renewed.load (subst (λ (s : Segment). IsTrue (is_load s)) (sym is) load)),
      )

-- A file whose area has its own segment.

pub length-inserted : (at : ℕ) (new : Segment) (xs : List Segment) → at ≤ length xs → length (inserted at new xs) ≡ length xs + 1
length-inserted at new xs within = grind (arith, common_steps)

inserted-before : (at : ℕ) (new : Segment) (xs : List Segment) (k : ℕ) (d : Segment) → at ≤ length xs → k < at →
    get_or (inserted at new xs) k d ≡ get_or xs k d
inserted-before at new xs k d within low =
    let size : length (take at xs) ≡ at = grind (arith, common_steps) in
    get_or_append_left (take at xs) (new ∷ drop at xs) d k (omega arith) ∙ get_or-take at xs k d low

inserted-there : (at : ℕ) (new : Segment) (xs : List Segment) (k : ℕ) (d : Segment) → at ≤ length xs → k ≡ at →
    get_or (inserted at new xs) k d ≡ new
inserted-there at new xs k d within here =
    let size : length (take at xs) ≡ at = grind (arith, common_steps) in
    let zero_left : k - at ≡ 0 = omega arith in
    get_or-append_right (take at xs) (new ∷ drop at xs) at k d size (omega arith)
    ∙ ap (λ (j : ℕ). get_or (new ∷ drop at xs) j d) zero_left

inserted-after : (at : ℕ) (new : Segment) (xs : List Segment) (k : ℕ) (d : Segment) → at ≤ length xs → at < k →
    get_or (inserted at new xs) k d ≡ get_or xs (k - 1) d
inserted-after at new xs k d within high =
    let size : length (take at xs) ≡ at = grind (arith, common_steps) in
    let more : k - at ≡ suc (k - at - 1) = omega arith in
    let back : at + (k - at - 1) ≡ k - 1 = omega arith in
    get_or-append_right (take at xs) (new ∷ drop at xs) at k d size (omega arith)
    ∙ ap (λ (j : ℕ). get_or (new ∷ drop at xs) j d) more
    ∙ get_or-drop at xs (k - at - 1) d
    ∙ ap (λ (j : ℕ). get_or xs j d) back

-- A member of a list is a member after an insertion.
pub inserted-contains : (at : ℕ) (new : Segment) (xs : List Segment) (x : Segment) → at ≤ length xs → Contains xs x →
    Contains (inserted at new xs) x
inserted-contains at new xs x within (i, below, is) = place (cases_lt i at)
  where
    whole : length (inserted at new xs) ≡ length xs + 1
    whole = length-inserted at new xs within

    back : suc i - 1 ≡ i
    back = omega arith

    place : (i < at) ⊎ (at ≤ i) → Contains (inserted at new xs) x
    place (inl low) = (i, omega (arith, whole), inserted-before at new xs i x within low ∙ is)
    place (inr high) = (
      suc i,
      omega (arith, whole),
      inserted-after at new xs (suc i) x within (omega arith) ∙ ap (λ (j : ℕ). get_or xs j x) back ∙ is,
    )

pub inserted-new : (at : ℕ) (new : Segment) (xs : List Segment) → at ≤ length xs → Contains (inserted at new xs) new
inserted-new at new xs within =
    let whole = length-inserted at new xs within in
    (at, omega arith, inserted-there at new xs at new within refl)

-- One more header.
take-more-at : (ps : List Segment) (n i : ℕ) (d : Segment) → i < n → get_or (take n ps) i d ≡ get_or ps i d
take-more-at ps n i d below = get_or-take n ps i d below

-- The number of headers is that of the input.
pub taken-count : (file_end step end : ℕ) (tight : Bool) (grows : ℕ → Bool) (ps qs : List Segment) (n : ℕ) → n < length ps →
    AreRenewed file_end step end tight grows (take n ps) qs → length qs ≡ n
taken-count file_end step end tight grows ps qs n below are =
    let c : length qs ≡ length (take n ps) = are.count in
    let t : length (take n ps) ≡ n = grind (arith, common_steps) in omega arith

pub AreRenewed-more : (file_end step end : ℕ) (tight : Bool) (grows : ℕ → Bool) (ps qs : List Segment) (n : ℕ) (q : Segment) →
    n < length ps → AreRenewed file_end step end tight grows (take n ps) qs →
    ((d : Segment) → IsRenewed file_end step end tight (grows n) (get_or ps n d) q) →
    AreRenewed file_end step end tight grows (take (n + 1) ps) (qs ++ q ∷ [])
AreRenewed-more file_end step end tight grows ps qs n q below are here = record {
  count = omega (arith, length-append qs (q ∷ []), long, more);
  each = λ i d e low. cases i d e (omega (arith, more)) (cases_lt i n);
}
  where
    long : length qs ≡ n
    long = taken-count file_end step end tight grows ps qs n below are

    more : length (take (n + 1) ps) ≡ n + 1
    more = grind (arith, common_steps)

    cases : (i : ℕ) (d e : Segment) → i < n + 1 → (i < n) ⊎ (n ≤ i) →
        IsRenewed file_end step end tight (grows i) (get_or (take (n + 1) ps) i d) (get_or (qs ++ q ∷ []) i e)
    cases i d e under (inl low) =
        let short : length (take n ps) ≡ n = grind (arith, common_steps) in
        let old : IsRenewed file_end step end tight (grows i) (get_or (take n ps) i d) (get_or qs i e) =
        are.each i d e (omega arith) in
        let p_is : get_or (take n ps) i d ≡ get_or (take (n + 1) ps) i d =
        take-more-at ps n i d low ∙ sym (take-more-at ps (n + 1) i d (omega arith)) in
        let q_is : get_or qs i e ≡ get_or (qs ++ q ∷ []) i e = sym (get_or_append_left qs (q ∷ []) e i (omega (arith, long))) in
        subst (λ (x : Segment). IsRenewed file_end step end tight (grows i) (get_or (take (n + 1) ps) i d) x) q_is
        (subst (λ (x : Segment). IsRenewed file_end step end tight (grows i) x (get_or qs i e)) p_is old)
    cases i d e under (inr high) =
        let at : i ≡ n = omega arith in
        let zero_more : i - n ≡ 0 = omega arith in
        let p_is : get_or ps n d ≡ get_or (take (n + 1) ps) i d =
        ap (λ (k : ℕ). get_or ps k d) (sym at) ∙ sym (take-more-at ps (n + 1) i d under) in
        let q_is : q ≡ get_or (qs ++ q ∷ []) i e =
        sym (get_or-append_right qs (q ∷ []) n i e long high ∙ ap (λ (k : ℕ). get_or (q ∷ []) k e) zero_more) in
        let grown_is : grows n ≡ grows i = ap grows (sym at) in
        subst
        (λ (b : Bool). IsRenewed file_end step end tight b (get_or (take (n + 1) ps) i d) (get_or (qs ++ q ∷ []) i e)) grown_is
        (subst (λ (x : Segment). IsRenewed file_end step end tight (grows n) (get_or (take (n + 1) ps) i d) x) q_is
        (subst (λ (x : Segment). IsRenewed file_end step end tight (grows n) x q) p_is (here d)))

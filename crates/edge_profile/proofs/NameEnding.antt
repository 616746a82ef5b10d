-- The range of the names with a suffix.
use Rattle.std.proofs.Common.{◌≡◌, ◌<◌, ◌≤◌, ◌+◌, ◌-◌, ◌∙◌, ℕ, suc, List, [], ◌∷◌, ◌++◌, Some, None, ap, sym}
use Rattle.std.proofs.Common.{length, take, get_or, arith, reverse, subst, ⊎_elim}
use Rattle.std.proofs.lemmas.Bool.{cases_lt}
use Rattle.std.proofs.lemmas.List.{length-reverse, reverse-append, take_all, get_or_default}
use Rattle.std.proofs.lemmas.List.Edits.{length-between, get_or-between}
use Rattle.std.specs.Prelude.{slice_range}
use Rattle.std.specs.List.Sorted.{IsNonDecreasingBy}
use Rattle.edge_profile.specs.declared.name_ends.Ending.{Ending}
use Rattle.edge_profile.specs.NameEnds.{BackwardName, Backward, AreInOrder, HasEnd, IsEnding, code_at, index_of}
use Rattle.edge_profile.proofs.NameOrder.{begins_more, begins_less, codes_rise, first_is_whole}
use Rattle.edge_profile.proofs.NameIndices.{first_index, no_index}

reverse-cons : (byte : ℕ) (end : List ℕ) → reverse (byte ∷ end) ≡ reverse end ++ byte ∷ []
reverse-cons byte end = reverse-append (byte ∷ []) end

-- A name has a suffix, in terms of the suffix written backwards.
module _ (end : List ℕ) (n : BackwardName) where
  begins : HasEnd end n → take (length (reverse end)) n.items ≡ reverse end
  begins has = ap (λ (k : ℕ). take k n.items) (length-reverse end) ∙ has

  pub has-more : (byte : ℕ) → HasEnd end n → code_at (length end) n.items ≡ suc byte → HasEnd (byte ∷ end) n
  has-more byte has code =
      let size = length-reverse end in
      ap (λ (k : ℕ). take (suc k) n.items) (sym size)
      ∙ begins_more (reverse end) n.items byte (begins has) (ap (λ (k : ℕ). code_at k n.items) size ∙ code)
      ∙ sym (reverse-cons byte end)

  pub has-less : (byte : ℕ) → HasEnd (byte ∷ end) n → HasEnd end n × (code_at (length end) n.items ≡ suc byte)
  has-less byte has =
      let size = length-reverse end in
      let parts = begins_less (reverse end) n.items byte (ap (λ (k : ℕ). take (suc k) n.items) size ∙ has
      ∙ reverse-cons byte end) in
      (ap (λ (k : ℕ). take k n.items) (sym size) ∙ parts.0, ap (λ (k : ℕ). code_at k n.items) (sym size) ∙ parts.1)

  pub is_whole : HasEnd end n → length n.items ≡ length end → n.items ≡ reverse end
  is_whole has size = sym (take_all (length end) n.items (omega (arith, size))) ∙ has

  pub whole_has : n.items ≡ reverse end → HasEnd end n
  whole_has is = let size = ap length is in let back = length-reverse end in
      take_all (length end) n.items (omega (arith, size, back)) ∙ is

module _ (names : Backward) (in_order : AreInOrder names) (end : List ℕ) (e : Ending) (is : IsEnding names end e) where
  abbrev Ascends : Backward → Type 0
  Ascends xs = IsNonDecreasingBy (λ n. code_at e.depth n.items) xs

  -- The bytes before the suffix ascend.
  pub codes-ascend : (xs : Backward) → length xs ≡ e.end - e.start →
      ((k : ℕ) (d : BackwardName) → k < length xs → get_or xs k d ≡ get_or names (e.start + k) d) →
      IsNonDecreasingBy (λ n. code_at e.depth n.items) xs
  codes-ascend xs size same = λ i j d le lt.
      let ordered = is.ordered in
      let within = is.within in
      let depth = is.depth_is in
      let back = length-reverse end in
      let at_i = same i d (omega (arith, le, lt)) in
      let at_j = same j d lt in
      let rise = codes_rise (reverse end) (get_or names (e.start + i) d).items (get_or names (e.start + j) d).items
      (in_order (e.start + i) (e.start + j) d (omega (arith, le)) (omega (arith, lt, size, within)))
      (begins end (get_or names (e.start + i) d) (is.inside (e.start + i) d (omega arith) (omega (arith, le, lt, size))))
      (begins end (get_or names (e.start + j) d) (is.inside (e.start + j) d (omega arith) (omega (arith, lt, size)))) in
      let code : length (reverse end) ≡ e.depth = back ∙ sym depth in
      subst (λ (k : ℕ). code_at k (get_or xs i d).items ≤ code_at k (get_or xs j d).items) code
      (subst (λ (n : BackwardName). code_at (length (reverse end)) n.items ≤ code_at (length (reverse end)) (get_or xs j d).items)
      (sym at_i)
      (subst (λ (n : BackwardName). code_at (length (reverse end)) (get_or names (e.start + i) d).items
      ≤ code_at (length (reverse end)) n.items) (sym at_j) rise))

  -- One more byte before the suffix.
  pub narrowed : (byte : ℕ) (xs : Backward) (below through : ℕ) → length xs ≡ e.end - e.start →
      ((k : ℕ) (d : BackwardName) → k < length xs → get_or xs k d ≡ get_or names (e.start + k) d) →
      below ≤ length xs → through ≤ length xs →
      ((k : ℕ) (d : BackwardName) → k < below → code_at e.depth (get_or xs k d).items ≤ byte) →
      ((k : ℕ) (d : BackwardName) → below ≤ k → k < length xs → byte < code_at e.depth (get_or xs k d).items) →
      ((k : ℕ) (d : BackwardName) → k < through → code_at e.depth (get_or xs k d).items ≤ byte + 1) →
      ((k : ℕ) (d : BackwardName) → through ≤ k → k < length xs → byte + 1 < code_at e.depth (get_or xs k d).items) →
      IsEnding names (byte ∷ end) (record { start = e.start + below; end = e.start + through; depth = e.depth + 1 })
  narrowed byte xs below through size same fits_below fits_through up_to above up_through beyond = record {
    ordered = ⊎_elim (λ (less : through < below). absurd (crosses xs fits_below up_to beyond less))
        (λ (more : below ≤ through). omega (arith, more)) (cases_lt through below);
    within = let ordered = is.ordered in let within = is.within in omega (arith, ordered, within, size, fits_through);
    depth_is = let depth = is.depth_is in omega (arith, depth);
    before = λ k d less has.
        let parts = has-less end (get_or names k d) byte has in
        ⊎_elim (λ (low : k < e.start). is.before k d low parts.0)
        (λ (high : e.start ≤ k).
        let i = k - e.start in
        let code = up_to i d (omega (arith, less, high)) in
        let at = code_is i k d (omega (arith, high)) (omega (arith, less, high, fits_below)) parts.1 in
        omega (arith, code, at))
        (cases_lt k e.start);
    inside = λ k d from less.
        let i = k - e.start in
        let ordered = is.ordered in
        let low = above i d (omega (arith, from)) (omega (arith, from, less, fits_through)) in
        let high = up_through i d (omega (arith, from, less)) in
        let here = same i d (omega (arith, from, less, fits_through)) in
        let place : e.start + i ≡ k = omega (arith, from) in
        let item : get_or xs i d ≡ get_or names k d = here ∙ ap (λ (n : ℕ). get_or names n d) place in
        let depth = is.depth_is in
        let code : code_at (length end) (get_or names k d).items ≡ suc byte =
        ap (λ (m : ℕ). code_at m (get_or names k d).items) (sym depth)
        ∙ ap (λ (n : BackwardName). code_at e.depth n.items) (sym item) ∙ omega (arith, low, high) in
        has-more end (get_or names k d) byte
        (is.inside k d (omega (arith, from)) (omega (arith, from, less, fits_through, size, ordered))) code;
    behind = λ k d from less has.
        let parts = has-less end (get_or names k d) byte has in
        let ordered = is.ordered in
        ⊎_elim (λ (low : k < e.end).
        let i = k - e.start in
        let code = beyond i d (omega (arith, from)) (omega (arith, from, low, size)) in
        let at = code_is i k d (omega (arith, from)) (omega (arith, from, low, size)) parts.1 in
        omega (arith, code, at))
        (λ (high : e.end ≤ k). is.behind k d high less parts.0)
        (cases_lt k e.end);
  }
    where
      crosses : (xs : Backward) → below ≤ length xs →
          ((k : ℕ) (d : BackwardName) → k < below → code_at e.depth (get_or xs k d).items ≤ byte) →
          ((k : ℕ) (d : BackwardName) → through ≤ k → k < length xs → byte + 1 < code_at e.depth (get_or xs k d).items) →
          through < below → ⊥
      crosses [] fits low high less = absurd (omega (arith, fits, less))
      crosses (x ∷ xs) fits low high less =
          let at_most = low through x less in
          let more = high through x (omega arith) (omega (arith, less, fits)) in
          omega (arith, at_most, more)

      code_is : (i k : ℕ) (d : BackwardName) → e.start + i ≡ k → i < length xs →
          code_at (length end) (get_or names k d).items ≡ suc byte → code_at e.depth (get_or xs i d).items ≡ suc byte
      code_is i k d place within code =
          ap (λ (n : BackwardName). code_at e.depth n.items)
          (same i d within ∙ ap (λ (n : ℕ). get_or names n d) place)
          ∙ ap (λ (m : ℕ). code_at m (get_or names k d).items) is.depth_is ∙ code

  -- one more byte, with counts in the range as a list of its own
  pub narrowed-range : (byte : ℕ) (xs : Backward) (below through : ℕ) → xs ≡ slice_range names e.start e.end →
      below ≤ length xs → through ≤ length xs →
      (Ascends xs → (k : ℕ) (d : BackwardName) → k < below → code_at e.depth (get_or xs k d).items ≤ byte) →
      (Ascends xs → (k : ℕ) (d : BackwardName) → below ≤ k → k < length xs → byte < code_at e.depth (get_or xs k d).items) →
      (Ascends xs → (k : ℕ) (d : BackwardName) → k < through → code_at e.depth (get_or xs k d).items ≤ byte + 1) →
      (Ascends xs → (k : ℕ) (d : BackwardName) → through ≤ k → k < length xs →
      byte + 1 < code_at e.depth (get_or xs k d).items) →
      IsEnding names (byte ∷ end) (record { start = e.start + below; end = e.start + through; depth = e.depth + 1 })
  narrowed-range byte xs below through range fits_below fits_through up_to above up_through beyond =
      narrowed byte xs below through size same fits_below fits_through (up_to ascends) (above ascends) (up_through ascends)
      (beyond ascends)
    where
      size : length xs ≡ e.end - e.start
      size = ap length range ∙ length-between names e.start e.end is.within

      same : (k : ℕ) (d : BackwardName) → k < length xs → get_or xs k d ≡ get_or names (e.start + k) d
      same k d inside = ap (λ (l : Backward). get_or l k d) range
          ∙ get_or-between names e.start e.end k d (let s = size in let ordered = is.ordered in omega (arith, inside, s, ordered))

      ascends : Ascends xs
      ascends = codes-ascend xs size same

  -- The name that equals the suffix.

  pub named-first : (d : BackwardName) → e.start < e.end → length (get_or names e.start d).items ≡ e.depth →
      index_of names end ≡ Some e.start
  named-first d some size =
      let within = is.within in
      let depth = is.depth_is in
      first_index names end e.start (omega (arith, some, within))
      (λ f. subst (λ (n : BackwardName). n.items ≡ reverse end) (get_or_default names e.start d f (omega (arith, some, within)))
      (is_whole end (get_or names e.start d) (is.inside e.start d (omega arith) some) (size ∙ depth)))
      (λ j f less same. is.before j f less (whole_has end (get_or names j f) same))

  pub named-none : ((d : BackwardName) → e.start < e.end → length (get_or names e.start d).items ≡ e.depth → ⊥) →
      index_of names end ≡ None
  named-none other = no_index names end (λ j f inside same.
      let has = whole_has end (get_or names j f) same in
      ⊎_elim (λ (low : j < e.start). is.before j f low has)
      (λ (high : e.start ≤ j). ⊎_elim
      (λ (less : j < e.end).
      let first = first_is_whole (reverse end) (get_or names e.start f).items (get_or names j f).items
      (in_order e.start j f high inside)
      (begins end (get_or names e.start f) (is.inside e.start f (omega arith) (omega (arith, high, less)))) same in
      let size = ap length first in
      let back = length-reverse end in
      let depth = is.depth_is in
      other f (omega (arith, high, less)) (omega (arith, size, back, depth)))
      (λ (past : e.end ≤ j). is.behind j f past inside has)
      (cases_lt j e.end))
      (cases_lt j e.start))

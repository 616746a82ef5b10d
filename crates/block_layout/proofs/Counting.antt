-- Counting edges one after another.
use Rattle.std.proofs.Common.{◌≡◌, ◌<◌, ◌≤◌, ◌+◌, ◌∙◌, ◌⊎◌, ℕ, List, [], ◌∷◌, ◌++◌, length, get_or, take, arith, ap, sym, subst}
use Rattle.std.proofs.Common.{inl, inr, ⊎_elim, AllPairs, Contains}
use Rattle.std.specs.Prelude.{IsPermutation}
use Rattle.std.proofs.lemmas.List.{get_or_default, get_or-take, length-take, take_more, take_all}
use Rattle.std.proofs.lemmas.Bool.{cases_lt}
use Rattle.std.proofs.lemmas.List.Elements.{Contains-append_left, Contains-push, Contains-push_cases}
use Rattle.std.proofs.lemmas.List.Quantifiers.{all_pairs_push}
use Rattle.std.proofs.lemmas.List.Sorted.{Contains-permutation, IsPermutation-sym}
use Rattle.rv_code.specs.layout.Lists.{IsPairBefore}
use Rattle.std.proofs.lemmas.Option.{slice_get-get_or}
use Rattle.std.proofs.lemmas.Grind.{common_steps}
use Rattle.rv_code.specs.declared.placed.Func.{Func}
use Rattle.rv_code.specs.declared.placed.Block.{Block}
use Rattle.rv_code.specs.layout.Blocks.{inst_address}
use Rattle.block_layout.specs.EdgeCounts.{edge_count}
use Rattle.block_layout.specs.EdgeLists.{AreCounted, HaveOtherEnds}
use Rattle.block_layout.specs.declared.edge_counts.Edge.{Edge}
use Rattle.rb_bytes.proofs.Permuted.{AllPairs-permutation}

abbrev pub ends : Edge → ℕ × ℕ
ends e = (e.from, e.to)

-- the first i edges: those with positive counts
pub record IsCountedTo (count : ℕ × ℕ → ℕ) (edges : List (ℕ × ℕ)) (i : ℕ) (taken : List Edge) : Type 0 where
  pub counted : AreCounted count (take i edges) taken
  pub ordered : AllPairs (λ e f. IsPairBefore (ends e) (ends f)) taken

module _ (count : ℕ × ℕ → ℕ) (edges : List (ℕ × ℕ)) (i : ℕ) (d : ℕ × ℕ) (within : i < length edges) (taken : List Edge)
    (was : IsCountedTo count edges i taken) where
  more : take (i + 1) edges ≡ take i edges ++ get_or edges i d ∷ []
  more = take_more edges i d within

  in_more : (x : ℕ × ℕ) → Contains (take i edges) x → Contains (take (i + 1) edges) x
  in_more x is = grind (arith, common_steps, more)

  one_of : (x : ℕ × ℕ) → Contains (take (i + 1) edges) x → Contains (take i edges) x ⊎ (get_or edges i d ≡ x)
  one_of x is = Contains-push_cases (take i edges) (get_or edges i d) x (subst (λ (es : List (ℕ × ℕ)). Contains es x) more is)

  -- an edge with the count 0
  pub counted_zero : count (get_or edges i d) ≡ 0 → IsCountedTo count edges (i + 1) taken
  counted_zero zero' = record {
    counted = record {
      only = λ e is. let old = was.counted.only e is in (in_more (e.from, e.to) old.0, old.1, old.2);
      each = λ s t is positive. ⊎_elim
          (λ old. was.counted.each s t old positive)
          (λ same. absurd (let e = ap count same in omega arith))
          (one_of (s, t) is);
    };
    ordered = was.ordered;
  }

  -- an edge with a positive count
  pub counted_more : AllPairs IsPairBefore edges → (e : Edge) → ends e ≡ get_or edges i d
      → count (get_or edges i d) ≡ e.count → 0 < e.count → IsCountedTo count edges (i + 1) (taken ++ e ∷ [])
  counted_more ordered e is own positive = record {
    counted = record {
      only = λ f listed. ⊎_elim
          (λ old. let was' = was.counted.only f old in (in_more (f.from, f.to) was'.0, was'.1, was'.2))
          (λ same. subst
          (λ (g : Edge). Contains (take (i + 1) edges) (g.from, g.to) × (0 < g.count) × (count (g.from, g.to) ≡ g.count)) same (
            subst (λ (x : ℕ × ℕ). Contains (take (i + 1) edges) x) (sym is) (subst (λ (es : List (ℕ × ℕ)). Contains es
                (get_or edges i d)) (sym more) (Contains-push (take i edges) (get_or edges i d))),
            positive,
            ap count is ∙ own,
          ))
          (Contains-push_cases taken e f listed);
      each = λ s t listed some. ⊎_elim
          (λ old. Contains-append_left taken (e ∷ []) (record { from = s; to = t; count = count (s, t) })
          (was.counted.each s t old some))
          (λ same.
          let pair : ends e ≡ (s, t) = is ∙ same in
          let n : e.count ≡ count (s, t) = sym own ∙ ap count same in
          let whole : e ≡ record { from = s; to = t; count = count (s, t) } =
          λ j. record { from = (pair j).0; to = (pair j).1; count = n j } in
          subst (λ (f : Edge). Contains (taken ++ e ∷ []) f) whole (Contains-push taken e))
          (one_of (s, t) listed);
    };
    ordered = all_pairs_push (λ x y. IsPairBefore (ends x) (ends y)) taken e was.ordered
        (λ k x inside. before (get_or taken k x)
        (was.counted.only (get_or taken k x) (k, inside, get_or_default taken k (get_or taken k x) x inside)).0);
  }
    where
      before : (f : Edge) → Contains (take i edges) (ends f) → IsPairBefore (ends f) (ends e)
      before f (k, inside, at) = ⊎_elim
          (λ (less : k < i).
          let old : get_or edges k d ≡ ends f =
          sym (get_or-take i edges k d less) ∙ get_or_default (take i edges) k d (ends f) inside ∙ at in
          subst (λ (x : ℕ × ℕ). IsPairBefore (ends f) x) (sym is)
          (subst (λ (x : ℕ × ℕ). IsPairBefore x (get_or edges i d)) old (ordered k i d less within)))
          (λ (far : i ≤ k). absurd (let short = simp length-take at inside in omega arith))
          (cases_lt k i)

pub counted_all : (count : ℕ × ℕ → ℕ) (edges : List (ℕ × ℕ)) (i : ℕ) (taken new : List Edge) → length edges ≤ i
    → IsCountedTo count edges i taken → IsPermutation taken new → AreCounted count edges new
counted_all count edges i taken new all is moved =
    let whole = take_all i edges all in
    record {
      only = λ e listed.
          subst (λ (es : List (ℕ × ℕ)). Contains es (e.from, e.to) × (0 < e.count) × (count (e.from, e.to) ≡ e.count)) whole
          (is.counted.only e (Contains-permutation new taken e (IsPermutation-sym taken new moved) listed));
      each = λ s t listed positive.
          Contains-permutation taken new (record { from = s; to = t; count = count (s, t) }) moved
          (is.counted.each s t (subst (λ (es : List (ℕ × ℕ)). Contains es (s, t)) (sym whole) listed) positive);
    }

pub counted_once : (count : ℕ × ℕ → ℕ) (edges : List (ℕ × ℕ)) (i : ℕ) (taken new : List Edge) → IsCountedTo count edges i taken
    → IsPermutation taken new → AllPairs HaveOtherEnds new
counted_once count edges i taken new is moved =
    AllPairs-permutation HaveOtherEnds (λ e f other same. other (sym same.0, sym same.1)) taken new moved
    (λ j k d less within. apart (get_or taken j d) (get_or taken k d) (is.ordered j k d less within))
  where
    apart : (e f : Edge) → IsPairBefore (ends e) (ends f) → HaveOtherEnds e f
    apart e f (inl less) same = let from = same.0 in omega arith
    apart e f (inr (equal, less)) same = let to = same.1 in omega arith

-- the count of an edge between two blocks of the list
pub edge_count-blocks : (counts : ℕ → ℕ → ℕ) (funcs : List Func) (blocks : List Block) (e : ℕ × ℕ) (d d' : Block)
    → e.0 < length blocks → e.1 < length blocks → edge_count counts funcs blocks e
    ≡ counts (inst_address funcs (get_or blocks e.0 d) (get_or blocks e.0 d).last)
    (inst_address funcs (get_or blocks e.1 d') (get_or blocks e.1 d').first)
edge_count-blocks counts funcs blocks e d d' from to = grind (arith, common_steps, slice_get-get_or)

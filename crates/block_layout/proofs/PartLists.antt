-- The parts of one more function.
use Rattle.std.proofs.Common.{◌≡◌, ◌<◌, ◌≤◌, ◌+◌, ◌++◌, ◌∙◌, ℕ, List, [], ◌∷◌, length, arith, ap, sym, subst, ⊎_elim}
use Rattle.std.specs.Prelude.{Vec}
use Rattle.std.specs.declared.alloc.Global.{Global}
use Rattle.std.proofs.lemmas.Bool.{cases_lt}
use Rattle.std.proofs.lemmas.List.{get_or_append_left, map-append, length-map, length-append}
use Rattle.std.proofs.Math.Seq.{get_or-append_seam}
use Rattle.std.proofs.lemmas.Grind.{common_steps}
use Rattle.rv_code.specs.declared.placed.Block.{Block}
use Rattle.rv_code.specs.layout.BlockOrders.{list_of}
use Rattle.block_layout.specs.HotAndCold.{AreSplit, AreSplitTo}
use Rattle.block_layout.specs.Links.{Links}

abbrev Lists : Type 0
Lists = Vec (Vec ℕ Global) Global

list_of-left : (lists : List (Vec ℕ Global)) (v : Vec ℕ Global) (f : ℕ) → f < length lists →
    list_of (lists ++ v ∷ []) f ≡ list_of lists f
list_of-left lists v f within = grind (arith, common_steps, length-map, map-append, get_or_append_left)

list_of-last : (lists : List (Vec ℕ Global)) (v : Vec ℕ Global) (f : ℕ) → f ≡ length lists → list_of (lists ++ v ∷ []) f ≡ v.items
list_of-last lists v f is = grind (arith, common_steps, length-map, map-append, get_or-append_seam)

module _ (blocks : List Block) (weight : ℕ → ℕ) (p : Links) where
  pub split_none : (hot cold : Lists) → hot.items ≡ [] → cold.items ≡ [] →
      AreSplitTo blocks weight p 0 (record { hot = hot; cold = cold })
  split_none hot cold none none' = grind (arith, common_steps)

  pub split_more : (count : ℕ) (hot cold hot' cold' : Lists) (v w : Vec ℕ Global) → hot'.items ≡ hot.items ++ v ∷ []
      → cold'.items ≡ cold.items ++ w ∷ []
      → AreSplit blocks weight p count v.items w.items → AreSplitTo blocks weight p count (record { hot = hot; cold = cold })
      → AreSplitTo blocks weight p (count + 1) (record { hot = hot'; cold = cold' })
  split_more count hot cold hot' cold' v w one other is was = record {
    hot_count =
        ap length one ∙ (let long = length-append hot.items (v ∷ []) in let old = was.hot_count in omega (arith, long, old));
    cold_count =
        ap length other ∙ (let long = length-append cold.items (w ∷ []) in let old = was.cold_count in omega (arith, long, old));
    each = λ f less. ⊎_elim
        (λ (before : f < count).
        let in_hot : f < length hot.items = let old = was.hot_count in omega arith in
        let in_cold : f < length cold.items = let old = was.cold_count in omega arith in
        let h : list_of hot'.items f ≡ list_of hot.items f =
        ap (λ (ls : List (Vec ℕ Global)). list_of ls f) one ∙ list_of-left hot.items v f in_hot in
        let k : list_of cold'.items f ≡ list_of cold.items f =
        ap (λ (ls : List (Vec ℕ Global)). list_of ls f) other ∙ list_of-left cold.items w f in_cold in
        subst (λ (xs : List ℕ). AreSplit blocks weight p f xs (list_of cold'.items f)) (sym h)
        (subst (λ (xs : List ℕ). AreSplit blocks weight p f (list_of hot.items f) xs) (sym k) (was.each f before)))
        (λ (le : count ≤ f).
        let here : f ≡ count = omega arith in
        let at_hot : f ≡ length hot.items = here ∙ sym was.hot_count in
        let at_cold : f ≡ length cold.items = here ∙ sym was.cold_count in
        let h : list_of hot'.items f ≡ v.items =
        ap (λ (ls : List (Vec ℕ Global)). list_of ls f) one ∙ list_of-last hot.items v f at_hot in
        let k : list_of cold'.items f ≡ w.items =
        ap (λ (ls : List (Vec ℕ Global)). list_of ls f) other ∙ list_of-last cold.items w f at_cold in
        subst (λ (xs : List ℕ). AreSplit blocks weight p f xs (list_of cold'.items f)) (sym h)
        (subst (λ (xs : List ℕ). AreSplit blocks weight p f v.items xs) (sym k)
        (subst (λ (g : ℕ). AreSplit blocks weight p g v.items w.items) (sym here) is)))
        (cases_lt f count);
  }

-- Blocks of a search tree of ranges.
use Rattle.std.proofs.Common.{ℕ, zero, suc, ◌+◌, ◌-◌, ◌≤◌, ◌<◌, ◌≡◌, List, [], ◌∷◌, ◌++◌, Bool, true, false, cond}
use Rattle.std.proofs.Common.{set, refl, sym, ◌∙◌, ap, subst, arith, length, map, get_or, take, drop, filter, append_assoc}
use Rattle.std.specs.Prelude.{All, ◌&&◌, nat_le, nat_lt}
use Rattle.std.proofs.lemmas.List.{take-take, drop-take, drop-drop, drop_more, drop-set-lt, take-append-drop, map-append, map-set}
use Rattle.std.proofs.lemmas.List.{get_or-map, get_or-set_same, length-map, length-set, set-get_or}
use Rattle.std.proofs.lemmas.List.Elements.{All-head, All-tail, All-append, All-take, filter-append}
use Rattle.std.proofs.lemmas.Bool.Decides.{nat_tests}
use Rattle.cover_lists.specs.declared.cover_tree.Cover.{Cover}
use Rattle.cover_lists.specs.declared.cover_tree.Node.{Node}
use Rattle.cover_lists.specs.CoverTree.{covers_of, holds, IsReachedBy, AreReached, AreBlocks, IsBlock}

-- Parts of lists

module _ {X : Type 0} (P : X → Type 0) where
  pub all_fewer : (n m : ℕ) (xs : List X) → n ≤ m → All P (take m xs) → All P (take n xs)
  all_fewer n m xs le all = subst (All P) (take-take n m xs le) (All-take P n (take m xs) all)

  pub all_parts : (n m : ℕ) (xs : List X) → All P (take n xs) → All P (take m (drop n xs)) → All P (take (n + m) xs)
  all_parts n m xs front back =
      subst (All P) (take-append-drop n (take (n + m) xs))
      (All-append P (take n (take (n + m) xs)) (drop n (take (n + m) xs))
      (subst (All P) (sym (take-take n (n + m) xs (omega arith))) front)
      (subst (All P) (sym (drop-take n m xs)) back))

-- The block of a node, as a part of all ranges.
pub block_at : (ns : List Node) (k : ℕ) (n : Node) → k < length ns → n ≡ get_or ns k n → AreBlocks ns →
    AreReached n.low n.high (take (n.more + 1) (drop k (covers_of ns)))
block_at [] k n less e blocks = absurd (omega arith)
block_at (x ∷ ns) zero n less e blocks =
    subst (λ (y : Node). AreReached y.low y.high (take (y.more + 1) (x.cover ∷ covers_of ns))) (sym e)
    (subst (λ (k : ℕ). AreReached x.low x.high (take k (x.cover ∷ covers_of ns))) next blocks.0)
  where
    next : suc x.more ≡ x.more + 1
    next = omega arith
block_at (x ∷ ns) (suc k) n less e blocks = block_at ns k n (omega arith) e blocks.1

-- Groups that are found

abbrev pub groups_in : ℕ → List Cover → List ℕ
groups_in a cs = map (λ (c : Cover). c.group) (filter (holds a) cs)

groups_append : (a : ℕ) (xs ys : List Cover) → groups_in a (xs ++ ys) ≡ groups_in a xs ++ groups_in a ys
groups_append a xs ys =
    ap (map (λ (c : Cover). c.group)) (filter-append (holds a) xs ys)
    ∙ map-append (λ (c : Cover). c.group) (filter (holds a) xs) (filter (holds a) ys)

none_outside : (low high a : ℕ) (xs : List Cover) → AreReached low high xs → (nat_le low a && nat_lt a high) ≡ false →
    groups_in a xs ≡ []
none_outside low high a [] reached out = refl
none_outside low high a (x ∷ xs) reached out =
    let r = All-head (IsReachedBy low high) x xs reached in
    let no : (nat_le x.low a && nat_lt a x.high) ≡ false = grind (arith, nat_tests, r.0, r.1) in
    ap (λ b. map (λ (c : Cover). c.group) (cond b (x ∷ filter (holds a) xs) (filter (holds a) xs))) no
    ∙ none_outside low high a xs (All-tail (IsReachedBy low high) x xs reached) out

-- A block, or a part of one, that doesn't reach the address is passed over.
pub passed : (cs : List Cover) (i j more low high a : ℕ) (found : List ℕ) → i ≤ j → j ≤ i + more + 1 →
    AreReached low high (take (more + 1) (drop i cs)) → (nat_le low a && nat_lt a high) ≡ false →
    found ++ groups_in a (drop j cs) ≡ found ++ groups_in a (drop i cs)
passed cs i j more low high a found from to reached out =
    let k : ℕ = j - i in
    let there : i + k ≡ j = omega arith in
    let none : groups_in a (take k (drop i cs)) ≡ [] =
    none_outside low high a (take k (drop i cs)) (all_fewer (IsReachedBy low high) k (more + 1) (drop i cs) (omega arith) reached) out in
    ap (λ (l : List ℕ). found ++ l)
    (sym (sym (ap (groups_in a) (take-append-drop k (drop i cs))) ∙ groups_append a (take k (drop i cs)) (drop k (drop i cs))
    ∙ ap (λ (l : List ℕ). l ++ groups_in a (drop k (drop i cs))) none
    ∙ ap (groups_in a) (drop-drop k i cs ∙ ap (λ (n : ℕ). drop n cs) there)))

-- One range after another.

node_at : (ns : List Node) (i : ℕ) (n : Node) → i < length ns → n ≡ get_or ns i n →
    drop i (covers_of ns) ≡ n.cover ∷ drop (i + 1) (covers_of ns)
node_at ns i n less e =
    drop_more (covers_of ns) i n.cover (omega (arith, less, length-map ns (λ (m : Node). m.cover)))
    ∙ ap (λ (c : Cover). c ∷ drop (i + 1) (covers_of ns))
    (get_or-map (λ (m : Node). m.cover) ns i n n.cover less ∙ ap (λ (m : Node). m.cover) (sym e))

pub one_more : (ns : List Node) (i : ℕ) (n : Node) (a : ℕ) (b : Bool) (old new : List ℕ) → i < length ns → n ≡ get_or ns i n →
    holds a n.cover ≡ b → new ≡ old ++ cond b (n.cover.group ∷ []) [] →
    new ++ groups_in a (drop (i + 1) (covers_of ns)) ≡ old ++ groups_in a (drop i (covers_of ns))
one_more ns i n a b old new less e is made =
    ap (λ (l : List ℕ). l ++ groups_in a (drop (i + 1) (covers_of ns))) made
    ∙ append_assoc old (cond b (n.cover.group ∷ []) []) (groups_in a (drop (i + 1) (covers_of ns)))
    ∙ ap (λ (l : List ℕ). old ++ l) (by b is ∙ sym (ap (groups_in a) (node_at ns i n less e)))
  where
    found : Bool → List ℕ
    found b = map (λ (c : Cover). c.group) (cond b (n.cover ∷ filter (holds a) (drop (i + 1) (covers_of ns)))
        (filter (holds a) (drop (i + 1) (covers_of ns))))

    by : (b : Bool) → holds a n.cover ≡ b →
        cond b (n.cover.group ∷ []) [] ++ groups_in a (drop (i + 1) (covers_of ns)) ≡ groups_in a (n.cover ∷ drop (i + 1) (covers_of ns))
    by true is = sym (ap found is)
    by false is = sym (ap found is)

-- One block joined before others.
pub joined : (ns was : List Node) (j : ℕ) (n d : Node) → j < length ns → n.cover ≡ (get_or ns j d).cover →
    IsBlock n (covers_of (drop (j + 1) ns)) → (covers_of ns ≡ covers_of was) × AreBlocks (drop (j + 1) ns) →
    (covers_of (set ns j n) ≡ covers_of was) × AreBlocks (drop j (set ns j n))
joined ns was j n d less same block before = (
  map-set (λ (m : Node). m.cover) ns j n
      ∙ ap (set (covers_of ns) j) (same ∙ sym (get_or-map (λ (m : Node). m.cover) ns j d d.cover less))
      ∙ set-get_or (covers_of ns) j d.cover ∙ before.0,
  subst AreBlocks (sym (drop_more (set ns j n) j n (omega (arith, less, length-set ns j n))
      ∙ (λ i. get_or-set_same ns j n n less i ∷ drop-set-lt (j + 1) ns j n (omega arith) i)))
      (block, before.1),
)

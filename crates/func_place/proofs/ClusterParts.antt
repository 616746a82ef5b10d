-- Clusters partition the hot units: each is in exactly one cluster, once.
use Rattle.std.proofs.Common.{ℕ, ◌≡◌, ◌≢◌, ◌<◌, ◌≤◌, ◌+◌, ⊎_elim, Bool, true, false, List, [], ◌∷◌, ◌++◌, Option, Some, None}
use Rattle.std.proofs.Common.{arith, refl, sym, ◌∙◌, ap}
use Rattle.std.specs.Prelude.{◌==◌, nat_le, sum_by, filter}
use Rattle.std.specs.List.{fold, flat_map}
use Rattle.std.specs.List.Sorted.{IsPermutation}
use Rattle.std.proofs.lemmas.Grind.{common_steps}
use Rattle.std.proofs.lemmas.Bool.{cases_eq, cases_Bool}
use Rattle.std.proofs.lemmas.List.Sorted.{sum_by-IsPermutation}
use Rattle.rv_code.specs.layout.WorstSizes.{near_limit}
use Rattle.func_place.specs.Clusters.{alone, joined_clusters, appended, take_unit, total, has_unit}
use Rattle.func_place.specs.Ranks.{begins, cluster_heads}
use Rattle.func_place.proofs.Times.{one_if, times, times-nil, times-same, times-cons, times-one, times-append, times-flat_map}
use Rattle.func_place.proofs.Times.{times-filter_in, times-filter_out, has-times, times-has, sum-agree, sum-zero, sum-times}

pub record IsClustered (warm : ℕ → Bool) (cluster : ℕ → List ℕ) : Type 0 where
  pub itself : (u : ℕ) → times u (cluster u) ≡ 1
  pub same : (u v : ℕ) → 0 < times v (cluster u) → cluster v ≡ cluster u
  pub once : (u v : ℕ) → times v (cluster u) ≤ 1
  pub alike : (u v : ℕ) → 0 < times v (cluster u) → warm v ≡ warm u

pub alone_clustered : (warm : ℕ → Bool) → IsClustered warm alone
alone_clustered warm = record {
  itself = λ u. let t = times-same u [] in let z = times-nil u in omega arith;
  same = λ u v some. ap alone (sym (times-one v u some));
  once = λ u v. let c = times-cons v u [] in let z = times-nil v in let one = small (u == v) in omega arith;
  alike = λ u v some. ap warm (sym (times-one v u some));
}
  where
    small : (b : Bool) → one_if b ≤ 1
    small true = omega arith
    small false = omega arith

no_test : (xs : List ℕ) (u : ℕ) → has_unit xs u ≡ false → times u xs ≡ 0
no_test xs u h = ⊎_elim
    (λ (e : times u xs ≡ 0). e)
    (λ (ne : times u xs ≢ 0). absurd (both (has_unit xs u) (has-times xs u (omega arith)) h))
    (cases_eq (times u xs) 0)
  where
    both : (b : Bool) → b ≡ true → b ≡ false → ⊥
    both b i j = cc

-- no unit is in two clusters
apart : {warm : ℕ → Bool} {cluster : ℕ → List ℕ} → IsClustered warm cluster → (v u x : ℕ) → has_unit (cluster v) u ≡ false →
    0 < times x (cluster v) → 0 < times x (cluster u) → ⊥
apart {warm} {cluster} c v u x out in_v in_u =
    let e : cluster v ≡ cluster u = sym (c.same v x in_v) ∙ c.same u x in_u in
    let none = no_test (cluster v) u out in
    let one = c.itself u in
    let t : times u (cluster v) ≡ times u (cluster u) = ap (times u) e in
    omega arith

joined_clustered : {warm : ℕ → Bool} {cluster : ℕ → List ℕ} (v u : ℕ) → IsClustered warm cluster →
    has_unit (cluster v) u ≡ false →
    warm v ≡ warm u → IsClustered warm (joined_clusters (cluster v) (cluster u) cluster)
joined_clustered {warm} {cluster} v u c out warm_is =
    let a = cluster v in
    let b = cluster u in
    let both = a ++ b in
    let sum : (x : ℕ) → times x both ≡ times x a + times x b = λ x. times-append x a b in
    let one : (x : ℕ) → times x both ≤ 1 = λ x.
    let s = sum x in let p = c.once v x in let q = c.once u x in
    ⊎_elim
    (λ (z : times x a ≡ 0). omega arith)
    (λ (nz : times x a ≢ 0). ⊎_elim
    (λ (z : times x b ≡ 0). omega arith)
    (λ (mz : times x b ≢ 0). absurd (apart c v u x out (omega arith) (omega arith)))
    (cases_eq (times x b) 0))
    (cases_eq (times x a) 0) in
    let warm_in : (x : ℕ) → has_unit both x ≡ true → warm x ≡ warm u = λ x inside.
    let some = times-has both x inside in let s = sum x in
    ⊎_elim
    (λ (z : times x a ≡ 0). c.alike u x (omega arith))
    (λ (nz : times x a ≢ 0). c.alike v x (omega arith) ∙ warm_is)
    (cases_eq (times x a) 0) in
    let stays : (w x : ℕ) → has_unit both w ≡ false → 0 < times x (cluster w) → has_unit both x ≡ false = λ w x w_out x_in. ⊎_elim
    (λ (inside : has_unit both x ≡ true).
    let some = times-has both x inside in let s = sum x in let t = sum w in
    let none = no_test both w w_out in
    let self = c.itself w in
    let as_w : cluster x ≡ cluster w = c.same w x x_in in
    absurd (⊎_elim
    (λ (z : times x a ≡ 0).
    let e : cluster w ≡ b = sym as_w ∙ c.same u x (omega arith) in
    let r : times w (cluster w) ≡ times w b = ap (times w) e in
    omega arith)
    (λ (nz : times x a ≢ 0).
    let e : cluster w ≡ a = sym as_w ∙ c.same v x (omega arith) in
    let r : times w (cluster w) ≡ times w a = ap (times w) e in
    omega arith)
    (cases_eq (times x a) 0)))
    (λ (outside : has_unit both x ≡ false). outside)
    (cases_Bool (has_unit both x)) in
    record {
      itself = λ w. ⊎_elim
          (λ (inside : has_unit both w ≡ true). rw inside (let some = times-has both w inside in let l = one w in omega arith))
          (λ (outside : has_unit both w ≡ false). rw outside (c.itself w))
          (cases_Bool (has_unit both w));
      same = λ w x. ⊎_elim
          (λ (inside : has_unit both w ≡ true). rw inside (λ x_in. let h = has-times both x x_in in rw h refl))
          (λ (outside : has_unit both w ≡ false). rw outside (λ x_in. let h = stays w x outside x_in in rw h (c.same w x x_in)))
          (cases_Bool (has_unit both w));
      once = λ w x. ⊎_elim
          (λ (inside : has_unit both w ≡ true). rw inside (one x))
          (λ (outside : has_unit both w ≡ false). rw outside (c.once w x))
          (cases_Bool (has_unit both w));
      alike = λ w x. ⊎_elim
          (λ (inside : has_unit both w ≡ true). rw inside (λ x_in. warm_in x (has-times both x x_in) ∙ sym (warm_in w inside)))
          (λ (outside : has_unit both w ≡ false). rw outside (λ x_in. c.alike w x x_in))
          (cases_Bool (has_unit both w));
    }

appended_clustered : {warm : ℕ → Bool} {cluster : ℕ → List ℕ} (sizes : List ℕ) (v u : ℕ) → IsClustered warm cluster →
    warm v ≡ warm u → IsClustered warm (appended sizes (cluster v) (cluster u) u cluster)
appended_clustered {warm} {cluster} sizes v u c warm_is =
    let fits = nat_le (total sizes (cluster v) + total sizes (cluster u)) near_limit in
    ⊎_elim
    (λ (inside : has_unit (cluster v) u ≡ true). rw inside c)
    (λ (outside : has_unit (cluster v) u ≡ false). rw outside (⊎_elim
    (λ (small : fits ≡ true). rw small (joined_clustered v u c outside warm_is))
    (λ (large : fits ≡ false). rw large c)
    (cases_Bool fits)))
    (cases_Bool (has_unit (cluster v) u))

-- the units that are taken and their callers are hot
pub folded_clustered : (warm : ℕ → Bool) (sizes : List ℕ) (caller : ℕ → Option ℕ) →
    ((u v : ℕ) → caller u ≡ Some v → warm v ≡ true) → (taken : List ℕ) (cluster : ℕ → List ℕ) →
    ((u : ℕ) → 0 < times u taken → warm u ≡ true) → IsClustered warm cluster →
    IsClustered warm (fold (take_unit sizes caller) cluster taken)
folded_clustered warm sizes caller callers [] cluster all c = c
folded_clustered warm sizes caller callers (u ∷ us) cluster all c =
    folded_clustered warm sizes caller callers us (take_unit sizes caller cluster u)
    (λ w some. all w (let t = times-cons w u us in omega arith)) (go (caller u) refl)
  where
    here : warm u ≡ true
    here = all u (let t = times-same u us in omega arith)

    go : (o : Option ℕ) → caller u ≡ o → IsClustered warm (take_unit sizes caller cluster u)
    go None e = rw e c
    go (Some v) e = rw e (appended_clustered sizes v u c (callers u v e ∙ sym here))

-- Clusters by their first units.

-- the first unit of a list that isn't empty
record IsFirst (xs : List ℕ) (h : ℕ) : Type 0 where
  starts : begins xs h ≡ true
  inside : 0 < times h xs
  only : (x : ℕ) → begins xs x ≡ true → x ≡ h

starts_itself : (h : ℕ) (xs : List ℕ) → begins (h ∷ xs) h ≡ true
starts_itself h xs = grind (arith, common_steps)

starts_only : (h x : ℕ) (xs : List ℕ) → begins (h ∷ xs) x ≡ true → x ≡ h
starts_only h x xs e = grind (arith, common_steps)

first_of_list : (xs : List ℕ) (u : ℕ) → 0 < times u xs → (h : ℕ) × IsFirst xs h
first_of_list [] u some = absurd (let z = times-nil u in omega arith)
first_of_list (h ∷ xs) u some = (
  h,
  record { starts = starts_itself h xs; inside = let t = times-same h xs in omega arith; only = λ x e. starts_only h x xs e },
)

-- the clusters of the first units contain a hot unit once
heads_warm : {warm : ℕ → Bool} {cluster : ℕ → List ℕ} → IsClustered warm cluster → (taken : List ℕ) (w : ℕ) →
    ((u : ℕ) → warm u ≡ true → times u taken ≡ 1) → warm w ≡ true →
    sum_by (λ x. times w (cluster x)) (cluster_heads cluster taken) ≡ 1
heads_warm {warm} {cluster} c taken w once_taken is_warm =
    let itself = c.itself w in
    let first = first_of_list (cluster w) w (omega arith) in
    let h = first.0 in
    let f = first.1 in
    let same : cluster h ≡ cluster w = c.same w h f.inside in
    let starts : begins (cluster h) h ≡ true = ap (λ (xs : List ℕ). begins xs h) same ∙ f.starts in
    let warm_h : warm h ≡ true = c.alike w h f.inside ∙ is_warm in
    let each : (x : ℕ) → 0 < times x (cluster_heads cluster taken) → times w (cluster x) ≡ one_if (x == h) = λ x some. ⊎_elim
    (λ (e : x ≡ h). ap (λ (y : ℕ). times w (cluster y)) e ∙ ap (times w) same ∙ itself ∙ sym (yes_one x h e))
    (λ (ne : x ≢ h). ⊎_elim
    (λ (z : times w (cluster x) ≡ 0). z ∙ sym (no_one x h ne))
    (λ (nz : times w (cluster x) ≢ 0).
    let as_w : cluster w ≡ cluster x = c.same x w (omega arith) in
    let x_starts : begins (cluster x) x ≡ true = head_starts cluster taken x some in
    absurd (ne (f.only x (ap (λ (xs : List ℕ). begins xs x) as_w ∙ x_starts))))
    (cases_eq (times w (cluster x)) 0))
    (cases_eq x h) in
    sum-agree (λ x. times w (cluster x)) (λ x. one_if (x == h)) (cluster_heads cluster taken) each
    ∙ sum-times h (cluster_heads cluster taken)
    ∙ times-filter_in (λ u. begins (cluster u) u) h taken starts
    ∙ once_taken h warm_h
  where
    yes_one : (x h : ℕ) → x ≡ h → one_if (x == h) ≡ 1
    yes_one x h e = grind (arith, common_steps)

    no_one : (x h : ℕ) → x ≢ h → one_if (x == h) ≡ 0
    no_one x h ne = grind (arith, common_steps)

    head_starts : (cluster : ℕ → List ℕ) (taken : List ℕ) (x : ℕ) → 0 < times x (cluster_heads cluster taken) →
        begins (cluster x) x ≡ true
    head_starts cluster taken x some = ⊎_elim
        (λ (h : begins (cluster x) x ≡ true). h)
        (λ (h : begins (cluster x) x ≡ false).
        let z = times-filter_out (λ u. begins (cluster u) u) x taken h in absurd (omega arith))
        (cases_Bool (begins (cluster x) x))

heads_cold : {warm : ℕ → Bool} {cluster : ℕ → List ℕ} → IsClustered warm cluster → (taken : List ℕ) (w : ℕ) →
    ((u : ℕ) → 0 < times u taken → warm u ≡ true) → warm w ≡ false →
    sum_by (λ x. times w (cluster x)) (cluster_heads cluster taken) ≡ 0
heads_cold {warm} {cluster} c taken w all is_cold = sum-zero (λ x. times w (cluster x)) (cluster_heads cluster taken) (λ x some.
    ⊎_elim
    (λ (z : times w (cluster x) ≡ 0). z)
    (λ (nz : times w (cluster x) ≢ 0).
    let in_taken : 0 < times x taken = filter_less (λ u. begins (cluster u) u) x taken some in
    absurd (both (warm w) (c.alike x w (omega arith) ∙ all x in_taken) is_cold))
    (cases_eq (times w (cluster x)) 0))
  where
    both : (b : Bool) → b ≡ true → b ≡ false → ⊥
    both b i j = cc

    filter_less : (p : ℕ → Bool) (x : ℕ) (xs : List ℕ) → 0 < times x (filter p xs) → 0 < times x xs
    filter_less p x xs some = ⊎_elim
        (λ (h : p x ≡ true). let e = times-filter_in p x xs h in omega arith)
        (λ (h : p x ≡ false). let z = times-filter_out p x xs h in absurd (omega arith))
        (cases_Bool (p x))

pub ranked_warm : {warm : ℕ → Bool} {cluster : ℕ → List ℕ} → IsClustered warm cluster → (taken ranked : List ℕ) (w : ℕ) →
    IsPermutation (cluster_heads cluster taken) ranked → ((u : ℕ) → warm u ≡ true → times u taken ≡ 1) → warm w ≡ true →
    times w (flat_map cluster ranked) ≡ 1
ranked_warm {warm} {cluster} c taken ranked w p once_taken is_warm = times-flat_map w cluster ranked
    ∙ sum_by-IsPermutation (λ x. times w (cluster x)) (cluster_heads cluster taken) ranked p
    ∙ heads_warm c taken w once_taken is_warm

pub ranked_cold : {warm : ℕ → Bool} {cluster : ℕ → List ℕ} → IsClustered warm cluster → (taken ranked : List ℕ) (w : ℕ) →
    IsPermutation (cluster_heads cluster taken) ranked → ((u : ℕ) → 0 < times u taken → warm u ≡ true) → warm w ≡ false →
    times w (flat_map cluster ranked) ≡ 0
ranked_cold {warm} {cluster} c taken ranked w p all is_cold = times-flat_map w cluster ranked
    ∙ sum_by-IsPermutation (λ x. times w (cluster x)) (cluster_heads cluster taken) ranked p ∙ heads_cold c taken w all is_cold

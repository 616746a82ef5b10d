-- Items that each have a place of their own weigh at most as much as the places.
use Rattle.std.proofs.Common.{◌≡◌, ℕ, zero, suc, ◌+◌, ◌*◌, ◌≤◌, ◌⊎◌, inl, inr, List, [], ◌∷◌, ◌++◌, length, refl, sym, ap, subst}
use Rattle.std.proofs.Common.{arith, sum_by, map}
use Rattle.std.specs.Prelude.{Contains, AllPairs}
use Rattle.std.specs.List.{flat_map}
use Rattle.std.proofs.lemmas.List.Elements.{Contains-append_left, Contains-append_right, Contains-append_cases}
use Rattle.std.proofs.lemmas.List.Sums.{sum_by-cons, sum_by-append}
use Rattle.rb_bytes.proofs.Members.{Contains-there, Contains-nil, Contains-cons_cases}

record Split {Y : Type 0} (ys : List Y) (y : Y) : Type 0 where
  before : List Y
  after : List Y
  same : ys ≡ before ++ y ∷ after

split : {Y : Type 0} (ys : List Y) (y : Y) → Contains ys y → Split ys y
split [] y c = absurd (Contains-nil y c)
split (z ∷ zs) y c = by (split zs y) (Contains-cons_cases z zs y c) where
  by : (Contains zs y → Split zs y) → (z ≡ y) ⊎ Contains zs y → Split (z ∷ zs) y
  by more (inl e) = record { before = []; after = zs; same = ap (λ u. u ∷ zs) e }
  by more (inr d) =
      let s = more d in
      record { before = z ∷ s.before; after = s.after; same = ap (λ l. z ∷ l) s.same }

module _ {X Y : Type 0} (w : X → ℕ) (v : Y → ℕ) (R : X → Y → Type 0) where
  -- No place belongs to both items.
  abbrev pub Differ : X → X → Type 0
  Differ x z = (y : Y) → R x y → R z y → ⊥

  -- An item has a place with at least its weight.
  pub record HasPlace (ys : List Y) (x : X) : Type 0 where
    pub y : Y
    pub among : Contains ys y
    pub related : R x y
    pub enough : w x ≤ v y

  others : (before after : List Y) (y : Y) (x : X) → HasPlace (before ++ y ∷ after) x → (R x y → ⊥) → HasPlace (before ++ after) x
  others before after y x p differ = first (Contains-append_cases before (y ∷ after) p.y p.among) where
    rest : (y ≡ p.y) ⊎ Contains after p.y → HasPlace (before ++ after) x
    rest (inl e) = absurd (differ (subst (R x) (sym e) p.related))
    rest (inr c) =
        record { y = p.y; among = Contains-append_right before after p.y c; related = p.related; enough = p.enough }

    first : Contains before p.y ⊎ Contains (y ∷ after) p.y → HasPlace (before ++ after) x
    first (inl c) =
        record { y = p.y; among = Contains-append_left before after p.y c; related = p.related; enough = p.enough }
    first (inr c) = rest (Contains-cons_cases y after p.y c)

  without : (before after : List Y) (y : Y) →
      sum_by v (before ++ y ∷ after) ≡ v y + sum_by v (before ++ after)
  without before after y =
      let e = sum_by-append v before (y ∷ after) in
      let f = sum_by-cons v y after in
      let g = sum_by-append v before after in
      omega (arith, e, f, g)

  pub weighed : (xs : List X) (ys : List Y) → AllPairs Differ xs → ((x : X) → Contains xs x → HasPlace ys x) →
      sum_by w xs ≤ sum_by v ys
  weighed [] ys differ places = omega arith
  weighed (x ∷ xs) ys differ places =
      by (λ zs. weighed xs zs (λ i j d less within. differ (suc i) (suc j) d (omega arith) (omega arith)))
      (places x (zero, omega arith, refl))
    where
      apart : (z : X) → Contains xs z → Differ x z
      apart z (k, within, is) = subst (Differ x) is (differ zero (suc k) z (omega arith) (omega (arith, within)))

      at : ((zs : List Y) → ((z : X) → Contains xs z → HasPlace zs z) → sum_by w xs ≤ sum_by v zs) → (p : HasPlace ys x) →
          Split ys p.y → sum_by w (x ∷ xs) ≤ sum_by v ys
      at more p s =
          let left : sum_by w xs ≤ sum_by v (s.before ++ s.after) = more (s.before ++ s.after)
          (λ z c. others s.before s.after p.y z
          (subst (λ (l : List Y). HasPlace l z) s.same (places z (Contains-there x xs z c)))
          (λ r. apart z c p.y p.related r)) in
          let e = sum_by-cons w x xs in
          let f = without s.before s.after p.y in
          let g : sum_by v ys ≡ sum_by v (s.before ++ p.y ∷ s.after) = ap (λ (l : List Y). sum_by v l) s.same in
          let enough = p.enough in
          omega (arith, e, f, g, left, enough)

      by : ((zs : List Y) → ((z : X) → Contains xs z → HasPlace zs z) → sum_by w xs ≤ sum_by v zs) → HasPlace ys x →
          sum_by w (x ∷ xs) ≤ sum_by v ys
      by more p = at more p (split ys p.y p.among)

-- The places of several owners. Each owner gives all its places the same weight.
module _ {F C : Type 0} (places : F → List C) (size : F → ℕ) where
  abbrev pub owned : F → List (F × C)
  owned f = map (λ c. (f, c)) (places f)

  abbrev pub all_owned : List F → List (F × C)
  all_owned fs = flat_map owned fs

  one_weight : (f : F) (cs : List C) → sum_by (λ (p : F × C). size p.0) (map (λ c. (f, c)) cs) ≡ length cs * size f
  one_weight f [] = grind arith
  one_weight f (c ∷ cs) =
      let e = sum_by-cons (λ (p : F × C). size p.0) (f, c) (map (λ d. (f, d)) cs) in
      let ih = one_weight f cs in
      grind (arith, e, ih)

  pub all_weights : (fs : List F) →
      sum_by (λ (p : F × C). size p.0) (all_owned fs) ≡ sum_by (λ f. length (places f) * size f) fs
  all_weights [] = refl
  all_weights (f ∷ fs) =
      let e = sum_by-append (λ (p : F × C). size p.0) (owned f) (all_owned fs) in
      let g = one_weight f (places f) in
      let h = sum_by-cons (λ g. length (places g) * size g) f fs in
      let ih = all_weights fs in
      omega (arith, e, g, h, ih)

  map_has : (f : F) (cs : List C) (c : C) → Contains cs c → Contains {X = F × C} (map (λ d. (f, d)) cs) (f, c)
  map_has f [] c k = absurd (Contains-nil c k)
  map_has f (d ∷ cs) c k = by (map_has f cs c) (Contains-cons_cases d cs c k) where
    by : (Contains cs c → Contains {X = F × C} (map (λ d. (f, d)) cs) (f, c)) → (d ≡ c) ⊎ Contains cs c →
        Contains {X = F × C} (map (λ d. (f, d)) (d ∷ cs)) (f, c)
    by more (inl e) =
        let here : Contains {X = F × C} (map (λ d. (f, d)) (d ∷ cs)) (f, c) =
        (zero, omega arith, ap (λ (u : C). (f, u)) e) in here
    by more (inr m) = Contains-there (f, d) (map (λ d. (f, d)) cs) (f, c) (more m)

  pub owned_has : (fs : List F) (f : F) (c : C) → Contains fs f → Contains (places f) c → Contains {X = F × C} (all_owned fs) (f, c)
  owned_has [] f c a b = absurd (Contains-nil f a)
  owned_has (g ∷ fs) f c a b = by (λ m. owned_has fs f c m b) (Contains-cons_cases g fs f a) where
    by : (Contains fs f → Contains {X = F × C} (all_owned fs) (f, c)) → (g ≡ f) ⊎ Contains fs f →
        Contains {X = F × C} (all_owned (g ∷ fs)) (f, c)
    by more (inl e) = Contains-append_left (owned g) (all_owned fs) (f, c)
        (subst (λ (u : F). Contains {X = F × C} (owned u) (f, c)) (sym e) (map_has f (places f) c b))
    by more (inr m) = Contains-append_right (owned g) (all_owned fs) (f, c) (more m)

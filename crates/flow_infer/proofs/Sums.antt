-- Sums over links, weighted by their ends.
use Rattle.std.proofs.Common.{◌≡◌, ◌+◌, ◌*◌, ◌<◌, ◌≤◌, ◌==◌, ℕ, true, false, List, [], ◌∷◌, Option, Some, None, zero, suc, add-one, ltb}
use Rattle.std.proofs.Common.{add-mul, mul_comm, zero-mul, zero-add, ⊎_elim, ◌⊎◌, refl, sym, ap, ◌∙◌, subst, arith, sum_by, if◌then◌else◌}
use Rattle.std.proofs.Common.{get_or, map}
use Rattle.std.proofs.lemmas.List.Sums.{sum_by-cons}
use Rattle.std.proofs.lemmas.Bool.{lt-ltb, le-ltb, eq-eqb, ne_eqb, cases_order, cases_lt}
use Rattle.edge_profile.proofs.AscendingPairs.{sum_none}
use Rattle.flow_infer.specs.declared.flow.Link.{Link}
use Rattle.flow_infer.specs.Flows.{is_block, Balances}

-- a sum whose terms are sums
pub sum_of_sums : {X : Type 0} (f g h : X → ℕ) → ((x : X) → h x ≡ f x + g x) → (xs : List X) → sum_by h xs ≡ sum_by f xs + sum_by g xs
sum_of_sums f g h e [] = refl
sum_of_sums f g h e (x ∷ xs) =
    let rest : sum_by h xs ≡ sum_by f xs + sum_by g xs = sum_of_sums f g h e xs in
    let here : h x ≡ f x + g x = e x in
    let a : sum_by h (x ∷ xs) ≡ h x + sum_by h xs = sum_by-cons h x xs in
    let b : sum_by f (x ∷ xs) ≡ f x + sum_by f xs = sum_by-cons f x xs in
    let c : sum_by g (x ∷ xs) ≡ g x + sum_by g xs = sum_by-cons g x xs in
    omega arith

pub sum_mapped : {X Y : Type 0} (f : Y → ℕ) (g : X → Y) (xs : List X) → sum_by f (map g xs) ≡ sum_by (λ x. f (g x)) xs
sum_mapped f g [] = refl
sum_mapped f g (x ∷ xs) =
    sum_by-cons f (g x) (map g xs) ∙ ap (λ (j : ℕ). f (g x) + j) (sum_mapped f g xs) ∙ sym (sum_by-cons (λ y. f (g y)) x xs)

pub sum_alike : {X : Type 0} (f g : X → ℕ) → ((x : X) → f x ≡ g x) → (xs : List X) → sum_by f xs ≡ sum_by g xs
sum_alike f g e [] = refl
sum_alike f g e (x ∷ xs) =
    let rest : sum_by f xs ≡ sum_by g xs = sum_alike f g e xs in
    let here : f x ≡ g x = e x in
    let b : sum_by f (x ∷ xs) ≡ f x + sum_by f xs = sum_by-cons f x xs in
    let c : sum_by g (x ∷ xs) ≡ g x + sum_by g xs = sum_by-cons g x xs in
    omega arith

pub sum_scaled : {X : Type 0} (f : X → ℕ) (c : ℕ) (xs : List X) → sum_by (λ x. f x * c) xs ≡ sum_by f xs * c
sum_scaled f c [] = sym (zero-mul c)
sum_scaled f c (x ∷ xs) =
    let rest : sum_by (λ x. f x * c) xs ≡ sum_by f xs * c = sum_scaled f c xs in
    let b : sum_by (λ x. f x * c) (x ∷ xs) ≡ f x * c + sum_by (λ x. f x * c) xs = sum_by-cons (λ x. f x * c) x xs in
    let d : sum_by f (x ∷ xs) ≡ f x + sum_by f xs = sum_by-cons f x xs in
    b ∙ ap (λ n. f x * c + n) rest ∙ sym (add-mul (f x) (sum_by f xs) c) ∙ ap (λ n. n * c) (sym d)

-- The weight of a block, and of an end of a link: the outside has the weight 0.
abbrev pub at_end : (ℕ → ℕ) → Option ℕ → ℕ
at_end w None = 0
at_end w (Some k) = w k

-- the weight of blocks before the n-th, and 0 from there on
abbrev pub below : ℕ → (ℕ → ℕ) → ℕ → ℕ
below n w k = if ltb k n then w k else 0

abbrev pub weighed : (Link → Option ℕ) → (ℕ → ℕ) → List Link → ℕ
weighed end w links = sum_by (λ l. at_end w (end l) * l.flow) links

abbrev pub flow_at : (Link → Option ℕ) → ℕ → List Link → ℕ
flow_at end k links = sum_by (λ l. if is_block k (end l) then l.flow else 0) links

one_more : (w : ℕ → ℕ) (n k f : ℕ) → below (n + 1) w k * f ≡ below n w k * f + (if n == k then f else 0) * w n
one_more w n k f = ⊎_elim
    (λ (e : n ≡ k).
    let a : ltb k (n + 1) ≡ true = let l : k < n + 1 = omega arith in lt-ltb k (n + 1) l in
    let b : ltb k n ≡ false = let l : n ≤ k = omega arith in le-ltb k n l in
    let c : (n == k) ≡ true = eq-eqb n k e in
    rw (a, b, c) (mul_comm (w k) f ∙ ap (λ (j : ℕ). f * w j) (sym e) ∙ sym (ap (λ (j : ℕ). j + f * w n) (zero-mul f) ∙ zero-add (f * w n))))
    (λ (o : (n < k) ⊎ (k < n)). ⊎_elim
    (λ (lt : n < k).
    let a : ltb k (n + 1) ≡ false = let l : n + 1 ≤ k = omega arith in le-ltb k (n + 1) l in
    let b : ltb k n ≡ false = let l : n ≤ k = omega arith in le-ltb k n l in
    let c : (n == k) ≡ false = let ne : n ≡ k → ⊥ = λ e. absurd (omega arith) in ne_eqb n k ne in
    rw (a, b, c) (let z : 0 * f ≡ 0 = zero-mul f in let y : 0 * w n ≡ 0 = zero-mul (w n) in omega arith))
    (λ (lt : k < n).
    let a : ltb k (n + 1) ≡ true = let l : k < n + 1 = omega arith in lt-ltb k (n + 1) l in
    let b : ltb k n ≡ true = lt-ltb k n lt in
    let c : (n == k) ≡ false = let ne : n ≡ k → ⊥ = λ e. absurd (omega arith) in ne_eqb n k ne in
    rw (a, b, c) (let y : 0 * w n ≡ 0 = zero-mul (w n) in omega arith))
    o)
    (cases_order n k)

one_more_end : (w : ℕ → ℕ) (n f : ℕ) (end : Option ℕ) →
    at_end (below (n + 1) w) end * f ≡ at_end (below n w) end * f + (if is_block n end then f else 0) * w n
one_more_end w n f None = let z : 0 * f ≡ 0 = zero-mul f in let y : 0 * w n ≡ 0 = zero-mul (w n) in omega arith
one_more_end w n f (Some k) = one_more w n k f

none_below : (w : ℕ → ℕ) (f : ℕ) (end : Option ℕ) → at_end (below 0 w) end * f ≡ 0
none_below w f None = zero-mul f
none_below w f (Some k) = let a : ltb k 0 ≡ false = let l : 0 ≤ k = omega arith in le-ltb k 0 l in rw a (zero-mul f)

-- The weights of one more block add its flow.
weighed_more : (end : Link → Option ℕ) (w : ℕ → ℕ) (n : ℕ) (links : List Link) →
    weighed end (below (n + 1) w) links ≡ weighed end (below n w) links + flow_at end n links * w n
weighed_more end w n links =
    sum_of_sums (λ l. at_end (below n w) (end l) * l.flow) (λ l. (if is_block n (end l) then l.flow else 0) * w n)
    (λ l. at_end (below (n + 1) w) (end l) * l.flow) (λ l. one_more_end w n l.flow (end l)) links
    ∙ ap (λ (j : ℕ). weighed end (below n w) links + j) (sum_scaled (λ l. if is_block n (end l) then l.flow else 0) (w n) links)

balanced_below : (w : ℕ → ℕ) (links : List Link) → Balances links → (n : ℕ) →
    weighed (λ l. l.to) (below n w) links ≡ weighed (λ l. l.from) (below n w) links
balanced_below w links balanced zero =
    sum_none (λ l. at_end (below 0 w) l.to * l.flow) links
    (λ i d within. none_below w (get_or links i d).flow (get_or links i d).to)
    ∙ sym (sum_none (λ l. at_end (below 0 w) l.from * l.flow) links
    (λ i d within. none_below w (get_or links i d).flow (get_or links i d).from))
balanced_below w links balanced (suc n) =
    let a : weighed (λ l. l.to) (below (n + 1) w) links ≡ weighed (λ l. l.to) (below n w) links + flow_at (λ l. l.to) n links * w n =
    weighed_more (λ l. l.to) w n links in
    let b : weighed (λ l. l.from) (below (n + 1) w) links ≡ weighed (λ l. l.from) (below n w) links + flow_at (λ l. l.from) n links * w n =
    weighed_more (λ l. l.from) w n links in
    let c : weighed (λ l. l.to) (below n w) links ≡ weighed (λ l. l.from) (below n w) links = balanced_below w links balanced n in
    let d : flow_at (λ l. l.to) n links * w n ≡ flow_at (λ l. l.from) n links * w n = ap (λ (j : ℕ). j * w n) (balanced n) in
    let e : weighed (λ l. l.to) (below (n + 1) w) links ≡ weighed (λ l. l.from) (below (n + 1) w) links = omega arith in
    subst (λ (j : ℕ). weighed (λ l. l.to) (below j w) links ≡ weighed (λ l. l.from) (below j w) links) (add-one n) e

below_all : (w : ℕ → ℕ) (n : ℕ) → ((k : ℕ) → n ≤ k → w k ≡ 0) → (k : ℕ) → below n w k ≡ w k
below_all w n none k = ⊎_elim
    (λ (lt : k < n). let b : ltb k n ≡ true = lt-ltb k n lt in rw b refl)
    (λ (ge : n ≤ k). let b : ltb k n ≡ false = le-ltb k n ge in rw b (sym (none k ge)))
    (cases_lt k n)

at_end_all : (w : ℕ → ℕ) (n : ℕ) → ((k : ℕ) → n ≤ k → w k ≡ 0) → (end : Option ℕ) → at_end (below n w) end ≡ at_end w end
at_end_all w n none None = refl
at_end_all w n none (Some k) = below_all w n none k

-- By balance, weighted inflows and weighted outflows have the same sum, for any weights.
pub balanced_weights : (w : ℕ → ℕ) (n : ℕ) → ((k : ℕ) → n ≤ k → w k ≡ 0) → (links : List Link) → Balances links →
    weighed (λ l. l.to) w links ≡ weighed (λ l. l.from) w links
balanced_weights w n none links balanced =
    sum_alike (λ l. at_end w l.to * l.flow) (λ l. at_end (below n w) l.to * l.flow)
    (λ l. ap (λ (j : ℕ). j * l.flow) (sym (at_end_all w n none l.to))) links
    ∙ balanced_below w links balanced n
    ∙ sum_alike (λ l. at_end (below n w) l.from * l.flow) (λ l. at_end w l.from * l.flow)
    (λ l. ap (λ (j : ℕ). j * l.flow) (at_end_all w n none l.from)) links

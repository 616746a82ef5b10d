-- The definition of the heaviest caller gives a unit with its properties, and only one unit has them.
use Rattle.std.proofs.Common.{get_or, subst, ℕ, zero, suc, ◌≡◌, ◌≢◌, ◌⊎◌, ◌<◌, ◌≤◌, ◌+◌, ◌&&◌, not, inl, inr, ⊎_elim, Bool, true}
use Rattle.std.proofs.Common.{false, List, [], ◌∷◌, length, Option, None, Some, arith, refl, sym, ap}
use Rattle.std.specs.Prelude.{◌==◌, nat_lt, filter, All, slice_index}
use Rattle.std.specs.List.{fold, reduce, range_with_len}
use Rattle.std.proofs.lemmas.List.{get_or_past}
use Rattle.std.proofs.lemmas.Grind.{common_steps}
use Rattle.std.proofs.lemmas.Bool.{cases_eq, cases_lt, cases_Bool}
use Rattle.func_place.specs.declared.calls.UnitCall.{UnitCall}
use Rattle.func_place.specs.Calls.{calls_between, callers_of, heavier, heaviest_caller}
use Rattle.func_place.proofs.Heaviest.{CallsMore, Calls, IsHeaviest, more_trans, more_self, occurs}

abbrev calls_it : List ℕ → List UnitCall → ℕ → ℕ → Bool
calls_it heats calls u v = nat_lt 0 (slice_index heats v) && (not (v == u) && nat_lt 0 (calls_between calls v u))

abbrev from_to : List ℕ → List UnitCall → ℕ → ℕ → ℕ → List ℕ
from_to heats calls u a k = filter (calls_it heats calls u) (range_with_len a k)

record IsTested (h v u n : ℕ) : Type 0 where
  other : v ≢ u
  hot : 0 < h
  some : 0 < n

tested : (h v u n : ℕ) → (nat_lt 0 h && (not (v == u) && nat_lt 0 n)) ≡ true → IsTested h v u n
tested h v u n is = record {
  other = λ e. absurd (grind (arith, common_steps));
  hot = grind (arith, common_steps);
  some = grind (arith, common_steps);
}

untested : (h v u n : ℕ) → (nat_lt 0 h && (not (v == u) && nat_lt 0 n)) ≡ false → 0 < h → v ≢ u → 0 < n → ⊥
untested h v u n is hot ne some = grind (arith, common_steps)

calls_yes : (heats : List ℕ) (calls : List UnitCall) (u v : ℕ) → calls_it heats calls u v ≡ true → Calls heats calls u v
calls_yes heats calls u v h =
    let t = tested (slice_index heats v) v u (calls_between calls v u) h in
    record { other = t.other; hot = t.hot; some = t.some }

calls_no : (heats : List ℕ) (calls : List UnitCall) (u v : ℕ) → calls_it heats calls u v ≡ false → Calls heats calls u v → ⊥
calls_no heats calls u v h c = untested (slice_index heats v) v u (calls_between calls v u) h c.hot c.other c.some

-- one filter after another
filter-filter : (p q : ℕ → Bool) (xs : List ℕ) → filter p (filter q xs) ≡ filter (λ x. q x && p x) xs
filter-filter p q [] = refl
filter-filter p q (x ∷ xs) = ⊎_elim
    (λ (h : q x ≡ true). ⊎_elim
    (λ (k : p x ≡ true). rw (h, k) (ap (λ (ys : List ℕ). x ∷ ys) (filter-filter p q xs)))
    (λ (k : p x ≡ false). rw (h, k) (filter-filter p q xs))
    (cases_Bool (p x)))
    (λ (h : q x ≡ false). rw h (filter-filter p q xs))
    (cases_Bool (q x))

callers-from_to : (heats : List ℕ) (calls : List UnitCall) (u : ℕ) →
    callers_of heats calls u ≡ from_to heats calls u 0 (length heats)
callers-from_to heats calls u = filter-filter (λ v. not (v == u) && nat_lt 0 (calls_between calls v u))
    (λ v. nat_lt 0 (slice_index heats v)) (range_with_len 0 (length heats))

-- the heaviest of a unit v and the callers from a on
record BestFrom (heats : List ℕ) (calls : List UnitCall) (u a k v r : ℕ) : Type 0 where
  calls_u : Calls heats calls u r
  first : CallsMore calls u r v
  rest : (w : ℕ) → a ≤ w → w < a + k → Calls heats calls u w → CallsMore calls u r w

best_from : (heats : List ℕ) (calls : List UnitCall) (u k a v : ℕ) → v < a → Calls heats calls u v →
    BestFrom heats calls u a k v (fold (heavier calls u) v (from_to heats calls u a k))
best_from heats calls u zero a v lt c =
    record { calls_u = c; first = more_self calls u v; rest = λ w le w_lt _. absurd (omega arith) }
best_from heats calls u (suc k) a v lt c = ⊎_elim
    (λ (h : calls_it heats calls u a ≡ true). rw h (⊎_elim
    (λ (more : nat_lt (calls_between calls v u) (calls_between calls a u) ≡ true). let is : heavier calls u v a ≡ a =
    rw more refl in
    subst (λ (x : ℕ). BestFrom heats calls u a (suc k) v (fold (heavier calls u) x (from_to heats calls u (a + 1) k))) (sym is) (
    let b = best_from heats calls u k (a + 1) a (omega arith) (calls_yes heats calls u a h) in
    let less : calls_between calls v u < calls_between calls a u = grind (arith, common_steps) in
    record {
      calls_u = b.calls_u;
      first = more_trans calls u _ a v b.first (inl less);
      rest = λ w le w_lt cw. ⊎_elim (λ (e : w ≡ a). rw e b.first)
          (λ (ne : w ≢ a). b.rest w (omega arith) (omega arith) cw) (cases_eq w a);
    }))
    (λ (less : nat_lt (calls_between calls v u) (calls_between calls a u) ≡ false). let is : heavier calls u v a ≡ v =
    rw less refl in
    subst (λ (x : ℕ). BestFrom heats calls u a (suc k) v (fold (heavier calls u) x (from_to heats calls u (a + 1) k))) (sym is) (
    let b = best_from heats calls u k (a + 1) v (omega arith) c in
    let le_count : calls_between calls a u ≤ calls_between calls v u = grind (arith, common_steps) in
    let va : CallsMore calls u v a = at_least _ _ v a le_count (omega arith) in
    record {
      calls_u = b.calls_u;
      first = b.first;
      rest = λ w le w_lt cw. ⊎_elim (λ (e : w ≡ a). rw e (more_trans calls u _ v a b.first va))
          (λ (ne : w ≢ a). b.rest w (omega arith) (omega arith) cw) (cases_eq w a);
    }))
    (cases_Bool (nat_lt (calls_between calls v u) (calls_between calls a u)))))
    (λ (h : calls_it heats calls u a ≡ false). rw h (
    let b = best_from heats calls u k (a + 1) v (omega arith) c in
    record {
      calls_u = b.calls_u;
      first = b.first;
      rest = λ w le w_lt cw. ⊎_elim (λ (e : w ≡ a). absurd (calls_no heats calls u a h (rw e at cw)))
          (λ (ne : w ≢ a). b.rest w (omega arith) (omega arith) cw) (cases_eq w a);
    }))
    (cases_Bool (calls_it heats calls u a))
  where
    at_least : (m n v a : ℕ) → m ≤ n → v ≤ a → (m < n) ⊎ ((m ≡ n) × (v ≤ a))
    at_least m n v a le va = ⊎_elim (λ (lt : m < n). inl lt) (λ (ge : n ≤ m). inr (omega arith, va)) (cases_lt m n)

-- the heaviest of the callers below n
abbrev IsHeaviestBelow : List ℕ → List UnitCall → ℕ → ℕ → Option ℕ → Type 0
IsHeaviestBelow heats calls u n None = (w : ℕ) → w < n → Calls heats calls u w → ⊥
IsHeaviestBelow heats calls u n (Some v) =
    Calls heats calls u v × ((w : ℕ) → w < n → Calls heats calls u w → CallsMore calls u v w)

reduced : (heats : List ℕ) (calls : List UnitCall) (u k a : ℕ) → ((w : ℕ) → w < a → Calls heats calls u w → ⊥) →
    IsHeaviestBelow heats calls u (a + k) (reduce (heavier calls u) (from_to heats calls u a k))
reduced heats calls u zero a none = λ w lt c. none w (omega arith) c
reduced heats calls u (suc k) a none = ⊎_elim
    (λ (h : calls_it heats calls u a ≡ true). rw h (
    let b = best_from heats calls u k (a + 1) a (omega arith) (calls_yes heats calls u a h) in (
      b.calls_u,
      λ w lt c. ⊎_elim (λ (less : w < a). absurd (none w less c)) (λ (ge : a ≤ w). ⊎_elim (λ (e : w ≡ a). rw e b.first)
          (λ (ne : w ≢ a). b.rest w (omega arith) (omega arith) c) (cases_eq w a)) (cases_lt w a),
    )))
    (λ (h : calls_it heats calls u a ≡ false). rw h (let s : a + suc k ≡ (a + 1) + k = omega arith in rw s (
    reduced heats calls u k (a + 1) (λ w lt c. ⊎_elim (λ (e : w ≡ a). calls_no heats calls u a h (rw e at c))
    (λ (ne : w ≢ a). none w (omega arith) c) (cases_eq w a)))))
    (cases_Bool (calls_it heats calls u a))

heaviest_below : (heats : List ℕ) (calls : List UnitCall) (u n : ℕ) (o : Option ℕ) → ((w : ℕ) → Calls heats calls u w → w < n) →
    IsHeaviestBelow heats calls u n o → IsHeaviest heats calls u o
heaviest_below heats calls u n None inside h = λ w c. h w (inside w c) c
heaviest_below heats calls u n (Some v) inside h = (h.0, λ w c. h.1 w (inside w c) c)

one : (calls : List UnitCall) (u v w : ℕ) → CallsMore calls u v w → CallsMore calls u w v → v ≡ w
one calls u v w (inl a) (inl b) = absurd (omega arith)
one calls u v w (inl a) (inr b) = absurd (let e = b.0 in omega arith)
one calls u v w (inr a) (inl b) = absurd (let e = a.0 in omega arith)
one calls u v w (inr a) (inr b) = let m = a.1 in let n = b.1 in omega arith

pub only_heaviest : (heats : List ℕ) (calls : List UnitCall) (u : ℕ) (o p : Option ℕ) → IsHeaviest heats calls u o →
    IsHeaviest heats calls u p → o ≡ p
only_heaviest heats calls u None None a b = refl
only_heaviest heats calls u None (Some w) a b = absurd (a w b.0)
only_heaviest heats calls u (Some v) None a b = absurd (b v a.0)
only_heaviest heats calls u (Some v) (Some w) a b = ap Some (one calls u v w (a.1 w b.0) (b.1 v a.0))

-- the result of the definition
is_heaviest : (heats : List ℕ) (calls : List UnitCall) (u : ℕ) →
    IsHeaviestBelow heats calls u (length heats) (heaviest_caller heats calls u)
is_heaviest heats calls u =
    let z : 0 + length heats ≡ length heats = omega arith in
    let h : IsHeaviestBelow heats calls u (length heats) (reduce (heavier calls u) (from_to heats calls u 0 (length heats))) =
    rw z at (reduced heats calls u (length heats) 0 (λ w lt c. absurd (omega arith))) in
    subst (λ (vs : List ℕ). IsHeaviestBelow heats calls u (length heats) (reduce (heavier calls u) vs))
    (sym (callers-from_to heats calls u)) h

-- a hot unit is in the list
hot_inside : (heats : List ℕ) (w : ℕ) → 0 < slice_index heats w → w < length heats
hot_inside heats w hot = ⊎_elim (λ (lt : w < length heats). lt) (λ (ge : length heats ≤ w).
    let past = get_or_past heats w 0 ge in
    absurd (omega arith)) (cases_lt w (length heats))

heaviest-is : (heats : List ℕ) (calls : List UnitCall) (u : ℕ) (o : Option ℕ) → IsHeaviest heats calls u o →
    o ≡ heaviest_caller heats calls u
heaviest-is heats calls u o h = only_heaviest heats calls u o _ h
    (heaviest_below heats calls u (length heats) _ (λ w c. hot_inside heats w c.hot) (is_heaviest heats calls u))

-- a number that isn't a unit has no callers
pub callers_found : (heats : List ℕ) (calls : List UnitCall) (best : List (Option ℕ)) (u : ℕ) →
    All (λ c. (c.from < length heats) × (c.to < length heats)) calls → length best ≡ length heats →
    ((w : ℕ) → w < length heats → IsHeaviest heats calls w (get_or best w None)) →
    get_or best u None ≡ heaviest_caller heats calls u
callers_found heats calls best u inside len all = heaviest-is heats calls u (get_or best u None) (⊎_elim
    (λ (lt : u < length heats). all u lt)
    (λ (ge : length heats ≤ u). rw (get_or_past best u None (omega arith)) (λ w c.
    let k = occurs calls w u c.some in
    let h = (inside k.0 (record { from = 0; to = 0; count = 0 }) k.1).1 in
    let to = k.3 in
    omega arith))
    (cases_lt u (length heats)))

pub caller_in : (heats : List ℕ) (calls : List UnitCall) (u v : ℕ) → heaviest_caller heats calls u ≡ Some v →
    Calls heats calls u v
caller_in heats calls u v e = (subst (IsHeaviestBelow heats calls u (length heats)) e (is_heaviest heats calls u)).0

pub caller_below : (heats : List ℕ) (calls : List UnitCall) (u v : ℕ) → heaviest_caller heats calls u ≡ Some v → v < length heats
caller_below heats calls u v e = hot_inside heats v (caller_in heats calls u v e).hot

pub same_callers : (f g : ℕ → Option ℕ) → ((u : ℕ) → f u ≡ g u) → f ≡ g
same_callers f g same = λ i u. same u i

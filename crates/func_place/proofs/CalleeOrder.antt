-- Calls sorted by callee and caller.
use Rattle.std.proofs.Common.{ℕ, ◌≡◌, ◌<◌, ◌≤◌, ◌&&◌, ◌||◌, ◌⊎◌, inl, inr, Bool, List, get_or, arith, ◌∙◌, ap}
use Rattle.std.specs.Prelude.{◌==◌, not, nat_lt, if◌then◌else◌, filter}
use Rattle.std.specs.Cmp.{IsStrictWeakOrder}
use Rattle.std.specs.List.{reduce}
use Rattle.std.specs.List.Sorted.{IsPermutation, IsSortedBy}
use Rattle.std.proofs.lemmas.List.Sorted.{sorted_far, sum_by-IsPermutation}
use Rattle.func_place.specs.declared.calls.UnitCall.{UnitCall}
use Rattle.func_place.specs.Calls.{calls_between, hot_units, heaviest_caller}
use Rattle.func_place.specs.internal.HeaviestCallers.{IsUpTo, AreByCallee}
use Rattle.func_place.proofs.Ranking.{less_no, less_not, less_once}

abbrev pub by_callee : UnitCall → UnitCall → Bool
by_callee a b = nat_lt a.to b.to || ((a.to == b.to) && nat_lt a.from b.from)

chain : (a b c x y z : ℕ) → (b < a) ⊎ ((a ≡ b) × (y ≤ x)) → (c < b) ⊎ ((b ≡ c) × (z ≤ y)) → (c < a) ⊎ ((a ≡ c) × (z ≤ x))
chain a b c x y z (inl p) (inl q) = inl (omega arith)
chain a b c x y z (inl p) (inr q) = inl (let e = q.0 in omega arith)
chain a b c x y z (inr p) (inl q) = inl (let e = p.0 in omega arith)
chain a b c x y z (inr p) (inr q) = inr (p.0 ∙ q.0, let e = p.1 in let f = q.1 in omega arith)

callee_order : IsStrictWeakOrder by_callee
callee_order = record {
  one_way = λ a b h. less_once a.to b.to a.from b.from h;
  chain = λ a b c h k. less_not a.to c.to a.from c.from
      (chain a.to b.to c.to a.from b.from c.from (less_no a.to b.to a.from b.from h) (less_no b.to c.to b.from c.from k));
}

up_to : (a b : UnitCall) → (a.to < b.to) ⊎ ((b.to ≡ a.to) × (a.from ≤ b.from)) → IsUpTo a b
up_to a b (inl lt) = record { to = omega arith; from = λ e. absurd (omega arith) }
up_to a b (inr e) = let to = e.0 in record { to = omega arith; from = λ same. e.1 }

pub AreByCallee-sorted : (calls : List UnitCall) → IsSortedBy by_callee calls → AreByCallee calls
AreByCallee-sorted calls sorted = λ i j d le lt.
    let a = get_or calls i d in
    let b = get_or calls j d in
    up_to a b (less_no b.to a.to b.from a.from (sorted_far by_callee callee_order calls sorted i j d le lt))

-- The heaviest caller doesn't depend on the order of calls.

same_between : (calls others : List UnitCall) → IsPermutation calls others → calls_between others ≡ calls_between calls
same_between calls others p =
    λ i v u. sum_by-IsPermutation (λ (c : UnitCall). if (c.from == v) && (c.to == u) then c.count else 0) calls others p i

pub heaviest_caller-IsPermutation : (heats : List ℕ) (calls others : List UnitCall) (u : ℕ) → IsPermutation calls others →
    heaviest_caller heats others u ≡ heaviest_caller heats calls u
heaviest_caller-IsPermutation heats calls others u p =
    ap (λ (between : ℕ → ℕ → ℕ). reduce (λ (v w : ℕ). if nat_lt (between v u) (between w u) then w else v)
    (filter (λ (v : ℕ). not (v == u) && nat_lt 0 (between v u)) (hot_units heats))) (same_between calls others p)

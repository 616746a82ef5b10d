-- Calls between units are between units of the list, and their sum is at most the sum of the pairs.
use Rattle.std.proofs.Common.{ℕ, ◌≡◌, ◌<◌, ◌≤◌, Option, Some, None, List, [], ◌∷◌, sym, ap, refl, arith}
use Rattle.std.specs.Prelude.{All, sum_by, slice_index, option_and_then}
use Rattle.std.specs.Option.{option_map}
use Rattle.std.proofs.lemmas.List.Elements.{All-nil, All-cons}
use Rattle.std.proofs.lemmas.List.Sums.{sum_by-cons}
use Rattle.std.proofs.lemmas.Option.{same_Some}
use Rattle.rv_code.specs.declared.placed.Func.{Func}
use Rattle.func_place.specs.declared.calls.UnitCall.{UnitCall}
use Rattle.rv_code.specs.layout.FunctionMembers.{function_at}
use Rattle.func_place.specs.Placement.{unit_call, unit_calls}

-- the call of a pair
pub record IsMade (units : List ℕ) (o q : Option ℕ) (n : ℕ) (call : UnitCall) : Type 0 where
  pub from : ℕ
  pub to : ℕ
  pub from_is : o ≡ Some from
  pub to_is : q ≡ Some to
  pub from_unit : call.from ≡ slice_index units from
  pub to_unit : call.to ≡ slice_index units to
  pub count : call.count ≡ n

made : (units : List ℕ) (o q : Option ℕ) (n : ℕ) (call : UnitCall) →
    option_and_then (λ f. option_map (λ g. record { from = slice_index units f; to = slice_index units g; count = n }) q) o
    ≡ Some call → IsMade units o q n call
made units None q n call e = absurd (cc)
made units (Some f) None n call e = absurd (cc)
made units (Some f) (Some g) n call e =
    let is : record { from = slice_index units f; to = slice_index units g; count = n } ≡ call =
    same_Some (record { from = slice_index units f; to = slice_index units g; count = n }) call e in
    record {
      from = f;
      to = g;
      from_is = refl;
      to_is = refl;
      from_unit = ap (λ (c : UnitCall). c.from) (sym is);
      to_unit = ap (λ (c : UnitCall). c.to) (sym is);
      count = ap (λ (c : UnitCall). c.count) (sym is);
    }

pub calls_inside : (funcs : List Func) (units : List ℕ) (n : ℕ) (pairs : List (ℕ × ℕ × ℕ)) →
    ((a f : ℕ) → function_at funcs a ≡ Some f → slice_index units f < n) →
    All (λ c. (c.from < n) × (c.to < n)) (unit_calls funcs units pairs)
calls_inside funcs units n [] inside = All-nil (λ (c : UnitCall). (c.from < n) × (c.to < n))
calls_inside funcs units n (p ∷ ps) inside = go (calls_inside funcs units n ps inside) (unit_call funcs units p) refl
  where
    go : All (λ c. (c.from < n) × (c.to < n)) (unit_calls funcs units ps) → (o : Option UnitCall) → unit_call funcs units p ≡ o →
        All (λ c. (c.from < n) × (c.to < n)) (unit_calls funcs units (p ∷ ps))
    go rest None e = rw e rest
    go rest (Some call) e =
        let m = made units (function_at funcs p.0) (function_at funcs p.1) p.2 call e in
        let from_in = inside p.0 m.from m.from_is in
        let to_in = inside p.1 m.to m.to_is in
        let from_is = m.from_unit in
        let to_is = m.to_unit in
        rw e (All-cons (λ (c : UnitCall). (c.from < n) × (c.to < n)) call (unit_calls funcs units ps) (omega arith, omega arith)
        rest)

pub calls_count : (funcs : List Func) (units : List ℕ) (pairs : List (ℕ × ℕ × ℕ)) →
    sum_by (λ c. c.count) (unit_calls funcs units pairs) ≤ sum_by (λ p. p.2) pairs
calls_count funcs units [] = omega arith
calls_count funcs units (p ∷ ps) = go (calls_count funcs units ps) (unit_call funcs units p) refl
  where
    go : sum_by (λ c. c.count) (unit_calls funcs units ps) ≤ sum_by (λ q. q.2) ps → (o : Option UnitCall) →
        unit_call funcs units p ≡ o → sum_by (λ c. c.count) (unit_calls funcs units (p ∷ ps)) ≤ sum_by (λ q. q.2) (p ∷ ps)
    go rest None e = let all = sum_by-cons (λ (q : ℕ × ℕ × ℕ). q.2) p ps in rw e (omega arith)
    go rest (Some call) e =
        let m = made units (function_at funcs p.0) (function_at funcs p.1) p.2 call e in
        let count = m.count in
        let all = sum_by-cons (λ (q : ℕ × ℕ × ℕ). q.2) p ps in
        let one = sum_by-cons (λ (c : UnitCall). c.count) call (unit_calls funcs units ps) in
        rw e (omega arith)

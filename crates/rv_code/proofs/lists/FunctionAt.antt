-- The function that contains an address.
use Rattle.std.proofs.Common.{◌≡◌, ◌≢◌, sym, ap, refl, cond, ℕ, ◌<◌, ◌≤◌, ◌&&◌, ⊎_elim, Bool, true, false, Some, None, List, []}
use Rattle.std.proofs.Common.{◌∷◌, length, get_or, arith, ◌∙◌}
use Rattle.std.specs.Prelude.{nat_lt, nat_le, slice_get}
use Rattle.std.specs.List.{position_or_len}
use Rattle.std.specs.List.Sorted.{IsNonDecreasingBy, IsPartitionPoint}
use Rattle.std.proofs.lemmas.Grind.{common_steps}
use Rattle.std.proofs.lemmas.Bool.{cases_eq, cases_lt}
use Rattle.std.proofs.lemmas.List.Sums.{position_or_len_is}
use Rattle.std.proofs.lemmas.List.Quantifiers.{position-Some}
use Rattle.std.proofs.lemmas.Option.{get_or_from_slice_get, slice_get_within}
use Rattle.rv_code.specs.declared.placed.Func.{Func}
use Rattle.rv_code.specs.layout.FunctionLists.{AreLaidOut}
use Rattle.rv_code.specs.layout.FunctionMembers.{function_at, func_holds}

pub ends_rise : (funcs : List Func) → AreLaidOut funcs → IsNonDecreasingBy (λ f. f.end) funcs
ends_rise funcs are i j d le lt = ⊎_elim
    (λ (less : i < j). let apart = are.apart i j d less lt in let bytes = (are.each j d lt).has_bytes in omega arith)
    (λ (more : j ≤ i). let e : i ≡ j = omega arith in let s = ap (λ (k : ℕ). (get_or funcs k d).end) e in omega arith)
    (cases_lt i j)

held : (a s e : ℕ) → s ≤ a → a < e → (nat_le s a && nat_lt a e) ≡ true
held a s e low high = grind (arith, common_steps)

below : (a s e : ℕ) → a < s → (nat_le s a && nat_lt a e) ≡ false
below a s e low = grind (arith, common_steps)

above : (a s e : ℕ) → e ≤ a → (nat_le s a && nat_lt a e) ≡ false
above a s e high = grind (arith, common_steps)

pub held_bounds : (a s e : ℕ) → (nat_le s a && nat_lt a e) ≡ true → (s ≤ a) × (a < e)
held_bounds a s e h = (grind (arith, common_steps), grind (arith, common_steps))

-- k is the index of the first function that ends above a.
pub record IsAbove (funcs : List Func) (a k : ℕ) : Type 0 where
  pub within : k ≤ length funcs
  pub low : (j : ℕ) (d : Func) → j < k → (get_or funcs j d).end ≤ a
  pub high : (j : ℕ) (d : Func) → k ≤ j → j < length funcs → a < (get_or funcs j d).end

some_below : (n l k : ℕ) → n ≡ k → k < l → cond (nat_lt n l) (Some n) None ≡ Some k
some_below n l k e lt = grind (arith, common_steps)

none_past : (n l : ℕ) → n ≡ l → cond (nat_lt n l) (Some n) None ≡ None
none_past n l e = grind (arith, common_steps)

pub function_at-found : (funcs : List Func) (a k : ℕ) (d : Func) → IsAbove funcs a k → k < length funcs →
    (get_or funcs k d).start ≤ a → function_at funcs a ≡ Some k
function_at-found funcs a k d is lt low =
    let high = is.high k d (omega arith) lt in
    let first = position_or_len_is (func_holds a) funcs k d is.within (λ j j_lt. above a (get_or funcs j d).start
    (get_or funcs j d).end (is.low j d j_lt)) (λ _. held a (get_or funcs k d).start (get_or funcs k d).end low high) in
    some_below (position_or_len (func_holds a) funcs) (length funcs) k first lt

-- If function k starts above the address, no function contains the address.
pub function_at-absent : (funcs : List Func) (a k : ℕ) → AreLaidOut funcs → IsAbove funcs a k → ((d : Func) →
    k < length funcs → a < (get_or funcs k d).start) → function_at funcs a ≡ None
function_at-absent [] a k are is high = refl
function_at-absent (f ∷ fs) a k are is high =
    let funcs = f ∷ fs in
    let low : (j : ℕ) → j < length funcs → func_holds a (get_or funcs j f) ≡ false = λ j lt. ⊎_elim
    (λ (less : j < k). above a (get_or funcs j f).start (get_or funcs j f).end (is.low j f less))
    (λ (more : k ≤ j). below a (get_or funcs j f).start (get_or funcs j f).end (
    let first = high f (omega arith) in ⊎_elim
    (λ (e : j ≡ k). let s = ap (λ (i : ℕ). (get_or funcs i f).start) e in omega arith)
    (λ (ne : j ≢ k). let apart = are.apart k j f (omega arith) lt in let bytes = (are.each k f
    (omega arith)).has_bytes in omega arith)
    (cases_eq j k)))
    (cases_lt j k) in
    none_past (position_or_len (func_holds a) funcs) (length funcs) (position_or_len_is (func_holds a) funcs (length funcs) f
    (omega arith) low (λ lt. absurd (omega arith)))

above_test : (n a : ℕ) → nat_le n a ≡ false → a < n
above_test n a h = grind (arith, common_steps)

below_test : (n a : ℕ) → nat_le n a ≡ true → n ≤ a
below_test n a h = grind (arith, common_steps)

-- The result of `partition_point`.
pub above_from : (funcs : List Func) (a k : ℕ) → k ≤ length funcs →
    IsPartitionPoint (λ f. nat_le f.end a ≡ true) (λ f. nat_le f.end a ≡ false) funcs k → IsAbove funcs a k
above_from funcs a k within point = record {
  within = within;
  low = λ j d lt. below_test (get_or funcs j d).end a (point.0 j d (omega arith) lt);
  high = λ j d le lt. above_test (get_or funcs j d).end a (point.1 j d le lt);
}

-- A function that contains the address is the one found.
pub function_at-holds : (funcs : List Func) (a f g : ℕ) (func : Func) → AreLaidOut funcs → slice_get funcs f ≡ Some func →
    func_holds a func ≡ true → function_at funcs a ≡ Some g → g ≡ f
function_at-holds funcs a f g func are is in_f found =
    let f_in = slice_get_within funcs f func is in
    let at = get_or_from_slice_get funcs f func func is in
    let first = position-Some (func_holds a) funcs g func found in
    let bounds = held_bounds a func.start func.end in_f in
    let there = held_bounds a (get_or funcs g func).start (get_or funcs g func).end first.1 in
    ⊎_elim
    (λ (less : f < g).
    let no : func_holds a func ≡ false = ap (func_holds a) (sym at) ∙ first.2 f less in
    absurd (no_both (func_holds a func) in_f no))
    (λ (more : g ≤ f). ⊎_elim
    (λ (e : g ≡ f). e)
    (λ (ne : g ≢ f).
    let apart = are.apart g f func (omega arith) f_in in
    let start : (get_or funcs f func).start ≡ func.start = ap (λ (x : Func). x.start) at in
    let low = bounds.0 in let end = there.1 in absurd (omega arith))
    (cases_eq g f))
    (cases_lt f g)
  where
    no_both : (b : Bool) → b ≡ true → b ≡ false → ⊥
    no_both b yes_it no_it = cc

pub function_at-within : (funcs : List Func) (a g : ℕ) (d : Func) → function_at funcs a ≡ Some g →
    (g < length funcs) × (func_holds a (get_or funcs g d) ≡ true)
function_at-within funcs a g d found = let p = position-Some (func_holds a) funcs g d found in (p.0, p.1)

pub function_at-inside : (funcs : List Func) (a g : ℕ) → function_at funcs a ≡ Some g → g < length funcs
function_at-inside [] a g found = absurd (cc)
function_at-inside (f ∷ fs) a g found = (position-Some (func_holds a) (f ∷ fs) g f found).0

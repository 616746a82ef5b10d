-- Instructions of functions that don't overlap.
use Rattle.std.proofs.Common.{◌≡◌, ◌≢◌, ◌<◌, ◌≤◌, ◌+◌, ◌-◌, ◌∙◌, ℕ, Bool, true, false, List, [], ◌∷◌, length, get_or, arith, refl}
use Rattle.std.proofs.Common.{ap, sym, subst, ⊎_elim, AllPairs, find, is_some, cond, Some}
use Rattle.std.specs.Prelude.{◌==◌, ◌||◌, nat_le}
use Rattle.std.specs.List.{list_any}
use Rattle.std.specs.List.Sorted.{IsNonDecreasingBy, IsPartitionedBy}
use Rattle.std.proofs.lemmas.Bool.{eq-eqb, ne_eqb, cases_lt, le-leb, leb-true, leb-false, lt-leb}
use Rattle.std.proofs.lemmas.List.{get_or_default}
use Rattle.std.proofs.lemmas.List.Folds.{list_any_none, list_any_at, list_any-append}
use Rattle.std.proofs.lemmas.List.Sorted.{IsPartitionedBy-leb}
use Rattle.rv_code.specs.declared.placed.Placed.{Placed}
use Rattle.rv_code.specs.declared.placed.Func.{Func}
use Rattle.rv_code.specs.layout.FunctionLists.{IsLaidOut, AreLaidOut, address_end}
use Rattle.rv_code.proofs.lists.Follows.{inst_bounds}
use Rattle.rv_code.specs.layout.Flow.{insts_of}
use Rattle.rv_code.specs.layout.ProgramCode.{is_code_address}
use Rattle.rv_code.specs.layout.FunctionMembers.{IsInstPlace}
use Rattle.edge_profile.specs.Weights.{starts_at}
use Rattle.edge_profile.proofs.Partitions.{passes_up_to, fails_from}
use Rattle.rb_bytes.proofs.ListLemmas.{any_element}

pub non_decreasing : (insts : List Placed) → AllPairs (λ p q. p.addr < q.addr) insts → IsNonDecreasingBy (λ p. p.addr) insts
non_decreasing insts rising i j d le within = ⊎_elim
    (λ (less : i < j). let up : (get_or insts i d).addr < (get_or insts j d).addr = rising i j d less within in omega arith)
    (λ (more : j ≤ i).
    let same : i ≡ j = omega arith in
    subst (λ (k : ℕ). (get_or insts i d).addr ≤ (get_or insts k d).addr) same (omega arith))
    (cases_lt i j)

-- At an address outside of a function, none of its instructions starts.
pub starts_below : (func : Func) → IsLaidOut func → (a : ℕ) → a < func.start → starts_at func.insts.items a ≡ false
starts_below func laid a below =
    list_any_none (λ p. p.addr == a) func.insts.items
    (λ k d within.
    let bounds = inst_bounds func laid k d within in
    ne_eqb (get_or func.insts.items k d).addr a (λ e. omega (arith, bounds.0, e)))

pub starts_above : (func : Func) → IsLaidOut func → (a : ℕ) → func.end ≤ a → starts_at func.insts.items a ≡ false
starts_above func laid a above =
    list_any_none (λ p. p.addr == a) func.insts.items
    (λ k d within.
    let bounds = inst_bounds func laid k d within in
    ne_eqb (get_or func.insts.items k d).addr a (λ e. omega (arith, bounds.1, e)))

module _ (funcs : List Func) (laid : AreLaidOut funcs) where
  pub funcs_rise : IsNonDecreasingBy (λ f. f.start) funcs
  funcs_rise i j d le within = ⊎_elim
      (λ (less : i < j).
      let before = laid.apart i j d less within in
      let some = (laid.each i d (omega arith)).has_bytes in
      omega (arith, before, some))
      (λ (more : j ≤ i).
      let same : i ≡ j = omega arith in
      subst (λ (k : ℕ). (get_or funcs i d).start ≤ (get_or funcs k d).start) same (omega arith))
      (cases_lt i j)

-- If a function starts at or below an address, all functions before it do; if it starts above the address, all functions after it do.
module _ (funcs : List Func) (laid : AreLaidOut funcs) (a n : ℕ) (e : Func) where
  partitioned_starts : IsPartitionedBy (λ f. nat_le f.start a) funcs
  partitioned_starts = IsPartitionedBy-leb (λ (f : Func). f.start) funcs a (funcs_rise funcs laid)

  pub start_up_to : n < length funcs → (get_or funcs n e).start ≤ a → (k : ℕ) (d : Func) → k < n + 1 →
      (get_or funcs k d).start ≤ a
  start_up_to within low k d less =
      leb-true _ _ (passes_up_to (λ f. nat_le f.start a) funcs partitioned_starts n e within (le-leb _ _ low) k d less)

  pub start_behind : a < (get_or funcs n e).start → (k : ℕ) (d : Func) → n ≤ k → k < length funcs → a < (get_or funcs k d).start
  start_behind high k d from inside =
      leb-false _ _ (fails_from (λ f. nat_le f.start a) funcs partitioned_starts n e (lt-leb _ _ high) k d from inside)

is_some-find : {X : Type 0} (p : X → Bool) (xs : List X) → is_some (find p xs) ≡ list_any p xs
is_some-find p [] = refl
is_some-find p (x ∷ xs) = at (p x) (is_some-find p xs)
  where
    at : (b : Bool) → is_some (find p xs) ≡ list_any p xs → is_some (cond b (Some x) (find p xs)) ≡ (b || list_any p xs)
    at true rest = refl
    at false rest = rest

code-list_any : (funcs : List Func) (a : ℕ) →
    list_any (λ p. p.addr == a) (insts_of funcs) ≡ list_any (λ f. starts_at f.insts.items a) funcs
code-list_any [] a = refl
code-list_any (f ∷ funcs) a =
    list_any-append (λ p. p.addr == a) f.insts.items (insts_of funcs)
    ∙ ap (λ b. starts_at f.insts.items a || b) (code-list_any funcs a)

pub code_address-list_any : (funcs : List Func) (a : ℕ) →
    is_code_address funcs a ≡ list_any (λ f. starts_at f.insts.items a) funcs
code_address-list_any funcs a = is_some-find (λ p. p.addr == a) (insts_of funcs) ∙ code-list_any funcs a

-- an instruction starts at the address to which indices belong
pub code_address_at : (funcs : List Func) (a f i : ℕ) → IsInstPlace funcs a f i → is_code_address funcs a ≡ true
code_address_at funcs a f i is =
    let g = any_element funcs f is.func_within in
    let insts = (get_or funcs f g).insts.items in
    let p = any_element insts i (is.inst_within g) in
    code_address-list_any funcs a
    ∙ list_any_at (λ h. starts_at h.insts.items a) funcs f g is.func_within
    (list_any_at (λ q. q.addr == a) insts i p (is.inst_within g) (eq-eqb (get_or insts i p).addr a (is.starts g p)))

-- if no function has an instruction at an address, none starts there
no_code_address : (funcs : List Func) (a : ℕ)
    → ((k : ℕ) (d : Func) → k < length funcs → starts_at (get_or funcs k d).insts.items a ≡ false)
    → is_code_address funcs a ≡ false
no_code_address funcs a none = code_address-list_any funcs a ∙ list_any_none (λ f. starts_at f.insts.items a) funcs none

-- Code ends below a limit.
pub no_code_from : (funcs : List Func) → AreLaidOut funcs → (a : ℕ) → address_end ≤ a → is_code_address funcs a ≡ false
no_code_from funcs laid a far =
    no_code_address funcs a (λ k d within.
    let end : (get_or funcs k d).end ≤ address_end = laid.low k d within in
    starts_above (get_or funcs k d) (laid.each k d within) a (omega arith))

-- If the first n functions start at or below an address and the others above it, only the last of the n can have an instruction there.
pub no_code_at : (funcs : List Func) → AreLaidOut funcs → (a below : ℕ) → below ≤ length funcs
    → ((k : ℕ) (d : Func) → k < below → (get_or funcs k d).start ≤ a)
    → ((k : ℕ) (d : Func) → below ≤ k → k < length funcs → a < (get_or funcs k d).start)
    → ((d : Func) → 0 < below → starts_at (get_or funcs (below - 1) d).insts.items a ≡ false) → is_code_address funcs a ≡ false
no_code_at funcs laid a below bound up above here = no_code_address funcs a each
  where
    each : (k : ℕ) (d : Func) → k < length funcs → starts_at (get_or funcs k d).insts.items a ≡ false
    each k d within = ⊎_elim
        (λ (less : k < below). ⊎_elim
        (λ (before : k < below - 1).
        let apart : (get_or funcs k d).end ≤ (get_or funcs (below - 1) d).start =
        laid.apart k (below - 1) d before (omega arith) in
        let start : (get_or funcs (below - 1) d).start ≤ a = up (below - 1) d (omega arith) in
        starts_above (get_or funcs k d) (laid.each k d within) a (omega arith))
        (λ (not : below - 1 ≤ k).
        let same : below - 1 ≡ k = omega arith in
        subst (λ (j : ℕ). starts_at (get_or funcs j d).insts.items a ≡ false) same (here d (omega arith)))
        (cases_lt k (below - 1)))
        (λ (more : below ≤ k). starts_below (get_or funcs k d) (laid.each k d within) a (above k d more within))
        (cases_lt k below)

-- Only the last function that starts at or below an address can start there.
pub function_starts : (funcs : List Func) → AreLaidOut funcs → (a below : ℕ) → below ≤ length funcs → 0 < below
    → ((k : ℕ) (d : Func) → k < below → (get_or funcs k d).start ≤ a)
    → ((k : ℕ) (d : Func) → below ≤ k → k < length funcs → a < (get_or funcs k d).start)
    → (d : Func) → list_any (λ f. f.start == a) funcs ≡ ((get_or funcs (below - 1) d).start == a)
function_starts funcs laid a below bound some up above d = at ((get_or funcs (below - 1) d).start == a) refl
  where
    at : (b : Bool) → ((get_or funcs (below - 1) d).start == a) ≡ b → list_any (λ f. f.start == a) funcs ≡ b
    at true is = list_any_at (λ f. f.start == a) funcs (below - 1) d (omega arith) is
    at false is = list_any_none (λ f. f.start == a) funcs (λ k e within. ne_eqb (get_or funcs k e).start a (apart k e within))
      where
        apart : (k : ℕ) (e : Func) → k < length funcs → (get_or funcs k e).start ≢ a
        apart k e within starts = ⊎_elim
            (λ (less : k < below).
            let le : (get_or funcs k e).start ≤ (get_or funcs (below - 1) e).start =
            funcs_rise funcs laid k (below - 1) e (omega arith) (omega arith) in
            let top : (get_or funcs (below - 1) e).start ≤ a = up (below - 1) e (omega arith) in
            let here : (get_or funcs (below - 1) e).start ≡ a = omega arith in
            let same : get_or funcs (below - 1) d ≡ get_or funcs (below - 1) e =
            get_or_default funcs (below - 1) d e (omega arith) in
            let yes = eq-eqb (get_or funcs (below - 1) d).start a (ap (λ (f : Func). f.start) same ∙ here) in
            absurd (cc))
            (λ (more : below ≤ k). let over = above k e more within in absurd (omega arith))
            (cases_lt k below)

pub no_function_starts : (funcs : List Func) (a : ℕ) → ((k : ℕ) (d : Func) → k < length funcs → a < (get_or funcs k d).start)
    → list_any (λ f. f.start == a) funcs ≡ false
no_function_starts funcs a above =
    list_any_none (λ f. f.start == a) funcs (λ k d within.
    let over = above k d within in
    ne_eqb (get_or funcs k d).start a (λ e. omega arith))

-- if instructions are in order, none starts at an address between two neighbours
pub no_inst_at : (insts : List Placed) (a below : ℕ) → ((k : ℕ) (d : Placed) → k < below → (get_or insts k d).addr < a)
    → ((k : ℕ) (d : Placed) → below ≤ k → k < length insts → a < (get_or insts k d).addr) → starts_at insts a ≡ false
no_inst_at insts a below low high =
    list_any_none (λ p. p.addr == a) insts
    (λ k d within. ne_eqb (get_or insts k d).addr a (λ e. ⊎_elim
    (λ (less : k < below). let under = low k d less in omega arith)
    (λ (more : below ≤ k). let over = high k d more within in omega arith)
    (cases_lt k below)))

-- if the first instruction at or above an address starts above it, none starts at the address
pub no_inst_from : (insts : List Placed) → AllPairs (λ p q. p.addr < q.addr) insts → (a below : ℕ) (e : Placed)
    → ((k : ℕ) (d : Placed) → k < below → (get_or insts k d).addr < a)
    → ((k : ℕ) (d : Placed) → below ≤ k → k < length insts → a ≤ (get_or insts k d).addr)
    → (below < length insts → (get_or insts below e).addr ≢ a) → starts_at insts a ≡ false
no_inst_from insts rising a below e low high other = no_inst_at insts a below low above
  where
    above : (k : ℕ) (d : Placed) → below ≤ k → k < length insts → a < (get_or insts k d).addr
    above k d le within =
        let same : get_or insts below d ≡ get_or insts below e = get_or_default insts below d e (omega arith) in
        let apart : (get_or insts below d).addr ≢ a = λ is. other (omega arith) (sym (ap (λ (p : Placed). p.addr) same) ∙ is) in
        let least : a ≤ (get_or insts below d).addr = high below d (omega arith) (omega arith) in
        ⊎_elim
        (λ (less : below < k).
        let up : (get_or insts below d).addr < (get_or insts k d).addr = rising below k d less within in omega arith)
        (λ (not : k ≤ below).
        let here : below ≡ k = omega arith in
        subst (λ (j : ℕ). a < (get_or insts j d).addr) here (omega arith))
        (cases_lt below k)

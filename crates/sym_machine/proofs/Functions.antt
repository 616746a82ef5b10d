-- Looking up instructions of functions by their addresses: each is found, and nothing besides them.
use Rattle.std.proofs.Common.{◌≡◌, ◌∙◌, sym, subst, ap, refl, ℕ, zero, suc, ◌-◌, ◌<◌, ◌≤◌, ◌⊎◌, inl, inr, ⊎_elim, rules}
use Rattle.std.proofs.Common.{false, List, [], ◌∷◌, ◌++◌, Option, Some, None, IfSome, IfNone, length, slice_index_or, arith}
use Rattle.std.specs.Prelude.{Contains, ◌==◌, is_some}
use Rattle.std.specs.Option.{option_or}
use Rattle.std.proofs.lemmas.Bool.{cases_lt, eq-eqb, eqb-true, false_from_ne_true}
use Rattle.std.proofs.lemmas.List.{get_or_default}
use Rattle.std.proofs.lemmas.List.Elements.{Contains-append_left, Contains-append_right, Contains-append_cases, Contains-get_or}
use Rattle.rv_code.specs.declared.placed.Placed.{Placed}
use Rattle.rv_code.specs.declared.placed.Func.{Func}
use Rattle.rv_code.specs.declared.placed.InstPlace.{InstPlace}
use Rattle.rv_code.specs.layout.Flow.{insts_of, placed_at, next_in, next_of}
use Rattle.rv_code.specs.layout.FunctionLists.{AreLaidOut}
use Rattle.rv_code.specs.layout.FunctionMembers.{IsInstPlace}
use Rattle.rv_code.proofs.lists.Follows.{inst_bounds, insts_rise}
use Rattle.rb_bytes.proofs.Searches.{find-only, find-none, find-finds}
use Rattle.rb_bytes.proofs.Members.{Contains-cons_cases, Contains-there}
use Rattle.rb_bytes.proofs.ListLemmas.{any_element}
use Rattle.sym_machine.specs.internal.FunctionOrder.{IsSearchable, addr_at}

pub searchable : (funcs : List Func) → AreLaidOut funcs → IsSearchable funcs
searchable funcs are = record {
  ordered = λ f d within. (are.each f d within).has_bytes;
  apart = λ f g d less within. are.apart f g d less within;
  from = λ f i d e within inside. (inst_bounds (slice_index_or funcs f d) (are.each f d within) i e inside).0;
  to = λ f i d e within inside. (inst_bounds (slice_index_or funcs f d) (are.each f d within) i e inside).1;
  rising = λ f i j d e within less inside. insts_rise (slice_index_or funcs f d) (are.each f d within) i j e less inside;
}

-- functions are in order of their starts
pub starts_rise : (funcs : List Func) → IsSearchable funcs → (i j : ℕ) (d : Func) → i ≤ j → j < length funcs →
    (slice_index_or funcs i d).start ≤ (slice_index_or funcs j d).start
starts_rise funcs s i j d upto within = search rules

-- a function's instructions are in order of their addresses
pub addrs_rise : (insts : List Placed) →
    ((i j : ℕ) (e : Placed) → i < j → j < length insts → (slice_index_or insts i e).addr < (slice_index_or insts j e).addr) →
    (i j : ℕ) (e : Placed) → i ≤ j → j < length insts → (slice_index_or insts i e).addr ≤ (slice_index_or insts j e).addr
addrs_rise insts rising i j e upto within = search rules

-- Lists of lists.

in_flat : (funcs : List Func) (func : Func) (p : Placed) → Contains funcs func → Contains func.insts.items p →
    Contains (insts_of funcs) p
in_flat [] func p func_in p_in = let l = func_in.1 in absurd (omega (arith, l))
in_flat (g ∷ gs) func p func_in p_in = by (Contains-cons_cases g gs func func_in) (λ k. in_flat gs func p k p_in)
  where
    by : (g ≡ func) ⊎ Contains gs func → (Contains gs func → Contains (insts_of gs) p) → Contains (g.insts.items ++ insts_of gs) p
    by (inl same) rest =
        Contains-append_left g.insts.items (insts_of gs) p (subst (λ (t : Func). Contains t.insts.items p) (sym same) p_in)
    by (inr k) rest = Contains-append_right g.insts.items (insts_of gs) p (rest k)

from_flat : (funcs : List Func) (p : Placed) → Contains (insts_of funcs) p →
    (func : Func) × Contains funcs func × Contains func.insts.items p
from_flat [] p is_in = let l = is_in.1 in absurd (omega (arith, l))
from_flat (g ∷ gs) p is_in = by (Contains-append_cases g.insts.items (insts_of gs) p is_in) (λ k. from_flat gs p k)
  where
    by : Contains g.insts.items p ⊎ Contains (insts_of gs) p →
        (Contains (insts_of gs) p → (func : Func) × Contains gs func × Contains func.insts.items p) →
        (func : Func) × Contains (g ∷ gs) func × Contains func.insts.items p
    by (inl k) rest = (g, (zero, omega arith, refl), k)
    by (inr k) rest = let (func, func_in, p_in) = rest k in (func, Contains-there g gs func func_in, p_in)

-- the instructions of the function with index f, and one of them by its index
abbrev pub insts_at : List Func → ℕ → Func → List Placed
insts_at funcs f d = (slice_index_or funcs f d).insts.items

record Occurs (funcs : List Func) (p : Placed) : Type 0 where
  func : Func
  f : ℕ
  i : ℕ
  within : f < length funcs
  inside : i < length (insts_at funcs f func)
  is : slice_index_or (insts_at funcs f func) i p ≡ p

occurs : (funcs : List Func) (p : Placed) → Contains (insts_of funcs) p → Occurs funcs p
occurs funcs p is_in =
    let (func, (f, within, at), (i, inside, is)) = from_flat funcs p is_in in
    record {
      func = func;
      f = f;
      i = i;
      within = within;
      inside = subst (λ (t : Func). i < length t.insts.items) (sym at) inside;
      is = subst (λ (t : Func). slice_index_or t.insts.items i p ≡ p) (sym at) is;
    }

-- One instruction starts at an address.

module _ (funcs : List Func) (s : IsSearchable funcs) where
  one_func : (f i g j a : ℕ) (d : Func) (e : Placed) → f < length funcs → i < length (insts_at funcs f d) → g < length funcs →
      j < length (insts_at funcs g d) →
      (slice_index_or (insts_at funcs f d) i e).addr ≡ a → (slice_index_or (insts_at funcs g d) j e).addr ≡ a → f < g → ⊥
  one_func f i g j a d e within inside within' inside' at at' less = search rules

  one_inst : (f i j a : ℕ) (d : Func) (e : Placed) → f < length funcs → j < length (insts_at funcs f d) →
      (slice_index_or (insts_at funcs f d) i e).addr ≡ a → (slice_index_or (insts_at funcs f d) j e).addr ≡ a → i < j → ⊥
  one_inst f i j a d e within inside at at' less = search rules

  same_func : (f i g j a : ℕ) (d : Func) (e : Placed) → f < length funcs → i < length (insts_at funcs f d) → g < length funcs →
      j < length (insts_at funcs g d) →
      (slice_index_or (insts_at funcs f d) i e).addr ≡ a → (slice_index_or (insts_at funcs g d) j e).addr ≡ a → f ≡ g
  same_func f i g j a d e within inside within' inside' at at' = search (rules, one_func)

  same_inst : (f i j a : ℕ) (d : Func) (e : Placed) → f < length funcs → i < length (insts_at funcs f d) →
      j < length (insts_at funcs f d) →
      (slice_index_or (insts_at funcs f d) i e).addr ≡ a → (slice_index_or (insts_at funcs f d) j e).addr ≡ a → i ≡ j
  same_inst f i j a d e within inside inside' at at' = search (rules, one_inst)

  -- the instruction with these indices is the one that starts at its address
  pub placed_at-found : (f i a : ℕ) → IsInstPlace funcs a f i → (d : Func) (e : Placed) →
      placed_at funcs a ≡ Some (slice_index_or (insts_at funcs f d) i e)
  placed_at-found f i a at d e =
      find-only (λ p. p.addr == a) (insts_of funcs) (slice_index_or (insts_at funcs f d) i e)
      (in_flat funcs (slice_index_or funcs f d) (slice_index_or (insts_at funcs f d) i e)
      (Contains-get_or funcs f d at.func_within) (Contains-get_or (insts_at funcs f d) i e (at.inst_within d)))
      (eq-eqb _ a (at.starts d e))
      (λ y y_in passes. only y (occurs funcs y y_in) (eqb-true y.addr a passes))
    where
      only : (y : Placed) → Occurs funcs y → y.addr ≡ a → y ≡ slice_index_or (insts_at funcs f d) i e
      only y o there =
          let x = o.func in
          let here : (slice_index_or (insts_at funcs o.f x) o.i y).addr ≡ a = ap (λ (t : Placed). t.addr) o.is ∙ there in
          let f_is : f ≡ o.f =
          same_func f i o.f o.i a x y at.func_within (at.inst_within x) o.within o.inside (at.starts x y) here in
          let inside : o.i < length (insts_at funcs f x) = subst (λ k. o.i < length (insts_at funcs k x)) (sym f_is) o.inside in
          let here' : (slice_index_or (insts_at funcs f x) o.i y).addr ≡ a =
          subst (λ k. (slice_index_or (insts_at funcs k x) o.i y).addr ≡ a) (sym f_is) here in
          let i_is : i ≡ o.i = same_inst f i o.i a x y at.func_within (at.inst_within x) inside (at.starts x y) here' in
          sym o.is
          ∙ ap (λ k. slice_index_or (insts_at funcs k x) o.i y) (sym f_is)
          ∙ ap (λ k. slice_index_or (insts_at funcs f x) k y) (sym i_is)
          ∙ ap (λ t. slice_index_or t.insts.items i y) (get_or_default funcs f x d at.func_within)
          ∙ get_or_default (insts_at funcs f d) i y e (at.inst_within d)

  -- An address at which no instruction of any function starts.
  pub placed_at-none : (a : ℕ) → ((g j : ℕ) (d : Func) (e : Placed) → g < length funcs → j < length (insts_at funcs g d) →
      (slice_index_or (insts_at funcs g d) j e).addr ≡ a → ⊥) → placed_at funcs a ≡ None
  placed_at-none a nowhere =
      find-none (λ p. p.addr == a) (insts_of funcs)
      (λ p p_in. false_from_ne_true (p.addr == a) (λ passes.
      let o = occurs funcs p p_in in
      nowhere o.f o.i o.func p o.within o.inside (ap (λ (t : Placed). t.addr) o.is ∙ eqb-true p.addr a passes)))

  -- no instruction starts at an address for which placed_at has None
  pub nowhere : (a : ℕ) → placed_at funcs a ≡ None → (g j : ℕ) (d : Func) (e : Placed) → g < length funcs →
      j < length (insts_at funcs g d) → (slice_index_or (insts_at funcs g d) j e).addr ≡ a → ⊥
  nowhere a none g j d e within inside at =
      let p = slice_index_or (insts_at funcs g d) j e in
      let p_in = in_flat funcs (slice_index_or funcs g d) p (Contains-get_or funcs g d within)
      (Contains-get_or (insts_at funcs g d) j e inside) in
      let (y, found) = find-finds (λ q. q.addr == a) (insts_of funcs) p p_in (eq-eqb p.addr a at) in
      absurd (let both : Some y ≡ None = sym found ∙ none in cc)

  -- Binary search: only the last function that starts at or below an address can have an instruction there.
  pub placed_at-searched : (a above : ℕ) → above ≤ length funcs →
      ((k : ℕ) (d : Func) → k < above → (slice_index_or funcs k d).start ≤ a) →
      ((k : ℕ) (d : Func) → above ≤ k → k < length funcs → a < (slice_index_or funcs k d).start) →
      ((j : ℕ) (d : Func) (e : Placed) → 0 < above → j < length (insts_at funcs (above - 1) d) →
      (slice_index_or (insts_at funcs (above - 1) d) j e).addr ≡ a → ⊥) → placed_at funcs a ≡ None
  placed_at-searched a above bound below past here =
      placed_at-none a (λ g j d e within inside at.
      ⊎_elim
      (λ (less : g < above - 1).
      let high = s.to g j d e within inside in
      let between = s.apart g (above - 1) d less (omega arith) in
      let low = below (above - 1) d (omega arith) in
      omega arith)
      (λ (more : above - 1 ≤ g).
      ⊎_elim
      (λ (before : g < above).
      let same : g ≡ above - 1 = omega arith in
      here j d e (omega arith) (subst (λ k. j < length (insts_at funcs k d)) same inside)
      (subst (λ k. (slice_index_or (insts_at funcs k d) j e).addr ≡ a) same at))
      (λ (after : above ≤ g).
      let high = past g d after within in
      let low = s.from g j d e within inside in
      omega arith)
      (cases_lt g above))
      (cases_lt g (above - 1)))

-- binary search in a function: only the last instruction that starts at or below an address can start there
pub none_in : (insts : List Placed) (a below : ℕ) →
    ((i j : ℕ) (e : Placed) → i < j → j < length insts → (slice_index_or insts i e).addr < (slice_index_or insts j e).addr) →
    below ≤ length insts →
    ((k : ℕ) (e : Placed) → k < below → (slice_index_or insts k e).addr ≤ a) →
    ((k : ℕ) (e : Placed) → below ≤ k → k < length insts → a < (slice_index_or insts k e).addr) →
    ((e : Placed) → 0 < below → (slice_index_or insts (below - 1) e).addr ≡ a → ⊥) →
    (j : ℕ) (e : Placed) → j < length insts → (slice_index_or insts j e).addr ≡ a → ⊥
none_in insts a below rising bound low high last j e inside at = search rules

-- Nothing is found if, in the last function that starts at or below an address, the last instruction that starts at or below it starts at
-- another address.
pub placed_at-missed : (funcs : List Func) → IsSearchable funcs → (a above below : ℕ) (func : Func) (insts : List Placed) →
    above ≤ length funcs → 0 < above →
    ((k : ℕ) (d : Func) → k < above → (slice_index_or funcs k d).start ≤ a) →
    ((k : ℕ) (d : Func) → above ≤ k → k < length funcs → a < (slice_index_or funcs k d).start) →
    func ≡ slice_index_or funcs (above - 1) func → insts ≡ func.insts.items → below ≤ length insts →
    ((k : ℕ) (e : Placed) → k < below → (slice_index_or insts k e).addr ≤ a) →
    ((k : ℕ) (e : Placed) → below ≤ k → k < length insts → a < (slice_index_or insts k e).addr) →
    ((e : Placed) → 0 < below → (slice_index_or insts (below - 1) e).addr ≡ a → ⊥) → placed_at funcs a ≡ None
placed_at-missed funcs s a above below func insts bound some starts past func_is insts_are inside low high last =
    placed_at-searched funcs s a above bound starts past (λ j d e _ within at.
    let k_within : above - 1 < length funcs = omega (arith, bound, some) in
    let same : insts_at funcs (above - 1) d ≡ insts =
    sym (ap (λ (f : Func). f.insts.items) (func_is ∙ get_or_default funcs (above - 1) func d k_within)) ∙ sym insts_are in
    none_in insts a below
    (subst (λ (is : List Placed). (i j : ℕ) (e : Placed) → i < j → j < length is →
    (slice_index_or is i e).addr < (slice_index_or is j e).addr) same
    (λ i j e less to. s.rising (above - 1) i j d e k_within less to))
    inside low high last j e (subst (λ (is : List Placed). j < length is) same within)
    (subst (λ (is : List Placed). (slice_index_or is j e).addr ≡ a) same at))

pub code_address_is : (funcs : List Func) → IsSearchable funcs → (a : ℕ) (o : Option InstPlace) →
    IfSome o (λ at. IsInstPlace funcs a at.func at.inst) →
    IfNone o (placed_at funcs a ≡ None) → is_some o ≡ is_some (placed_at funcs a)
code_address_is funcs s a None found none = sym (ap is_some none)
code_address_is funcs s a (Some at) found none =
    let d = any_element funcs at.func found.func_within in
    let e = any_element (insts_at funcs at.func d) at.inst (found.inst_within d) in
    sym (ap is_some (placed_at-found funcs s at.func at.inst a found d e))

-- The next instruction of a function.

next_in-none : (insts : List Placed) (a : ℕ) →
    ((j : ℕ) (e : Placed) → j < length insts → (slice_index_or insts j e).addr ≡ a → ⊥) → next_in insts a ≡ None
next_in-none [] a nowhere = refl
next_in-none (p ∷ []) a nowhere = refl
next_in-none (p ∷ q ∷ ps) a nowhere =
    let other : (p.addr == a) ≡ false =
    false_from_ne_true (p.addr == a) (λ passes. nowhere zero p (omega arith) (eqb-true p.addr a passes)) in
    rw other (next_in-none (q ∷ ps) a (λ j e within. nowhere (suc j) e (omega arith)))

next_in-found : (insts : List Placed) (i a : ℕ) →
    ((i j : ℕ) (e : Placed) → i < j → j < length insts → (slice_index_or insts i e).addr < (slice_index_or insts j e).addr) →
    i < length insts → ((e : Placed) → (slice_index_or insts i e).addr ≡ a) → next_in insts a ≡ addr_at insts (suc i)
next_in-found [] i a rising within at = absurd (omega (arith, within))
next_in-found (p ∷ []) zero a rising within at = refl
next_in-found (p ∷ []) (suc i) a rising within at = absurd (omega (arith, within))
next_in-found (p ∷ q ∷ ps) zero a rising within at = search (rules, eq-eqb)
next_in-found (p ∷ q ∷ ps) (suc i) a rising within at =
    let up = rising zero (suc i) p (omega arith) (omega (arith, within)) in
    let there = at p in
    let other : (p.addr == a) ≡ false =
    false_from_ne_true (p.addr == a) (λ passes. let same = eqb-true p.addr a passes in omega arith) in
    rw other (next_in-found (q ∷ ps) i a (λ i j e less inside. rising (suc i) (suc j) e (omega arith) (omega (arith, inside)))
    (omega (arith, within)) at)

pub next_of-none : (funcs : List Func) (a : ℕ) → ((g j : ℕ) (d : Func) (e : Placed) → g < length funcs →
    j < length (insts_at funcs g d) → (slice_index_or (insts_at funcs g d) j e).addr ≡ a → ⊥) → next_of funcs a ≡ None
next_of-none [] a nowhere = refl
next_of-none (f ∷ fs) a nowhere =
    rw (next_in-none f.insts.items a (λ j e inside. nowhere zero j f e (omega arith) inside))
    (next_of-none fs a (λ g j d e within. nowhere (suc g) j d e (omega arith)))

tail_searchable : (f : Func) (fs : List Func) → IsSearchable (f ∷ fs) → IsSearchable fs
tail_searchable f fs s = record {
  ordered = λ k d within. s.ordered (suc k) d (omega arith);
  apart = λ i j d less within. s.apart (suc i) (suc j) d (omega arith) (omega arith);
  from = λ k i d e within inside. s.from (suc k) i d e (omega arith) inside;
  to = λ k i d e within inside. s.to (suc k) i d e (omega arith) inside;
  rising = λ k i j d e within less inside. s.rising (suc k) i j d e (omega arith) less inside;
}

or_none : {A : Type 0} (o p : Option A) → p ≡ None → option_or o p ≡ o
or_none None p none = none
or_none (Some x) p none = refl

pub next_of-found : (funcs : List Func) → IsSearchable funcs → (f i a : ℕ) → IsInstPlace funcs a f i → (d : Func) →
    next_of funcs a ≡ addr_at (insts_at funcs f d) (suc i)
next_of-found [] s f i a at d = absurd (let l = at.func_within in omega (arith, l))
next_of-found (g ∷ gs) s zero i a at d =
    or_none (next_in g.insts.items a) (next_of gs a)
    (next_of-none gs a (λ k j d e within inside there. one_func (g ∷ gs) s zero i (suc k) j a d e (omega arith) (at.inst_within d)
    (omega arith) inside (at.starts d e) there (omega arith)))
    ∙ next_in-found g.insts.items i a (λ i j e less inside. s.rising zero i j g e (omega arith) less inside)
    (at.inst_within g) (λ e. at.starts g e)
next_of-found (g ∷ gs) s (suc f) i a at d =
    let l = at.func_within in
    rw (next_in-none g.insts.items a (λ j e inside there. one_func (g ∷ gs) s zero j (suc f) i a g e (omega arith) inside
    (omega (arith, l)) (at.inst_within g) there (at.starts g e) (omega arith)))
    (next_of-found gs (tail_searchable g gs s) f i a
    (record { func_within = omega (arith, l); inst_within = λ d. at.inst_within d; starts = λ d e. at.starts d e }) d)

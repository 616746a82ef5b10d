-- The start of the function that has an instruction at an address, and the range of all code.
use Rattle.std.proofs.Common.{◌≡◌, ◌∙◌, ◌+◌, ◌-◌, ◌<◌, ◌≤◌, ℕ, suc, Bool, true, false, List, [], ◌∷◌, Option, Some, None, length}
use Rattle.std.proofs.Common.{get_or, refl, ap, sym, subst, arith, cond, find, ⊎_elim}
use Rattle.std.specs.Prelude.{◌==◌, ◌||◌}
use Rattle.std.specs.List.{list_any}
use Rattle.std.specs.Option.{option_map_or}
use Rattle.std.proofs.lemmas.Bool.{eq-eqb, cases_lt}
use Rattle.std.proofs.lemmas.List.{get_or_default}
use Rattle.std.proofs.lemmas.List.Folds.{list_any_at}
use Rattle.rv_code.specs.declared.placed.Func.{Func}
use Rattle.rv_code.specs.declared.placed.Placed.{Placed}
use Rattle.rv_code.specs.layout.FunctionLists.{AreLaidOut, IsLaidOut, address_end}
use Rattle.rv_code.specs.layout.ProgramCode.{is_code_address}
use Rattle.rv_code.specs.layout.FunctionMembers.{IsInstPlace}
use Rattle.edge_profile.specs.Weights.{starts_at}
use Rattle.rv_code.proofs.lists.Follows.{inst_bounds}
use Rattle.edge_profile.proofs.LaidOut.{code_address-list_any, funcs_rise, no_code_from, starts_above, starts_below}
use Rattle.rb_bytes.proofs.ListLemmas.{any_element}
use Rattle.edge_text.specs.EdgeText.{start_at}

-- the first item that passes a test, and its index
record Found {X : Type 0} (test : X → Bool) (xs : List X) : Type 0 where
  place : ℕ
  item : X
  within : place < length xs
  stands : get_or xs place item ≡ item
  passes : test item ≡ true
  is : find test xs ≡ Some item

found : {X : Type 0} (test : X → Bool) (xs : List X) → list_any test xs ≡ true → Found test xs
found test [] any = absurd (cc)
found {X} test (x ∷ xs) any = at (test x) refl any (found test xs)
  where
    at : (b : Bool) → test x ≡ b → (b || list_any test xs) ≡ true →
        (list_any test xs ≡ true → Found test xs) → Found test (x ∷ xs)
    at true passes has later = record {
      place = 0;
      item = x;
      within = omega arith;
      stands = refl;
      passes = passes;
      is = ap (λ c. cond c (Some x) (find test xs)) passes;
    }
    at false fails has later =
        let rest = later has in
        record {
          place = suc rest.place;
          item = rest.item;
          within = let inside = rest.within in omega arith;
          stands = rest.stands;
          passes = rest.passes;
          is = ap (λ c. cond c (Some x) (find test xs)) fails ∙ rest.is;
        }

none_found : {X : Type 0} (test : X → Bool) (xs : List X) → list_any test xs ≡ false → find test xs ≡ None
none_found test [] none = refl
none_found {X} test (x ∷ xs) none = at (test x) none (none_found test xs)
  where
    at : (b : Bool) → (b || list_any test xs) ≡ false → (list_any test xs ≡ false → find test xs ≡ None) →
        cond b (Some x) (find test xs) ≡ None
    at true has later = absurd (cc)
    at false has later = later has

-- an address at which a function has an instruction is in this function
within_function : (f : Func) → IsLaidOut f → (a : ℕ) → starts_at f.insts.items a ≡ true → (f.start ≤ a) × (a < f.end)
within_function f laid a here = (
  ⊎_elim (λ (less : a < f.start). let none = starts_below f laid a less in absurd (cc))
      (λ (more : f.start ≤ a). more) (cases_lt a f.start),
  ⊎_elim (λ (less : a < f.end). less) (λ (more : f.end ≤ a).
      let none = starts_above f laid a more in
      absurd (cc)) (cases_lt a f.end),
)

module _ (funcs : List Func) (laid : AreLaidOut funcs) where
  -- only one function has it
  not_before : (a j k : ℕ) (d : Func) → j < k → k < length funcs → starts_at (get_or funcs j d).insts.items a ≡ true
      → starts_at (get_or funcs k d).insts.items a ≡ true → ⊥
  not_before a j k d less within one other =
      let apart : (get_or funcs j d).end ≤ (get_or funcs k d).start = laid.apart j k d less within in
      let here = within_function (get_or funcs j d) (laid.each j d (omega arith)) a one in
      let there = within_function (get_or funcs k d) (laid.each k d within) a other in
      omega (arith, apart, here.1, there.0)

  one_function : (a j k : ℕ) (d : Func) → j < length funcs → k < length funcs → starts_at (get_or funcs j d).insts.items a ≡ true
      → starts_at (get_or funcs k d).insts.items a ≡ true → j ≡ k
  one_function a j k d within within' one other = ⊎_elim
      (λ (less : j < k). absurd (not_before a j k d less within' one other))
      (λ (more : k ≤ j). ⊎_elim
      (λ (less : k < j). absurd (not_before a k j d less within other one))
      (λ (same : j ≤ k). omega arith)
      (cases_lt k j))
      (cases_lt j k)

  start_here : (a k : ℕ) (d : Func) → k < length funcs → starts_at (get_or funcs k d).insts.items a ≡ true →
      start_at funcs a ≡ (get_or funcs k d).start
  start_here a k d within here =
      let f = found (λ g. starts_at g.insts.items a) funcs (list_any_at (λ g. starts_at g.insts.items a) funcs k d within here) in
      let there = subst (λ (g : Func). starts_at g.insts.items a ≡ true) (sym f.stands) f.passes in
      let here' = subst (λ (g : Func). starts_at g.insts.items a ≡ true) (get_or_default funcs k d f.item within) here in
      let same = one_function a f.place k f.item f.within within there here' in
      ap (λ (o : Option Func). option_map_or (λ g. g.start) o 0) f.is
      ∙ ap (λ (g : Func). g.start) (sym f.stands)
      ∙ ap (λ j. (get_or funcs j f.item).start) same
      ∙ ap (λ (g : Func). g.start) (get_or_default funcs k f.item d within)

  -- the start by the indices of the instruction
  pub start_at_place : (a f i : ℕ) → IsInstPlace funcs a f i → (d : Func) → start_at funcs a ≡ (get_or funcs f d).start
  start_at_place a f i is d =
      let insts = (get_or funcs f d).insts.items in
      let p = any_element insts i (is.inst_within d) in
      start_here a f d is.func_within
      (list_any_at (λ q. q.addr == a) insts i p (is.inst_within d) (eq-eqb (get_or insts i p).addr a (is.starts d p)))

  pub start_nowhere : (a : ℕ) → is_code_address funcs a ≡ false → start_at funcs a ≡ 0
  start_nowhere a none =
      ap (λ (o : Option Func). option_map_or (λ g. g.start) o 0)
      (none_found (λ g. starts_at g.insts.items a) funcs (sym (code_address-list_any funcs a) ∙ none))

  -- facts of an instruction's address
  pub record IsInCode (a : ℕ) : Type 0 where
    pub from : start_at funcs a ≤ a
    pub low : a < address_end
    pub starts : list_any (λ f. f.start == start_at funcs a) funcs ≡ true

  pub in_code : (a : ℕ) → is_code_address funcs a ≡ true → IsInCode a
  in_code a code =
      let f = found (λ g. starts_at g.insts.items a) funcs (sym (code_address-list_any funcs a) ∙ code) in
      let there = subst (λ (g : Func). starts_at g.insts.items a ≡ true) (sym f.stands) f.passes in
      let start = start_here a f.place f.item f.within there in
      let bounds = within_function (get_or funcs f.place f.item) (laid.each f.place f.item f.within) a there in
      record {
        from = omega (arith, start, bounds.0);
        low = ⊎_elim (λ (less : a < address_end). less) (λ (more : address_end ≤ a).
            let none = no_code_from funcs laid a more in
            absurd (cc)) (cases_lt a address_end);
        starts = list_any_at (λ g. g.start == start_at funcs a) funcs f.place f.item f.within
            (eq-eqb (get_or funcs f.place f.item).start (start_at funcs a) (sym start));
      }

  -- The code of all functions, from the first start to the last end.

  pub range_order : (d e : Func) → 0 < length funcs → (get_or funcs 0 d).start ≤ (get_or funcs (length funcs - 1) e).end
  range_order d e some =
      let up = funcs_rise funcs laid 0 (length funcs - 1) d (omega arith) (omega arith) in
      let same = ap (λ (f : Func). f.start) (get_or_default funcs (length funcs - 1) d e (omega arith)) in
      let last = (laid.each (length funcs - 1) e (omega arith)).has_bytes in
      omega (arith, up, same, last)

  ends_last : (k : ℕ) (e : Func) → k < length funcs → (get_or funcs k e).end ≤ (get_or funcs (length funcs - 1) e).end
  ends_last k e within = ⊎_elim
      (λ (less : k < length funcs - 1).
      let apart = laid.apart k (length funcs - 1) e less (omega arith) in
      let last = (laid.each (length funcs - 1) e (omega arith)).has_bytes in
      omega (arith, apart, last))
      (λ (more : length funcs - 1 ≤ k).
      let same : k ≡ length funcs - 1 = omega arith in
      subst (λ (j : ℕ). (get_or funcs k e).end ≤ (get_or funcs j e).end) same (omega arith))
      (cases_lt k (length funcs - 1))

  pub in_range : (d e : Func) (k : ℕ) (f : Func) (i : ℕ) (p : Placed) → k < length funcs
      → i < length (get_or funcs k f).insts.items → ((get_or funcs 0 d).start ≤ (get_or (get_or funcs k f).insts.items i p).addr)
      × ((get_or (get_or funcs k f).insts.items i p).addr
      < (get_or funcs 0 d).start + ((get_or funcs (length funcs - 1) e).end - (get_or funcs 0 d).start))
  in_range d e k f i p within inside =
      let bounds = inst_bounds (get_or funcs k f) (laid.each k f within) i p inside in
      let first = funcs_rise funcs laid 0 k f (omega arith) within in
      let first' = ap (λ (g : Func). g.start) (get_or_default funcs 0 d f (omega arith)) in
      let last = ends_last k f within in
      let last' = ap (λ (g : Func). g.end) (get_or_default funcs (length funcs - 1) e f (omega arith)) in
      (omega (arith, first, first', bounds.0), omega (arith, first, first', bounds.0, bounds.1, last, last'))

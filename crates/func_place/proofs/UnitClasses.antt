-- Units, from the groups of functions by the pairs that lead into each other.
use Rattle.std.proofs.Common.{subst, ℕ, ◌≡◌, ◌≢◌, ◌↔◌, ◌<◌, ◌≤◌, List, [], length, get_or, sym, ◌∙◌, ap, refl, arith, ⊎_elim, inl, inr}
use Rattle.std.specs.Prelude.{All, Contains, slice_index}
use Rattle.std.proofs.lemmas.Bool.{cases_eq}
use Rattle.std.proofs.lemmas.List.{get_or_default}
use Rattle.std.proofs.lemmas.List.Elements.{Contains-get_or}
use Rattle.std.proofs.lemmas.Option.{slice_get_within}
use Rattle.rv_code.specs.declared.placed.Func.{Func}
use Rattle.func_place.specs.Units.{LeadsInto, AreTied, itself, onward, backward, AreUnits}
use Rattle.rb_bytes.specs.Lists.{Gains}
use Rattle.rb_bytes.proofs.Members.{Contains-nil}
use Rattle.func_place.specs.internal.TieList.{tie_at, IsTie, Touch, AreTogether, same, more, Ties}
use Rattle.rv_code.proofs.lists.FunctionAt.{function_at-within}

pub leads_from : (funcs : List Func) (t : ℕ × ℕ) → Ties funcs t → LeadsInto funcs t.0 t.1
leads_from funcs t is =
    let from = is.ties.ties in
    let leads : LeadsInto funcs is.place t.1 = record {
      func = from.func;
      is_func = from.is_func;
      at = is.ties.at;
      inst = from.inst;
      is_inst = from.is_inst;
      to = from.to;
      leads = from.leads;
      into = from.ties.into;
    } in
    subst (λ (f : ℕ). LeadsInto funcs f t.1) (sym from.ties.from) leads

ties_from : (funcs : List Func) (f g : ℕ) → LeadsInto funcs f g → g ≢ f → Ties funcs (f, g)
ties_from funcs f g l other = record {
  place = f;
  ties = record {
    at = l.at;
    ties = record {
      func = l.func;
      is_func = l.is_func;
      inst = l.inst;
      is_inst = l.is_inst;
      to = l.to;
      leads = l.leads;
      ties = record { from = refl; into = l.into; other = other };
    };
  };
}

pub leads_inside : (funcs : List Func) (f g : ℕ) → LeadsInto funcs f g → (f < length funcs) × (g < length funcs)
leads_inside funcs f g l = (slice_get_within funcs f l.func l.is_func, (function_at-within funcs l.to g l.func l.into).0)

-- the list of pairs
pub record AreTies (funcs : List Func) (ties : List (ℕ × ℕ)) : Type 0 where
  pub only : (k : ℕ) → k < length ties → LeadsInto funcs (tie_at ties k).0 (tie_at ties k).1
  pub each : (f g : ℕ) → LeadsInto funcs f g → g ≢ f → Contains ties (f, g)

pub are_ties : (funcs : List Func) (ties : List (ℕ × ℕ)) → Gains [] ties (Ties funcs) → AreTies funcs ties
are_ties funcs ties gains = record {
  only = λ k lt. leads_from funcs (tie_at ties k) (⊎_elim (λ none. absurd (Contains-nil (tie_at ties k) none)) (λ is. is)
      ((gains (tie_at ties k)).0 (Contains-get_or ties k (0, 0) lt)));
  each = λ f g l other. (gains (f, g)).1 (inr (ties_from funcs f g l other));
}

pub ties_inside : (funcs : List Func) (ties : List (ℕ × ℕ)) → AreTies funcs ties →
    All (λ t. (t.0 < length funcs) × (t.1 < length funcs)) ties
ties_inside funcs ties are k d lt =
    let inside = leads_inside funcs (tie_at ties k).0 (tie_at ties k).1 (are.only k lt) in
    let same_tie : tie_at ties k ≡ get_or ties k d = get_or_default ties k (0, 0) d lt in
    subst (λ (t : ℕ × ℕ). (t.0 < length funcs) × (t.1 < length funcs)) same_tie inside

tied_touch : (funcs : List Func) (ties : List (ℕ × ℕ)) → AreTies funcs ties → (f g h : ℕ) → AreTied funcs f g →
    Touch ties (length ties) g h → AreTied funcs f h
tied_touch funcs ties are f g h tied (inl t) = onward tied (subst (λ (x : ℕ). LeadsInto funcs g x) t.ends.1
    (subst (λ (x : ℕ). LeadsInto funcs x (tie_at ties t.by).1) t.ends.0 (are.only t.by t.within)))
tied_touch funcs ties are f g h tied (inr t) = backward tied (subst (λ (x : ℕ). LeadsInto funcs h x) t.ends.1
    (subst (λ (x : ℕ). LeadsInto funcs x (tie_at ties t.by).1) t.ends.0 (are.only t.by t.within)))

tied_together : (funcs : List Func) (ties : List (ℕ × ℕ)) → AreTies funcs ties → (f h : ℕ) →
    AreTogether ties (length ties) f h → AreTied funcs f h
tied_together funcs ties are f h same = itself
tied_together funcs ties are f h (more {g = g} r t) = tied_touch funcs ties are f g h (tied_together funcs ties are f g r) t

tie_of : (ties : List (ℕ × ℕ)) (f g : ℕ) → Contains ties (f, g) → IsTie ties (length ties) f g
tie_of ties f g (k, lt, is) =
    let at : tie_at ties k ≡ (f, g) = get_or_default ties k (0, 0) (f, g) lt ∙ is in
    record { by = k; within = lt; ends = (ap (λ (t : ℕ × ℕ). t.0) at, ap (λ (t : ℕ × ℕ). t.1) at) }

-- one more step, which may stay at one function
step : (ties : List (ℕ × ℕ)) (f g h : ℕ) → AreTogether ties (length ties) f g → (h ≢ g → Touch ties (length ties) g h) →
    AreTogether ties (length ties) f h
step ties f g h r touch =
    ⊎_elim (λ (e : h ≡ g). subst (AreTogether ties (length ties) f) (sym e) r) (λ (ne : h ≢ g). more r (touch ne)) (cases_eq h g)

together_tied : (funcs : List Func) (ties : List (ℕ × ℕ)) → AreTies funcs ties → (f h : ℕ) → AreTied funcs f h →
    AreTogether ties (length ties) f h
together_tied funcs ties are f h itself = same
together_tied funcs ties are f h (onward {g = g} r l) =
    step ties f g h (together_tied funcs ties are f g r) (λ ne. inl (tie_of ties g h (are.each g h l ne)))
together_tied funcs ties are f h (backward {g = g} r l) =
    step ties f g h (together_tied funcs ties are f g r) (λ ne. inr (tie_of ties h g (are.each h g l (λ e. ne (sym e)))))

pub tied_inside : (funcs : List Func) (f h : ℕ) → f < length funcs → AreTied funcs f h → h < length funcs
tied_inside funcs f h f_in itself = f_in
tied_inside funcs f h f_in (onward {g = g} r l) = (leads_inside funcs g h l).1
tied_inside funcs f h f_in (backward {g = g} r l) = (leads_inside funcs h g l).0

pub are_units : (funcs : List Func) (ties : List (ℕ × ℕ)) (numbers units : List ℕ) → AreTies funcs ties
    → length units ≡ length funcs
    → ((f h : ℕ) → f < length funcs → h < length funcs
    → (slice_index numbers f ≡ slice_index numbers h) ↔ AreTogether ties (length ties) f h)
    → ((u : ℕ) → u < length funcs → slice_index numbers (slice_index units u) ≡ slice_index numbers u)
    → ((u w : ℕ) → u < length funcs → w < length funcs → slice_index numbers w ≡ slice_index numbers u → slice_index units u ≤ w)
    → AreUnits funcs units
are_units funcs ties numbers units are len classes same_group lowest = record {
  len = len;
  tied = λ f f_in.
      let low = lowest f f f_in f_in refl in
      tied_together funcs ties are f (slice_index units f)
      ((classes f (slice_index units f) f_in (omega arith)).0 (sym (same_group f f_in)));
  lowest = λ f g f_in tied.
      let g_in = tied_inside funcs f g f_in tied in
      lowest f g f_in g_in (sym ((classes f g f_in g_in).1 (together_tied funcs ties are f g tied)));
}

pub units_inside : (funcs : List Func) (units : List ℕ) → AreUnits funcs units → All (λ u. u < length funcs) units
units_inside funcs units are k d lt =
    let len = are.len in
    let low = are.lowest k k (omega arith) itself in
    let same_unit = get_or_default units k 0 d lt in
    omega arith

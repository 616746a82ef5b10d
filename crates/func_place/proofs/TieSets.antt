-- The sets of pairs of functions that lead into each other, in the order in which they are collected.
use Rattle.std.proofs.Common.{◌≡◌, ◌≢◌, sym, ap, subst, refl, ℕ, ◌+◌, ◌<◌, ◌≤◌, ◌⊎◌, inl, inr, ⊎_elim, ◌↔◌, Bool, true, false}
use Rattle.std.proofs.Common.{IsTrue, Option, Some, None, List, length, arith, ◌∙◌}
use Rattle.std.specs.Prelude.{slice_get, if◌then◌else◌}
use Rattle.std.proofs.lemmas.Bool.{cases_eq}
use Rattle.std.proofs.lemmas.Option.{slice_get_within, same_Some}
use Rattle.rv_code.specs.declared.placed.Placed.{Placed}
use Rattle.rv_code.specs.declared.placed.Func.{Func}
use Rattle.rv_code.specs.layout.Blocks.{inst_at}
use Rattle.rv_code.specs.layout.Flow.{target_of, falls_at, fall_target}
use Rattle.rv_code.specs.layout.FunctionMembers.{function_at}
use Rattle.func_place.specs.Units.{jumps, falls_into, LeadsNear}
use Rattle.func_place.specs.internal.TieList.{TiesAt, TiesFrom, TiesOf, Ties}

-- One instruction: its target and the address to which it falls through.

-- an optional address
abbrev pub TiesTo : List Func → ℕ → Option ℕ → ℕ × ℕ → Type 0
TiesTo funcs f to t = (a : ℕ) × (to ≡ Some a) × TiesAt funcs f a t

fall_back : (b : Bool) (n a : ℕ) → (if b then Some n else None) ≡ Some a → (b ≡ true) × (n ≡ a)
fall_back true n a e = (refl, same_Some n a e)
fall_back false n a e = absurd (cc)

pub from_both : (funcs : List Func) (f i : ℕ) (func : Func) (p : Placed) → slice_get funcs f ≡ Some func → inst_at func i
    ≡ Some p → (t : ℕ × ℕ) → (TiesTo funcs f (target_of p) t ⊎ TiesTo funcs f (fall_target func i p) t) ↔ TiesFrom funcs f i t
from_both funcs f i func p is_func is_inst t = (
  ⊎_elim
      (λ (a, is, ties).
      record { func = func; is_func = is_func; inst = p; is_inst = is_inst; to = a; leads = jumps is; ties = ties })
      (λ (a, is, ties).
      let b = fall_back (falls_at func i p) (p.addr + p.len) a is in
      record { func = func; is_func = is_func; inst = p; is_inst = is_inst; to = a; leads = falls_into b.0 b.1; ties = ties }),
  (λ from.
      let same_func : from.func ≡ func = same_Some from.func func (sym from.is_func ∙ is_func) in
      let same_inst : from.inst ≡ p =
      same_Some from.inst p (sym from.is_inst ∙ ap (λ (g : Func). inst_at g i) same_func ∙ is_inst) in
      let leads : LeadsNear func i p from.to = subst (λ (q : Placed). LeadsNear func i q from.to) same_inst
      (subst (λ (g : Func). LeadsNear g i from.inst from.to) same_func from.leads) in
      split from.to from.ties leads),
)
  where
    falls_true : (b : Bool) (n : ℕ) → IsTrue b → (if b then Some n else None) ≡ Some n
    falls_true b n h = rw h refl

    split : (to : ℕ) → TiesAt funcs f to t → LeadsNear func i p to →
        TiesTo funcs f (target_of p) t ⊎ TiesTo funcs f (fall_target func i p) t
    split to ties (jumps is) = inl (to, is, ties)
    split to ties (falls_into falls is) = inr (to, falls_true (falls_at func i p) (p.addr + p.len) falls ∙ ap Some is, ties)

-- The first n instructions of a function, and the first n functions.

pub record TiesOfBelow (funcs : List Func) (f n : ℕ) (t : ℕ × ℕ) : Type 0 where
  pub at : ℕ
  pub within : at < n
  pub ties : TiesFrom funcs f at t

pub below_next : (funcs : List Func) (f n : ℕ) (t : ℕ × ℕ) →
    (TiesOfBelow funcs f n t ⊎ TiesFrom funcs f n t) ↔ TiesOfBelow funcs f (n + 1) t
below_next funcs f n t = (
  ⊎_elim
      (λ (b : TiesOfBelow funcs f n t). record { at = b.at; within = omega (arith, b.within); ties = b.ties })
      (λ from. record { at = n; within = omega arith; ties = from }),
  (λ b. ⊎_elim
      (λ (e : b.at ≡ n). inr (subst (λ (k : ℕ). TiesFrom funcs f k t) e b.ties))
      (λ (ne : b.at ≢ n). inl (record { at = b.at; within = let w = b.within in omega arith; ties = b.ties }))
      (cases_eq b.at n)),
)

pub below_all : (funcs : List Func) (f n : ℕ) (func : Func) → slice_get funcs f ≡ Some func → length func.insts.items ≤ n →
    (t : ℕ × ℕ) → TiesOfBelow funcs f n t ↔ TiesOf funcs f t
below_all funcs f n func is_func all t = (
  (λ b. record { at = b.at; ties = b.ties }),
  (λ o.
      let from = o.ties in
      let same_func : from.func ≡ func = same_Some from.func func (sym from.is_func ∙ is_func) in
      let lt =
      slice_get_within func.insts.items o.at from.inst (ap (λ (g : Func). inst_at g o.at) (sym same_func) ∙ from.is_inst) in
      record { at = o.at; within = omega arith; ties = o.ties }),
)

pub record TiesBelow (funcs : List Func) (n : ℕ) (t : ℕ × ℕ) : Type 0 where
  pub place : ℕ
  pub within : place < n
  pub ties : TiesOf funcs place t

pub funcs_next : (funcs : List Func) (n : ℕ) (t : ℕ × ℕ) → (TiesBelow funcs n t ⊎ TiesOf funcs n t) ↔ TiesBelow funcs (n + 1) t
funcs_next funcs n t = (
  ⊎_elim
      (λ (b : TiesBelow funcs n t). record { place = b.place; within = omega (arith, b.within); ties = b.ties })
      (λ o. record { place = n; within = omega arith; ties = o }),
  (λ b. ⊎_elim
      (λ (e : b.place ≡ n). inr (subst (λ (k : ℕ). TiesOf funcs k t) e b.ties))
      (λ (ne : b.place ≢ n). inl (record { place = b.place; within = let w = b.within in omega arith; ties = b.ties }))
      (cases_eq b.place n)),
)

pub funcs_all : (funcs : List Func) (n : ℕ) → length funcs ≤ n → (t : ℕ × ℕ) → TiesBelow funcs n t ↔ Ties funcs t
funcs_all funcs n all t = (
  (λ b. record { place = b.place; ties = b.ties }),
  (λ o.
      let from = o.ties.ties in
      let lt = slice_get_within funcs o.place from.func from.is_func in
      record { place = o.place; within = omega arith; ties = o.ties }),
)

-- One address.

pub at_found : (funcs : List Func) (f a g : ℕ) → function_at funcs a ≡ Some g → g ≢ f → (t : ℕ × ℕ) →
    ((f, g) ≡ t) ↔ TiesAt funcs f a t
at_found funcs f a g is ne t = (
  (λ e. record {
    from = ap (λ (s : ℕ × ℕ). s.0) (sym e);
    into = is ∙ ap (λ (s : ℕ × ℕ). Some s.1) e;
    other = λ h. ne (ap (λ (s : ℕ × ℕ). s.1) e ∙ h);
  }),
  (λ ties.
      let second : g ≡ t.1 = same_Some g t.1 (sym is ∙ ties.into) in
      let first : f ≡ t.0 = sym ties.from in
      λ i. (first i, second i)),
)

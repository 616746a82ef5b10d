-- The heaviest caller of a unit, by its properties.
use Rattle.std.proofs.Common.{ℕ, suc, ◌≡◌, ◌≢◌, ◌⊎◌, ◌<◌, ◌≤◌, ◌==◌, ◌&&◌, inl, inr, ⊎_elim, true, false, List, [], ◌∷◌, length}
use Rattle.std.proofs.Common.{get_or, Option, None, Some, arith, refl, ◌∙◌}
use Rattle.std.specs.Prelude.{if◌then◌else◌, slice_index}
use Rattle.std.proofs.lemmas.Grind.{common_steps}
use Rattle.std.proofs.lemmas.Bool.{cases_Bool}
use Rattle.std.proofs.lemmas.List.Sums.{sum_by-cons}
use Rattle.func_place.specs.declared.calls.UnitCall.{UnitCall}
use Rattle.func_place.specs.Calls.{calls_between}

abbrev pub call_at : List UnitCall → ℕ → UnitCall
call_at calls k = get_or calls k (record { from = 0; to = 0; count = 0 })

-- v has a greater sum to u than w, or an equal one and v isn't higher
abbrev pub CallsMore : List UnitCall → ℕ → ℕ → ℕ → Type 0
CallsMore calls u v w =
    (calls_between calls w u < calls_between calls v u) ⊎ ((calls_between calls w u ≡ calls_between calls v u) × (v ≤ w))

-- another hot unit with a positive sum to u
pub record Calls (heats : List ℕ) (calls : List UnitCall) (u v : ℕ) : Type 0 where
  pub other : v ≢ u
  pub hot : 0 < slice_index heats v
  pub some : 0 < calls_between calls v u

abbrev pub IsHeaviest : List ℕ → List UnitCall → ℕ → Option ℕ → Type 0
IsHeaviest heats calls u None = (w : ℕ) → Calls heats calls u w → ⊥
IsHeaviest heats calls u (Some v) = Calls heats calls u v × ((w : ℕ) → Calls heats calls u w → CallsMore calls u v w)

pub more_trans : (calls : List UnitCall) (u v w x : ℕ) → CallsMore calls u v w → CallsMore calls u w x → CallsMore calls u v x
more_trans calls u v w x (inl a) (inl b) = inl (omega arith)
more_trans calls u v w x (inl a) (inr b) = inl (let e = b.0 in omega arith)
more_trans calls u v w x (inr a) (inl b) = inl (let e = a.0 in omega arith)
more_trans calls u v w x (inr a) (inr b) = inr (b.0 ∙ a.0, let m = a.1 in let n = b.1 in omega arith)

pub more_self : (calls : List UnitCall) (u v : ℕ) → CallsMore calls u v v
more_self calls u v = inr (refl, omega arith)

pub same_pair : (a b x y : ℕ) → ((a == x) && (b == y)) ≡ true → (a ≡ x) × (b ≡ y)
same_pair a b x y h = (grind (arith, common_steps), grind (arith, common_steps))

-- a pair with a positive sum occurs in the list
pub occurs : (calls : List UnitCall) (w u : ℕ) → 0 < calls_between calls w u →
    (k : ℕ) × (k < length calls) × ((call_at calls k).from ≡ w) × ((call_at calls k).to ≡ u)
occurs [] w u some = absurd (omega arith)
occurs (c ∷ cs) w u some =
    let sum = sum_by-cons (λ (c : UnitCall). if (c.from == w) && (c.to == u) then c.count else 0) c cs in
    ⊎_elim (λ (h : ((c.from == w) && (c.to == u)) ≡ true). let s = same_pair c.from c.to w u h in (0, omega arith, s.0, s.1))
    (λ (h : ((c.from == w) && (c.to == u)) ≡ false).
    let none : (if (c.from == w) && (c.to == u) then c.count else 0) ≡ 0 = rw h refl in
    let k = occurs cs w u (omega arith) in (suc k.0, omega (arith, k.1), k.2, k.3))
    (cases_Bool ((c.from == w) && (c.to == u)))

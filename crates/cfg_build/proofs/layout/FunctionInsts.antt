-- The instructions of a function by their indices: they follow one another in the function without a gap.
use Rattle.std.proofs.Common.{◌≡◌, ◌∙◌, subst, ap, ℕ, ◌+◌, ◌%◌, ◌<◌, ◌≤◌, ◌⊎◌, inl, inr, ⊎_elim, List, [], ◌∷◌, Some, All, arith}
use Rattle.std.specs.Prelude.{Contains}
use Rattle.std.proofs.lemmas.List.Elements.{All-head, All-tail}
use Rattle.std.proofs.lemmas.Option.{get_or_from_slice_get, slice_get_within}
use Rattle.rv_code.specs.declared.placed.Placed.{Placed}
use Rattle.rv_code.specs.declared.placed.Func.{Func}
use Rattle.rv_code.specs.layout.Blocks.{inst_at}
use Rattle.rv_code.specs.layout.FunctionLists.{Follow, HasLength, IsLaidOut}
use Rattle.rv_code.proofs.lists.Follows.{follow_up, follow_upto, some_length}
use Rattle.rb_bytes.proofs.Members.{Contains-cons_cases}

-- An instruction is between two addresses, at an even address.
pub record LiesIn (start end : ℕ) (p : Placed) : Type 0 where
  pub from : start ≤ p.addr
  pub to : p.addr + p.len ≤ end
  pub some : 2 ≤ p.len
  pub even : p.addr % 2 ≡ 0

-- Instructions that follow one another.

next_even : (a : ℕ) (p : Placed) → HasLength p → a % 2 ≡ 0 → (a + p.len) % 2 ≡ 0
next_even a p = ⊎_elim (λ (two : p.len ≡ 2). λ (even : a % 2 ≡ 0). omega arith) (λ (four : p.len ≡ 4). λ
    (even : a % 2 ≡ 0). omega arith)

follow_within : (a end : ℕ) (ps : List Placed) (p : Placed) → Follow a ps end → All HasLength ps → a % 2 ≡ 0 → Contains ps p →
    LiesIn a end p
follow_within a end [] p f lengths even is_in = absurd (let l = is_in.1 in omega arith)
follow_within a end (q ∷ ps) p f lengths even is_in =
    by (Contains-cons_cases q ps p is_in)
    (λ k. follow_within (a + q.len) end ps p f.1 (All-tail HasLength q ps lengths) (next_even a q
    (All-head HasLength q ps lengths) even) k)
  where
    here : LiesIn a end q
    here =
        let at = f.0 in
        let rest = follow_upto (a + q.len) ps end f.1 in
        record {
          from = omega arith;
          to = omega arith;
          some = (some_length q (All-head HasLength q ps lengths)).0;
          even = ap (λ (n : ℕ). n % 2) at ∙ even;
        }

    by : (q ≡ p) ⊎ Contains ps p → (Contains ps p → LiesIn (a + q.len) end p) → LiesIn a end p
    by (inl same) rest = subst (LiesIn a end) same here
    by (inr k) rest =
        let r = rest k in
        let from = r.from in
        record { from = omega arith; to = r.to; some = r.some; even = r.even }

-- The instructions of a function.

pub contains_at : (func : Func) (i : ℕ) (p : Placed) → inst_at func i ≡ Some p → Contains func.insts.items p
contains_at func i p at =
    (i, slice_get_within func.insts.items i p at, get_or_from_slice_get func.insts.items i p p at)

module _ (func : Func) (is : IsLaidOut func) where
  pub inst_lies : (p : Placed) → Contains func.insts.items p → LiesIn func.start func.end p
  inst_lies p is_in = follow_within func.start func.end func.insts.items p is.follow is.lengths is.even is_in

  pub inst_lies_at : (i : ℕ) (p : Placed) → inst_at func i ≡ Some p → LiesIn func.start func.end p
  inst_lies_at i p at = inst_lies p (contains_at func i p at)

  pub earlier_below : (i j : ℕ) (p q : Placed) → inst_at func i ≡ Some p → inst_at func j ≡ Some q → i < j →
      p.addr + p.len ≤ q.addr
  earlier_below i j p q at at' less = follow_up func.start func.insts.items func.end i j p q is.follow at at' less

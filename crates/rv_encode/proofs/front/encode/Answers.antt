use Rattle.std.proofs.Common.{arith, inl, inr, refl, subst, sym, ◌≡◌, ℕ, ◌+◌, ◌*◌, ◌/◌, ◌%◌, ◌^◌, Option, Some, None, IsSomeAnd}
use Rattle.rv_code.specs.isa.FullRows.{IsFull}
use Rattle.rv_code.specs.declared.inst.Inst.{Inst}
use Rattle.rv_encode.proofs.Forms.{form_of_half, half_of_form, not_full}
use Rattle.rv_encode.proofs.front.encode.Goals as goal

-- If no word encodes the instruction, no two halfwords do.
no_full : (next : Option ℕ) (half : ℕ) (inst : Inst) → ((word : ℕ) → IsFull word inst → ⊥) →
    IsSomeAnd next (λ upper. IsFull (upper * 2 ^ 16 + half) inst) → ⊥
no_full (Some upper) half inst none row = none (upper * 2 ^ 16 + half) row
no_full None half inst none row = row

pub returns-in_ok-encode_half-in-Half-clause-found : goal.returns-in_ok-encode_half-in-Half-clause-found
returns-in_ok-encode_half-in-Half-clause-found c =
    let row = half_of_form _ c.args.inst.now c.in_ok-encode_half-in-Half.ensures.found in
    λ next. inl (record { is_half = not_full row.0 _ row.1; two_bytes = refl; row = row })

pub returns-in_err-encode_half-in-Half-clause-none : goal.returns-in_err-encode_half-in-Half-clause-none
returns-in_err-encode_half-in-Half-clause-none c = rw c.from_residual.ensures (λ half next d. elim d [
  | inl p ↦ c.in_err-encode_half-in-Half.ensures.found half (form_of_half half c.args.inst.now p.row)
  | inr p ↦ let differ = rw c.in-Half.is at p.four_bytes in absurd (omega arith)
])

pub returns-in_ok-encode_full-in-Full-clause-found : goal.returns-in_ok-encode_full-in-Full-clause-found
returns-in_ok-encode_full-in-Full-clause-found c =
    let w : ℕ = c.in_ok-encode_full-in-Full.field-0 in
    let joined : w / 65536 * 65536 + w % 65536 ≡ w = omega arith in
    inr (record {
      is_full = omega (arith, c.in_ok-encode_full-in-Full.ensures.not_compressed);
      four_bytes = refl;
      row = subst (λ (m : ℕ). IsFull m c.args.inst.now) (sym joined) c.in_ok-encode_full-in-Full.ensures.found;
    })

pub returns-in_err-encode_full-in-Full-clause-none : goal.returns-in_err-encode_full-in-Full-clause-none
returns-in_err-encode_full-in-Full-clause-none c = rw c.from_residual-in_err-encode_full-in-Full.ensures (λ half next d. elim d [
  | inl p ↦ let differ = rw c.in-Full.is at p.two_bytes in absurd (omega arith)
  | inr p ↦ no_full next half c.args.inst.now c.in_err-encode_full-in-Full.ensures.found p.row
])

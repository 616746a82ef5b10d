-- The decoded instruction is the only one at an address.
use Rattle.std.proofs.Common.{◌≡◌, ◌≢◌, sym, subst, ℕ, inl, ⊎_elim, Option, Some, None, IfSome, IfNone}
use Rattle.rv_code.specs.declared.inst.Inst.{Inst}
use Rattle.rv_code.specs.isa.InstBytes.{Decodes, DecodesHalf, DecodesFull}

-- A two-byte instruction doesn't depend on the next halfword.
pub Decodes-two : (half : ℕ) (next next' : Option ℕ) (inst : Inst) (bytes : ℕ) → bytes ≢ 4 → Decodes half next inst bytes →
    Decodes half next' inst bytes
Decodes-two half next next' inst bytes short =
    ⊎_elim (λ (two : DecodesHalf half inst bytes). inl two)
    (λ (full : DecodesFull half next inst bytes). absurd (short full.four_bytes))

pub Decodes-same : (h h' n n' : ℕ) (inst : Inst) (bytes : ℕ) → h ≡ h' → n ≡ n' → Decodes h' (Some n') inst bytes →
    Decodes h (Some n) inst bytes
Decodes-same h h' n n' inst bytes same next is =
    subst (λ (x : ℕ). Decodes x (Some n) inst bytes) (sym same) (subst (λ (x : ℕ). Decodes h' (Some x) inst bytes) (sym next) is)

-- The result of the decoder.
pub decoded : (half : ℕ) (next : Option ℕ) (o : Option (Inst × ℕ)) →
    IfSome o (λ r. (i : Inst) (bytes : ℕ) → Decodes half next i bytes → (i ≡ r.0) × (bytes ≡ r.1)) →
    IfNone o ((i : Inst) (bytes : ℕ) → Decodes half next i bytes → ⊥) → (inst : Inst) (bytes : ℕ) → Decodes half next inst bytes →
    o ≡ Some (inst, bytes)
decoded half next None only none inst bytes is = absurd (none inst bytes is)
decoded half next (Some r) only none inst bytes is = let (same, long) = only inst bytes is in λ i. Some (sym same i, sym long i)

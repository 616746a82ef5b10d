-- Which bytes are a call, by their bits. So a proof can compute whether a call is there.
use Rattle.std.proofs.Common.{◌≡◌, ◌≢◌, ◌∙◌, ℕ, ◌+◌, ◌*◌, ◌^◌, Bool, true, false, not, Option, Some, None, refl, ap, sym, subst, inl, inr}
use Rattle.std.specs.Prelude.{◌==◌, ◌&&◌, ◌||◌, ◌⊎◌, if◌then◌else◌, IsTrue}
use Rattle.std.proofs.lemmas.Bool.{and_parts, and_from, or_cases, or_left, or_right, not-true, eqb-true, eqb-false, eq-eqb, ne_eqb}
use Rattle.std.proofs.lemmas.Bool.{not_from_false}
use Rattle.std.proofs.lemmas.Option.{same_Some}
use Rattle.rv_code.specs.declared.inst.Inst.{Inst}
use Rattle.rv_code.specs.declared.inst.Inst.TheVariants.{Jal, Jalr}
use Rattle.rv_code.specs.isa.Action.{action_of}
use Rattle.rv_code.specs.isa.Bits.{field, imm_i, imm_j}
use Rattle.rv_code.specs.isa.FullRows.{IsFull}
use Rattle.rv_code.specs.isa.HalfRows.{C_JALR, IsHalf, Matches, Row, expansion}
use Rattle.rv_code.specs.isa.InstBytes.{Decodes}
use Rattle.rv_code.specs.layout.Flow.{is_call}

-- These are a call of `bytes` bytes.
pub record IsCall (half next bytes : ℕ) : Type 0 where
  pub inst : Inst
  pub is : Decodes half (Some next) inst bytes
  pub calls : IsTrue (is_call (action_of inst))

-- C.JALR
abbrev is_half_call : ℕ → Bool
is_half_call half =
    not (field half 7 5 == 0) && (field half 0 2 == 2 && (field half 13 3 == 4 && (field half 12 1 == 1 && field half 2 5 == 0)))

-- JAL or JALR, to another register than x0
abbrev is_full_call : ℕ → Bool
is_full_call word = not (field word 7 5 == 0) && (field word 0 7 == 0x6f || (field word 0 7 == 0x67 && field word 12 3 == 0))

abbrev pub call_bytes : ℕ → ℕ → Option ℕ
call_bytes half next =
    if field half 0 2 == 3 then (if is_full_call (next * 2 ^ 16 + half) then Some 4 else None)
    else (if is_half_call half then Some 2 else None)

-- A call passes the test.

renamed : (x rd : ℕ) → x ≡ rd → not (rd == 0) ≡ true → not (x == 0) ≡ true
renamed x rd is t = subst (λ (n : ℕ). not (n == 0) ≡ true) (sym is) t

full_call : (word : ℕ) (i : Inst) → IsFull word i → IsTrue (is_call (action_of i)) → is_full_call word ≡ true
full_call word (Jal rd imm) row t =
    and_from (not (field word 7 5 == 0)) (field word 0 7 == 0x6f || (field word 0 7 == 0x67 && field word 12 3 == 0))
    (renamed (field word 7 5) rd row.rd_is t)
    (or_left (field word 0 7 == 0x6f) (field word 0 7 == 0x67 && field word 12 3 == 0) (eq-eqb (field word 0 7) 0x6f row.opcode_is))
full_call word (Jalr rd rs1 imm) row t =
    and_from (not (field word 7 5 == 0)) (field word 0 7 == 0x6f || (field word 0 7 == 0x67 && field word 12 3 == 0))
    (renamed (field word 7 5) rd row.rd_is t)
    (or_right (field word 0 7 == 0x6f) (field word 0 7 == 0x67 && field word 12 3 == 0)
    (and_from (field word 0 7 == 0x67) (field word 12 3 == 0) (eq-eqb (field word 0 7) 0x67 row.opcode_is)
    (eq-eqb (field word 12 3) 0 row.funct3_is)))
full_call word _ row t = absurd (cc)

half_row : (row : Row) (half : ℕ) → Matches row half → IsTrue (is_call (action_of (expansion row half))) → is_half_call half ≡ true
half_row C_JALR half m t =
    and_from (not (field half 7 5 == 0)) (field half 0 2 == 2 && (field half 13 3 == 4 && (field half 12 1 == 1 && field half 2 5 == 0)))
    (not_from_false (field half 7 5 == 0) (ne_eqb (field half 7 5) 0 m.2))
    (and_from (field half 0 2 == 2) (field half 13 3 == 4 && (field half 12 1 == 1 && field half 2 5 == 0))
    (eq-eqb (field half 0 2) 2 m.0.opens.quadrant_is)
    (and_from (field half 13 3 == 4) (field half 12 1 == 1 && field half 2 5 == 0) (eq-eqb (field half 13 3) 4 m.0.opens.funct3_is)
    (and_from (field half 12 1 == 1) (field half 2 5 == 0) (eq-eqb (field half 12 1) 1 m.0.bit12_is) (eq-eqb (field half 2 5) 0 m.1))))
half_row _ half m t = absurd (cc)

half_call : (half : ℕ) (i : Inst) → IsHalf half i → IsTrue (is_call (action_of i)) → is_half_call half ≡ true
half_call half i (row, m, same) t = half_row row half m (subst (λ (j : Inst). IsTrue (is_call (action_of j))) same t)

pub call_passes : (half next bytes : ℕ) → IsCall half next bytes → call_bytes half next ≡ Some bytes
call_passes half next bytes c = by c.is where
  by : Decodes half (Some next) c.inst bytes → call_bytes half next ≡ Some bytes
  by (inl d) =
      ap (λ (b : Bool). if b then (if is_full_call (next * 2 ^ 16 + half) then Some 4 else None)
      else (if is_half_call half then Some 2 else None)) (ne_eqb (field half 0 2) 3 d.is_half)
      ∙ ap (λ (b : Bool). if b then Some 2 else None) (half_call half c.inst d.row c.calls)
      ∙ ap Some (sym d.two_bytes)
  by (inr d) =
      ap (λ (b : Bool). if b then (if is_full_call (next * 2 ^ 16 + half) then Some 4 else None)
      else (if is_half_call half then Some 2 else None)) (eq-eqb (field half 0 2) 3 d.is_full)
      ∙ ap (λ (b : Bool). if b then Some 4 else None) (full_call (next * 2 ^ 16 + half) c.inst d.row c.calls)
      ∙ ap Some (sym d.four_bytes)

-- What passes the test is a call.

full_found : (word : ℕ) → is_full_call word ≡ true → (i : Inst) × IsFull word i × IsTrue (is_call (action_of i))
full_found word t =
    let parts = and_parts (not (field word 7 5 == 0)) (field word 0 7 == 0x6f || (field word 0 7 == 0x67 && field word 12 3 == 0)) t in
    by parts.0 (or_cases (field word 0 7 == 0x6f) (field word 0 7 == 0x67 && field word 12 3 == 0) parts.1)
  where
    by : not (field word 7 5 == 0) ≡ true → ((field word 0 7 == 0x6f) ≡ true) ⊎ ((field word 0 7 == 0x67 && field word 12 3 == 0) ≡ true) →
        (i : Inst) × IsFull word i × IsTrue (is_call (action_of i))
    by saves (inl jal) = (
      Jal (field word 7 5) (imm_j word),
      record { opcode_is = eqb-true (field word 0 7) 0x6f jal; rd_is = refl; imm_is = refl },
      saves,
    )
    by saves (inr jalr) =
        let both = and_parts (field word 0 7 == 0x67) (field word 12 3 == 0) jalr in (
          Jalr (field word 7 5) (field word 15 5) (imm_i word),
          record {
            opcode_is = eqb-true (field word 0 7) 0x67 both.0;
            funct3_is = eqb-true (field word 12 3) 0 both.1;
            rd_is = refl;
            rs1_is = refl;
            imm_is = refl;
          },
          saves,
        )

half_found : (half next : ℕ) → field half 0 2 ≢ 3 → is_half_call half ≡ true → IsCall half next 2
half_found half next short t =
    let a = and_parts (not (field half 7 5 == 0))
    (field half 0 2 == 2 && (field half 13 3 == 4 && (field half 12 1 == 1 && field half 2 5 == 0))) t in
    let b = and_parts (field half 0 2 == 2) (field half 13 3 == 4 && (field half 12 1 == 1 && field half 2 5 == 0)) a.1 in
    let c = and_parts (field half 13 3 == 4) (field half 12 1 == 1 && field half 2 5 == 0) b.1 in
    let d = and_parts (field half 12 1 == 1) (field half 2 5 == 0) c.1 in
    record {
      inst = expansion C_JALR half;
      is = inl (record {
        is_half = short;
        two_bytes = refl;
        row = (
          C_JALR,
          (
            record {
              opens = record {
                quadrant_is = eqb-true (field half 0 2) 2 b.0;
                funct3_is = eqb-true (field half 13 3) 4 c.0;
              };
              bit12_is = eqb-true (field half 12 1) 1 d.0;
            },
            eqb-true (field half 2 5) 0 d.1,
            eqb-false (field half 7 5) 0 (not-true (field half 7 5 == 0) a.0),
          ),
          refl,
        );
      });
      calls = refl;
    }

pub passes_call : (half next bytes : ℕ) → call_bytes half next ≡ Some bytes → IsCall half next bytes
passes_call half next bytes e =
    by (field half 0 2 == 3) (is_full_call (next * 2 ^ 16 + half)) (is_half_call half) refl refl refl e
  where
    by : (b c d : Bool) → (field half 0 2 == 3) ≡ b → is_full_call (next * 2 ^ 16 + half) ≡ c → is_half_call half ≡ d →
        (if b then (if c then Some 4 else None) else (if d then Some 2 else None)) ≡ Some bytes → IsCall half next bytes
    by true true d full t u f =
        let found = full_found (next * 2 ^ 16 + half) t in
        record {
          inst = found.0;
          is = inr (record { is_full = eqb-true (field half 0 2) 3 full; four_bytes = sym (same_Some 4 bytes f); row = found.1 });
          calls = found.2;
        }
    by true false d full t u f = absurd (cc)
    by false c true short t u f =
        subst (IsCall half next) (same_Some 2 bytes f) (half_found half next (eqb-false (field half 0 2) 3 short) u)
    by false c false short t u f = absurd (cc)

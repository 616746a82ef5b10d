-- Instructions in the code of an output.
use Rattle.std.proofs.Common.{◌≡◌, ◌≤◌, ◌+◌, ◌*◌, ◌%◌, ◌^◌, ◌∙◌, ℕ, Bool, true, false, ap, sym, subst, arith}
use Rattle.std.proofs.Common.{inl, inr, ◌↔◌, Option, Some, None, IfSome, IfNone, IsTrue, unwrap_or, if◌then◌else◌}
use Rattle.std.specs.Prelude.{◌==◌}
use Rattle.std.proofs.lemmas.Bool.{and_parts, eq-eqb, ne_eqb, eqb-true}
use Rattle.rv_code.specs.declared.inst.Inst.{Inst}
use Rattle.rv_code.specs.isa.InstBytes.{Decodes}
use Rattle.elf_image.specs.declared.elf.Elf.{Elf}
use Rattle.elf_code.specs.Parts.{halfword_in}
use Rattle.elf_image.specs.memory.Executables.{Executable, executable_read, memory_of, AreCodeBytes}
use Rattle.move_law.specs.Rewrite.{width_at, HasAt, Goes, stays, jumps}
use Rattle.code_starts.specs.LoadedMemory.{IsLow}
use Rattle.map_check.proofs.LowFiles.{no_byte}
use Rattle.map_check.specs.internal.OutputCode.{IsOnlyAt, FindsAt, Jumps, leads_to}
use Rattle.rv_code.specs.declared.inst.Inst.TheVariants.{Jal}
use Rattle.rv_code.specs.machine.Machine.{plus}
use Rattle.rv_code.specs.isa.TwosComplement.{unsigned64}
use Rattle.std.specs.Prelude.{ℤ}

-- the width of an instruction, by its first halfword
pub width_is : (half : ℕ) (next : Option ℕ) (inst : Inst) (bytes : ℕ) → Decodes half next inst bytes →
    bytes ≡ (if half % 4 == 3 then 4 else 2)
width_is half next inst bytes (inl d) =
    let h = d.is_half in let e = d.two_bytes in short half (λ t. h (omega (arith, t))) bytes e
  where
    short : (h : ℕ) → (h % 4 ≡ 3 → ⊥) → (n : ℕ) → n ≡ 2 → n ≡ (if h % 4 == 3 then 4 else 2)
    short h other n e = e ∙ sym (ap (λ (t : Bool). if t then 4 else 2) (ne_eqb (h % 4) 3 other))
width_is half next inst bytes (inr d) =
    let h = d.is_full in let e = d.four_bytes in long half (omega (arith, h)) bytes e
  where
    long : (h : ℕ) → h % 4 ≡ 3 → (n : ℕ) → n ≡ 4 → n ≡ (if h % 4 == 3 then 4 else 2)
    long h is n e = e ∙ sym (ap (λ (t : Bool). if t then 4 else 2) (eq-eqb (h % 4) 3 is))

-- the result of the decoder
pub decoded : (elf : Elf) (a half next width : ℕ) (o : Option (Inst × ℕ)) → half ≡ halfword_in (memory_of (executable_read elf)) a →
    next ≡ halfword_in (memory_of (executable_read elf)) (a + 2) → width ≡ (if half % 4 == 3 then 4 else 2) →
    AreCodeBytes (executable_read elf) a width →
    IfSome o (λ r. Decodes half (Some next) r.0 r.1) →
    IfSome o (λ r. (i : Inst) (bytes : ℕ) → Decodes half (Some next) i bytes → (i ≡ r.0) × (bytes ≡ r.1)) →
    IfNone o ((i : Inst) (bytes : ℕ) → Decodes half (Some next) i bytes → ⊥) → FindsAt (executable_read elf) a o
decoded elf a half next width None first second third code found only none =
    λ inst has. none inst (width_at (executable_read elf) a)
    (subst (λ (h : ℕ). Decodes h (Some next) inst (width_at (executable_read elf) a)) (sym first)
    (subst (λ (n : ℕ). Decodes (halfword_in (memory_of (executable_read elf)) a) (Some n) inst (width_at (executable_read elf) a))
    (sym second) has.is_inst))
decoded elf a half next width (Some r) first second third code found only none = record {
  has = record {
    is_inst = subst (λ (n : ℕ). Decodes (halfword_in (memory_of (executable_read elf)) a) (Some n) r.0 (width_at (executable_read elf) a))
        second
        (subst (λ (h : ℕ). Decodes h (Some next) r.0 (width_at (executable_read elf) a)) first
        (subst (λ (w : ℕ). Decodes half (Some next) r.0 w) same found));
    code = subst (AreCodeBytes (executable_read elf) a) (third ∙ sym (width_is half (Some next) r.0 r.1 found) ∙ same) code;
  };
  width_is = same;
  only = λ other has. (only other (width_at (executable_read elf) a)
      (subst (λ (h : ℕ). Decodes h (Some next) other (width_at (executable_read elf) a)) (sym first)
      (subst (λ (n : ℕ). Decodes (halfword_in (memory_of (executable_read elf)) a) (Some n) other (width_at (executable_read elf) a))
      (sym second) has.is_inst))).0;
}
  where
    same : r.1 ≡ width_at (executable_read elf) a
    same = width_is half (Some next) r.0 r.1 found ∙ ap (λ (h : ℕ). if h % 4 == 3 then 4 else 2) first

pub width_then : (half width : ℕ) → half % 4 ≡ 3 → width ≡ 4 → width ≡ (if half % 4 == 3 then 4 else 2)
width_then half width long is = is ∙ sym (ap (λ (t : Bool). if t then 4 else 2) (eq-eqb (half % 4) 3 long))

pub width_else : (half width : ℕ) → (half % 4 ≡ 3 → ⊥) → width ≡ 2 → width ≡ (if half % 4 == 3 then 4 else 2)
width_else half width short is = is ∙ sym (ap (λ (t : Bool). if t then 4 else 2) (ne_eqb (half % 4) 3 short))

pub next_some : (elf : Elf) (a h after n : ℕ) → after ≡ a + 2 → h ≡ halfword_in (memory_of (executable_read elf)) after → n ≡ h →
    n ≡ halfword_in (memory_of (executable_read elf)) (a + 2)
next_some elf a h after n at is same = same ∙ is ∙ ap (halfword_in (memory_of (executable_read elf))) at

pub next_none : (elf : Elf) (a n : ℕ) → IsLow elf → 2 ^ 64 ≤ a + 2 → n ≡ 0 → n ≡ halfword_in (memory_of (executable_read elf)) (a + 2)
next_none elf a n low high is =
    let first = no_byte elf (a + 2) low (omega (arith, high)) in
    let second = no_byte elf (a + 2 + 1) low (omega (arith, high)) in
    is ∙ sym (λ i. unwrap_or (first i) 0 + 256 * unwrap_or (second i) 0)

-- Jumps.

leads_parts : (inst : Inst) (from to : ℕ) → leads_to inst from to ≡ true →
    (imm : ℤ) × (inst ≡ Jal 0 imm) × (plus from (unsigned64 imm) ≡ to)
leads_parts (Jal rd imm) from to is =
    let parts = and_parts (rd == 0) (plus from (unsigned64 imm) == to) is in
    (imm, ap (λ (d : ℕ). Jal d imm) (eqb-true rd 0 parts.0), eqb-true (plus from (unsigned64 imm)) to parts.1)
leads_parts inst from to is = absurd (let never : false ≡ true = is in cc)

pub jumps_some : (x : Executable) (p q : ℕ) (inst : Inst) (width : ℕ) (b : Bool) → IsOnlyAt x p inst width → b ≡ leads_to inst p q →
    IsTrue b ↔ Jumps x p q
jumps_some x p q inst width b only is = (
  (λ yes_it.
      let parts = leads_parts inst p q (sym is ∙ yes_it) in
      record { imm = parts.0; has = subst (HasAt x p) parts.1 only.has; leads = parts.2 }),
  λ j.
      let same : Jal 0 j.imm ≡ inst = only.only (Jal 0 j.imm) j.has in
      is ∙ ap (λ i. leads_to i p q) (sym same) ∙ eq-eqb (plus p (unsigned64 j.imm)) q j.leads,
)

pub jumps_none : (x : Executable) (p q : ℕ) → FindsAt x p None → IsTrue false ↔ Jumps x p q
jumps_none x p q none = ((λ is. absurd (let never : false ≡ true = is in cc)), λ j. absurd (none (Jal 0 j.imm) j.has))

pub goes_else : (x : Executable) (p q : ℕ) (b : Bool) → (p ≡ q → ⊥) → IsTrue b ↔ Jumps x p q → IsTrue b ↔ Goes x p q
goes_else x p q b apart jump = ((λ yes_it. let j = jump.0 yes_it in jumps j.imm j.has j.leads), from)
  where
    from : Goes x p q → b ≡ true
    from (stays same) = absurd (apart same)
    from (jumps imm has leads) = jump.1 (record { imm = imm; has = has; leads = leads })

-- The rows of JALs, and how control goes on.
use Rattle.std.proofs.Common.{◌≡◌, ◌∙◌, ℕ, ℤ, suc, zero, Bool, true, false, not, List, refl, ap, sym, subst, ◌↔◌, IsTrue}
use Rattle.std.specs.Prelude.{◌==◌}
use Rattle.std.proofs.lemmas.Bool.{and_parts, and_from, eq-eqb, eqb-true}
use Rattle.rv_code.specs.declared.inst.Inst.{Inst}
use Rattle.rv_code.specs.declared.inst.Inst.TheVariants.{Jal}
use Rattle.rv_code.specs.declared.placed.Placed.{Placed}
use Rattle.rv_code.specs.declared.action.Action.{Action}
use Rattle.rv_code.specs.declared.action.Action.TheVariants.{Branch, Jump, JumpTo}
use Rattle.rv_code.specs.isa.TwosComplement.{unsigned64}
use Rattle.rv_code.specs.layout.Flow.{action_at, is_branch, is_plain_jump}
use Rattle.rv_code.specs.machine.Machine.{plus}
use Rattle.elf_image.specs.declared.elf.Elf.{Elf}
use Rattle.addr_map.specs.declared.span.Span.{Span}
use Rattle.addr_map.specs.Spans.{new}
use Rattle.elf_image.specs.memory.Executables.{Executable, executable_read}
use Rattle.move_law.specs.Rewrite.{Rewrite, width_at, out, inst_end, Goes}
use Rattle.move_law.specs.FaithfulRewrite.{HasInSpan, GetsToNext, KeepsAction, KeepsCall, GoesOn, goes_on}
use Rattle.map_check.specs.internal.InstRows.{IsChecked, IsInSpan, calls_to}
use Rattle.map_check.specs.declared.found.Found.{Found}
use Rattle.map_check.proofs.CheckedRows.{new_is, goes_same}

calls_parts : (inst : Inst) (rd from to : ℕ) → calls_to inst rd from to ≡ true →
    (imm : ℤ) × (inst ≡ Jal rd imm) × (plus from (unsigned64 imm) ≡ to)
calls_parts (Jal found imm) rd from to is =
    let parts = and_parts (found == rd) (plus from (unsigned64 imm) == to) is in
    (imm, ap (λ (d : ℕ). Jal d imm) (eqb-true found rd parts.0), eqb-true (plus from (unsigned64 imm)) to parts.1)
calls_parts inst rd from to is = absurd (let never : false ≡ true = is in cc)

calls_from : (inst : Inst) (rd from to : ℕ) (imm : ℤ) → Jal rd imm ≡ inst → plus from (unsigned64 imm) ≡ to →
    calls_to inst rd from to ≡ true
calls_from inst rd from to imm is leads =
    ap (λ i. calls_to i rd from to) (sym is)
    ∙ and_from (rd == rd) (plus from (unsigned64 imm) == to) (eq-eqb rd rd refl) (eq-eqb (plus from (unsigned64 imm)) to leads)

falls_on : (a : Action) → is_plain_jump a ≡ false → is_branch a ≡ false → goes_on a ≡ true
falls_on (Branch test wanted rs1 rs2 imm) jump branch = absurd (let never : true ≡ false = branch in cc)
falls_on (Jump rd imm) jump branch = ap not jump
falls_on (JumpTo rd rs1 imm) jump branch = ap not jump
falls_on a jump branch = refl

jump_stops : (a : Action) → is_plain_jump a ≡ true → goes_on a ≡ false
jump_stops (Jump rd imm) is = ap not is
jump_stops (JumpTo rd rs1 imm) is = ap not is
jump_stops a is = absurd (let never : false ≡ true = is in cc)

branch_stops : (a : Action) → is_branch a ≡ true → goes_on a ≡ false
branch_stops (Branch test wanted rs1 rs2 imm) is = refl
branch_stops a is = absurd (let never : false ≡ true = is in cc)

module _ (r : Rewrite) (output : Elf) (table : List Span) (ch : IsChecked r output table) (p : Placed) where
  pub call_some : (rd target : ℕ) (f : Found) (n : ℕ) (b : Bool) → IsInSpan r p f → n ≡ new table target → b ≡ calls_to f.inst rd f.out n →
      IsTrue b ↔ KeepsCall r p rd target
  call_some rd target f n b is at made = (
    (λ yes_it.
        let parts = calls_parts f.inst rd f.out n (sym made ∙ yes_it) in record {
          imm = parts.0;
          has = subst (HasInSpan r p) parts.1 is.has;
          goes_to = ap (λ (q : ℕ). plus q (unsigned64 parts.0)) (sym is.out_is) ∙ parts.2 ∙ at ∙ new_is r output table ch target;
        }),
    λ k. made ∙ calls_from f.inst rd f.out n k.imm (is.only (Jal rd k.imm) k.has)
        (ap (λ (q : ℕ). plus q (unsigned64 k.imm)) is.out_is ∙ k.goes_to ∙ sym (at ∙ new_is r output table ch target)),
  )

  pub call_none : (rd target : ℕ) → ((inst : Inst) → HasInSpan r p inst → ⊥) → IsTrue false ↔ KeepsCall r p rd target
  call_none rd target none = ((λ is. absurd (let never : false ≡ true = is in cc)), λ k. absurd (none (Jal rd k.imm) k.has))

  pub jump_row : (imm : ℤ) (n m t : ℕ) (b : Bool) → n ≡ new table p.addr → t ≡ plus p.addr (unsigned64 imm) → m ≡ new table t →
      IsTrue b ↔ Goes (executable_read output) n m → (rd : ℕ) → rd ≡ 0 → IsTrue b ↔ KeepsAction r (Goes r.output) p (Jump rd imm)
  jump_row imm n m t b from target to test rd is =
      subst (λ (d : ℕ). IsTrue b ↔ KeepsAction r (Goes r.output) p (Jump d imm)) (sym is)
      (subst (λ (q : ℕ). IsTrue b ↔ Goes r.output (out r p.addr) q) (to ∙ ap (new table) target ∙ new_is r output table ch
      (plus p.addr (unsigned64 imm)))
      (subst (λ (q : ℕ). IsTrue b ↔ Goes r.output q m) (from ∙ new_is r output table ch p.addr) (goes_same r output table ch n m b test)))

  pub call_row : (imm : ℤ) (t : ℕ) (b : Bool) → t ≡ plus p.addr (unsigned64 imm) → (rd : ℕ) → (rd ≡ 0 → ⊥) →
      IsTrue b ↔ KeepsCall r p rd t → IsTrue b ↔ KeepsAction r (Goes r.output) p (Jump rd imm)
  call_row imm t b target zero some test = absurd (some refl)
  call_row imm t b target (suc rd) some test = subst (λ (q : ℕ). IsTrue b ↔ KeepsCall r p (suc rd) q) target test

  pub plain_goes : is_plain_jump (action_at p) ≡ true → IsTrue true ↔ GoesOn r (Goes r.output) p
  plain_goes is =
      ((λ _ on. absurd (let never : false ≡ true = sym (jump_stops (action_at p) is) ∙ on in cc)), λ _. refl)

  pub branch_goes : is_branch (action_at p) ≡ true → IsTrue true ↔ GoesOn r (Goes r.output) p
  branch_goes is =
      ((λ _ on. absurd (let never : false ≡ true = sym (branch_stops (action_at p) is) ∙ on in cc)), λ _. refl)

  pub on_goes : (n w : ℕ) (b : Bool) → is_plain_jump (action_at p) ≡ false → is_branch (action_at p) ≡ false → n ≡ new table p.addr →
      w ≡ width_at (executable_read output) n → IsTrue b ↔ GetsToNext r (Goes r.output) p (plus n w) →
      IsTrue b ↔ GoesOn r (Goes r.output) p
  on_goes n w b jump branch at wide test =
      let on = falls_on (action_at p) jump branch in
      let start : n ≡ out r p.addr = at ∙ new_is r output table ch p.addr in
      let end : plus n w ≡ inst_end r p.addr =
      ap (plus n) (wide ∙ ap (λ (y : Executable). width_at y n) (sym ch.output_is)) ∙ ap (λ (q : ℕ). plus q (width_at r.output q)) start in
      let there : IsTrue b ↔ GetsToNext r (Goes r.output) p (inst_end r p.addr) =
      subst (λ (q : ℕ). IsTrue b ↔ GetsToNext r (Goes r.output) p q) end test in
      ((λ yes_it _. there.0 yes_it), λ goes. there.1 (goes on))

-- The instruction after a call in its function is at the end of the call.
use Rattle.std.proofs.Common.{◌≡◌, ℕ, zero, ◌+◌, List, [], ◌∷◌, Option, Some, None, Bool, true, false, refl, sym, ap, ◌∙◌, arith}
use Rattle.std.specs.Prelude.{if◌then◌else◌, ◌==◌, Contains}
use Rattle.std.specs.Option.{option_or}
use Rattle.std.proofs.lemmas.Bool.{eqb-true}
use Rattle.rv_code.specs.declared.placed.Placed.{Placed}
use Rattle.rv_code.specs.declared.placed.Func.{Func}
use Rattle.elf_image.specs.declared.elf.Elf.{Elf}
use Rattle.elf_code.specs.Functions.{AreInsts}
use Rattle.elf_code.specs.Parts.{length_at}
use Rattle.rb_bytes.proofs.Members.{Contains-there}
use Rattle.rv_code.specs.layout.Flow.{next_in, next_of}
use Rattle.move_law.proofs.code.InstLists.{length_of}

next_in_is : (elf : Elf) (start : ℕ) (ps : List Placed) (end x b : ℕ) → AreInsts elf start ps end → next_in ps x ≡ Some b →
    b ≡ x + length_at elf x
next_in_is elf start [] end x b are e = absurd (cc)
next_in_is elf start (p ∷ []) end x b are e = absurd (cc)
next_in_is elf start (p ∷ q ∷ ps) end x b are e =
    by (p.addr == x) refl e (λ k. next_in_is elf (start + p.len) (q ∷ ps) end x b are.3 k)
  where
    by : (t : Bool) → (p.addr == x) ≡ t → (if t then Some q.addr else next_in (q ∷ ps) x) ≡ Some b →
        (next_in (q ∷ ps) x ≡ Some b → b ≡ x + length_at elf x) → b ≡ x + length_at elf x
    by false k h rest = rest h
    by true k h rest =
        let here : p.addr ≡ x = eqb-true p.addr x k in
        let there : q.addr ≡ b = cc in
        let next : q.addr ≡ start + p.len = (are.3).0 in
        let first : p.addr ≡ start = are.0 in
        let len : length_at elf start ≡ p.len = length_of elf start p.inst p.len are.1 in
        let at : start ≡ x = sym first ∙ here in
        sym there ∙ next ∙ ap (λ (n : ℕ). start + n) (sym len) ∙ ap (λ (s : ℕ). s + length_at elf s) at

pub next_of_is : (elf : Elf) (funcs : List Func) →
    ((f : Func) → Contains funcs f → AreInsts elf f.start f.insts.items f.end) → (x b : ℕ) → next_of funcs x ≡ Some b →
    b ≡ x + length_at elf x
next_of_is elf [] are x b e = absurd (cc)
next_of_is elf (f ∷ fs) are x b e =
    by (next_in f.insts.items x) refl e (λ k. next_of_is elf fs (λ g g_in. are g (Contains-there f fs g g_in)) x b k)
  where
    by : (o : Option ℕ) → next_in f.insts.items x ≡ o → option_or o (next_of fs x) ≡ Some b →
        (next_of fs x ≡ Some b → b ≡ x + length_at elf x) → b ≡ x + length_at elf x
    by None k h rest = rest h
    by (Some c) k h rest = next_in_is elf f.start f.insts.items f.end x b (are f (zero, omega arith, refl)) (k ∙ h)

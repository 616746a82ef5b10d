-- The instruction at an address of a function, with its role.
use Rattle.std.proofs.Common.{◌≡◌, ◌≢◌, ◌∙◌, sym, subst, ap, refl, ℕ, ◌<◌, ◌≤◌, inl, inr, ⊎_elim, ◌↔◌, Bool, true, false, IsTrue}
use Rattle.std.proofs.Common.{Some, List, Contains, AllPairs, length, slice_index_or, arith, ℤ}
use Rattle.std.proofs.lemmas.Bool.{cases_lt}
use Rattle.std.proofs.lemmas.List.{get_or_default}
use Rattle.std.proofs.lemmas.Option.{same_Some}
use Rattle.rb_bytes.specs.Fault.{fault_at}
use Rattle.rb_bytes.specs.declared.fault.Fault.{Fault}
use Rattle.rb_bytes.specs.declared.fault.FaultKind.TheVariants.{BareAuipc}
use Rattle.rv_code.specs.declared.inst.Inst.{Inst}
use Rattle.rv_code.specs.declared.inst.Inst.TheVariants.{Auipc}
use Rattle.rv_code.specs.declared.placed.Role.{Role}
use Rattle.rv_code.specs.declared.placed.Role.TheVariants.{Plain}
use Rattle.elf_image.specs.declared.elf.Elf.{Elf}
use Rattle.elf_code.specs.FileCode.{AreRoles}
use Rattle.elf_code.specs.Parts.{IsInstAt, length_at}
use Rattle.elf_code.specs.Roles.{HasRole, HasNoRole}
use Rattle.func_find.specs.ValidInsts.{IsValidBefore}
use Rattle.rv_code.specs.isa.AddressParts.{IsAuipc}
use Rattle.func_find.specs.InstLists.{IsFaultBefore, bare, IsPlacedAt}
use Rattle.func_find.proofs.NoRole.{HasNoRole-none}
use Rattle.func_find.proofs.StartsApart.{length_is}

-- A valid instruction at an address is the only one there.
abbrev pub IsOnlyValid : Elf → ℕ → ℕ → Inst × ℕ → Type 0
IsOnlyValid elf end a found = (inst : Inst) (bytes : ℕ) → IsValidBefore elf end a inst bytes → Some found ≡ Some (inst, bytes)

only_inst : (elf : Elf) (end a : ℕ) (found : Inst × ℕ) → IsValidBefore elf end a found.0 found.1 → IsOnlyValid elf end a found →
    (inst : Inst) (bytes : ℕ) → IsInstAt elf a inst bytes → inst ≡ found.0
only_inst elf end a found valid only inst bytes is =
    let long : bytes ≡ length_at elf a = length_is elf a inst bytes is in
    let long' : found.1 ≡ length_at elf a = length_is elf a found.0 found.1 valid.before.is_inst in
    let same : found.1 ≡ bytes = long' ∙ sym long in
    let inside = valid.before.inside in
    let valid' : IsValidBefore elf end a inst bytes = record {
      before = record { is_inst = is; inside = omega arith };
      even = valid.even;
      allowed = λ two. valid.allowed (same ∙ two);
    } in
    sym (ap (λ (x : Inst × ℕ). x.0) (same_Some found (inst, bytes) (only inst bytes valid')))

pub placed_role : (elf : Elf) (end a : ℕ) (roles : List (ℕ × Role)) (found : Inst × ℕ) (role : Role) → AreRoles elf roles →
    IsValidBefore elf end a found.0 found.1 → IsOnlyValid elf end a found → Contains roles (a, role) →
    IsPlacedAt elf end a (record { addr = a; len = found.1; inst = found.0; role = role })
placed_role elf end a roles found role are valid only listed =
    let has : HasRole elf a role = are.only (a, role) listed in
    record {
      addr = refl;
      valid = valid;
      role = inl has;
      only = only_inst elf end a found valid only;
      not_bare = λ bare. bare.no_role has.relocation has.key role has.claims;
    }

auipc_is : (inst : Inst) → IsAuipc inst → (rd : ℕ) × (imm : ℤ) × (inst ≡ Auipc rd imm)
auipc_is (Auipc rd imm) is = (rd, imm, refl)
auipc_is _ is = absurd is

no_role : (elf : Elf) (a : ℕ) (roles : List (ℕ × Role)) → AreRoles elf roles → ((role : Role) → Contains roles (a, role) → ⊥) →
    HasNoRole elf a
no_role elf a roles are none = HasNoRole-none elf a (λ role has. none role (are.each (a, role) has))

pub placed_plain : (elf : Elf) (end a : ℕ) (roles : List (ℕ × Role)) (found : Inst × ℕ) (auipc : Bool) → AreRoles elf roles →
    IsValidBefore elf end a found.0 found.1 → IsOnlyValid elf end a found → ((role : Role) → Contains roles (a, role) → ⊥) →
    IsTrue auipc ↔ (IsAuipc found.0 × (found.1 ≡ 4)) → auipc ≡ false →
    IsPlacedAt elf end a (record { addr = a; len = found.1; inst = found.0; role = Plain })
placed_plain elf end a roles found auipc are valid only none test isnt = record {
  addr = refl;
  valid = valid;
  role = inr (no_role elf a roles are none, refl);
  only = only_inst elf end a found valid only;
  not_bare = λ bare.
      let same = same_Some found (Auipc bare.rd bare.imm, 4) (only _ 4 bare.auipc) in
      let there : IsAuipc found.0 = subst IsAuipc (sym (ap (λ (x : Inst × ℕ). x.0) same)) tt in
      let is : auipc ≡ true = test.1 (there, ap (λ (x : Inst × ℕ). x.1) same) in
      let no : true ≡ false = sym is ∙ isnt in
      absurd (cc);
}

pub fault_bare : (elf : Elf) (end a : ℕ) (roles : List (ℕ × Role)) (found : Inst × ℕ) (fault : Fault) → AreRoles elf roles →
    IsValidBefore elf end a found.0 found.1 → ((role : Role) → Contains roles (a, role) → ⊥) → IsAuipc found.0 × (found.1 ≡ 4) →
    fault ≡ fault_at BareAuipc a → IsFaultBefore elf end a fault
fault_bare elf end a roles found fault are valid none (auipc, four) fault_is =
    let (rd, imm, is) = auipc_is found.0 auipc in
    bare fault_is (record {
      rd = rd;
      imm = imm;
      auipc = subst (λ (i : Inst). IsValidBefore elf end a i 4) is (subst (IsValidBefore elf end a found.0) four valid);
      no_role = no_role elf a roles are none;
    })

-- Searches for roles.

pub role_absent : (roles : List (ℕ × Role)) (a k : ℕ) (d : ℕ × Role) → AllPairs (λ r s. r.0 < s.0) roles →
    ((j : ℕ) (e : ℕ × Role) → j < k → (slice_index_or roles j e).0 < a) →
    ((j : ℕ) (e : ℕ × Role) → k ≤ j → j < length roles → a ≤ (slice_index_or roles j e).0) →
    (k < length roles → (slice_index_or roles k d).0 ≢ a) → (role : Role) → Contains roles (a, role) → ⊥
role_absent roles a k d up below above isnt role (j, within, there) =
    let at : (slice_index_or roles j (a, role)).0 ≡ a = ap (λ (x : ℕ × Role). x.0) there in
    ⊎_elim
    (λ (early : j < k). let low = below j (a, role) early in omega arith)
    (λ (late : k ≤ j). ⊎_elim
    (λ (after : k < j).
    let order : (slice_index_or roles k (a, role)).0 < (slice_index_or roles j (a, role)).0 = up k j (a, role) after within in
    let high = above k (a, role) (omega arith) (omega arith) in
    omega arith)
    (λ (not_after : j ≤ k).
    let e : j ≡ k = omega arith in
    isnt (omega arith)
    (ap (λ (x : ℕ × Role). x.0)
    (get_or_default roles k d (a, role) (omega arith) ∙ sym (ap (λ (i : ℕ). slice_index_or roles i (a, role)) e)) ∙ at))
    (cases_lt k j))
    (cases_lt j k)

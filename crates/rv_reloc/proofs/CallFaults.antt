-- Calls, from their two instructions and from a relocation.
use Rattle.std.proofs.Common.{◌≡◌, ◌≢◌, ◌∙◌, sym, subst, ap, refl, ℕ, ◌+◌, ◌-◌, ◌<◌, ◌≤◌, inl, inr, ⊎_elim, ◌↔◌, Bool, true}
use Rattle.std.proofs.Common.{false, not, IsTrue, List, slice_index_or, Option, Some, None, IfSome, arith}
use Rattle.std.specs.List.{Contains}
use Rattle.std.proofs.lemmas.Bool.{cases_eq, cases_lt}
use Rattle.std.proofs.lemmas.List.{get_or_default}
use Rattle.rv_code.specs.declared.inst.Inst.TheVariants.{Auipc, Jalr}
use Rattle.elf_image.specs.declared.elf.Elf.{Elf}
use Rattle.elf_code.specs.Parts.{HasInst, IsStartIn}
use Rattle.elf_code.specs.Relocations.{Relocation, relocations, is_call_pair}
use Rattle.elf_code.specs.Roles.{IsFullAt, CallPair, pair_target}
use Rattle.elf_code.specs.ReferenceFaults.{IsAddress, IsBadCall}
use Rattle.rv_reloc.specs.declared.calls.CallInsts.{CallInsts}
use Rattle.rv_reloc.specs.declared.instructions.Jump.{Jump}
use Rattle.rv_reloc.specs.declared.instructions.Upper.{Upper}
use Rattle.code_starts.specs.declared.parts.Part.{Part}
use Rattle.rv_reloc.specs.Calls.{IsCallAt, IsJumpAfter, FitsCall}
use Rattle.code_starts.specs.Parts.{ArePartsApart, AreCodeParts, HoldsAddress}
use Rattle.code_starts.proofs.FullLookup.{start_held}
use Rattle.code_starts.proofs.PartLookup.{AreApart-parts}

abbrev pub call_of : {elf : Elf} {r : Relocation} → CallPair elf r → CallInsts
call_of pair = record { auipc = record { rd = pair.rd; imm = pair.upper }; jalr = record { base = pair.base; imm = pair.lower } }

pub pair_call : (elf : Elf) (r : Relocation) (pair : CallPair elf r) → IsCallAt elf r.place (call_of pair)
pair_call elf r pair = record { start = pair.start; end = pair.end; auipc = pair.auipc; link = pair.link; jalr = pair.jalr }

abbrev pub call_pair : (elf : Elf) (r : Relocation) (c : CallInsts) → Contains (relocations elf) r →
    IsTrue (is_call_pair r.kind) →
    IsCallAt elf r.place c → CallPair elf r
call_pair elf r c counts is_call is = record {
  counts = counts;
  is_call = is_call;
  start = is.start;
  end = is.end;
  rd = c.auipc.rd;
  upper = c.auipc.imm;
  auipc = is.auipc;
  link = is.link;
  base = c.jalr.base;
  lower = c.jalr.imm;
  jalr = is.jalr;
}

-- A call that doesn't fit.

pub bad-none : (elf : Elf) (r : Relocation) → IsTrue (is_call_pair r.kind) →
    ((c : CallInsts) → IsCallAt elf r.place c → ⊥) → IsBadCall elf r
bad-none elf r is_call none = IsBadCall.pair is_call (λ (pair, which). none (call_of pair) (pair_call elf r pair))

pub unfit-bad : (elf : Elf) (r : Relocation) (c : CallInsts) → Contains (relocations elf) r → IsTrue (is_call_pair r.kind) →
    IsCallAt elf r.place c → ((d : CallInsts) → IsCallAt elf r.place d → c ≡ d) → (FitsCall r.place c → ⊥) → IsBadCall elf r
unfit-bad elf r c counts is_call is only unfit =
    ⊎_elim
    (λ (zero : c.jalr.base ≡ 0). IsBadCall.pair is_call (λ (pair, which).
    let e : c ≡ call_of pair = only (call_of pair) (pair_call elf r pair) in
    unfit (subst (FitsCall r.place) (sym e) (⊎_elim
    (λ (same, some). absurd (some (sym (ap (λ (d : CallInsts). d.jalr.base) e) ∙ zero)))
    (λ weak. inr weak)
    which))))
    (λ (some : c.jalr.base ≢ 0). ⊎_elim
    (λ (same : c.jalr.base ≡ c.auipc.rd). IsBadCall.address (pair_target r.place c.auipc.imm c.jalr.imm)
    (record { pair = call_pair elf r c counts is_call is; through = same; not_zero = some; target_is = refl })
    (λ address. unfit (inl ((same, some), address))))
    (λ (differ : c.jalr.base ≢ c.auipc.rd). IsBadCall.pair is_call (λ (pair, which).
    let e : c ≡ call_of pair = only (call_of pair) (pair_call elf r pair) in
    let base : c.jalr.base ≡ pair.base = ap (λ (d : CallInsts). d.jalr.base) e in
    let rd : c.auipc.rd ≡ pair.rd = ap (λ (d : CallInsts). d.auipc.rd) e in
    ⊎_elim (λ (same, _). differ (base ∙ same ∙ sym rd)) (λ weak. some (base ∙ weak.0)) which))
    (cases_eq c.jalr.base c.auipc.rd))
    (cases_eq c.jalr.base 0)

bad-unfit : (elf : Elf) (r : Relocation) (c : CallInsts) → Contains (relocations elf) r → IsTrue (is_call_pair r.kind) →
    IsCallAt elf r.place c → ((d : CallInsts) → IsCallAt elf r.place d → c ≡ d) → IsBadCall elf r → FitsCall r.place c → ⊥
bad-unfit elf r c counts is_call is only (IsBadCall.pair _ refuted) fits =
    refuted (call_pair elf r c counts is_call is, ⊎_elim (λ (through, address). inl through) (λ weak. inr weak) fits)
bad-unfit elf r c counts is_call is only (IsBadCall.address target to refuted) fits =
    let e : c ≡ call_of to.pair = only (call_of to.pair) (pair_call elf r to.pair) in
    let fits' = subst (FitsCall r.place) e fits in
    ⊎_elim (λ (through, address). refuted (subst IsAddress (sym to.target_is) address)) (λ weak. to.not_zero weak.0) fits'

pub bad-some : (elf : Elf) (r : Relocation) (c : CallInsts) (fits : Bool) → Contains (relocations elf) r →
    IsTrue (is_call_pair r.kind) →
    IsCallAt elf r.place c → ((d : CallInsts) → IsCallAt elf r.place d → c ≡ d) → IsTrue fits ↔ FitsCall r.place c →
    IsTrue (not fits) ↔ IsBadCall elf r
bad-some elf r c true counts is_call is only tells = (
  λ refuted. let e : false ≡ true = refuted in absurd (cc),
  λ bad. absurd (bad-unfit elf r c counts is_call is only bad (tells.0 refl)),
)
bad-some elf r c false counts is_call is only tells = (
  λ _. unfit-bad elf r c counts is_call is only (λ fits. let e : false ≡ true = tells.1 fits in cc),
  λ bad. refl,
)

pub bad-is_call : (elf : Elf) (r : Relocation) → IsBadCall elf r → IsTrue (is_call_pair r.kind)
bad-is_call elf r (IsBadCall.pair is refuted) = is
bad-is_call elf r (IsBadCall.address target to refuted) = to.pair.is_call

-- The JALR after an instruction, in the same part.

-- An address is in at most one part.
pub held_once : (parts : List Part) (a : ℕ) (p q : Part) → ArePartsApart parts → HoldsAddress parts a p →
    HoldsAddress parts a q → p ≡ q
held_once parts a p q apart p_holds q_holds =
    let (k, k_within, k_is) = p_holds.listed in
    let (j, j_within, j_is) = q_holds.listed in
    let q_is : slice_index_or parts j p ≡ q = get_or_default parts j p q j_within ∙ j_is in
    let p_above = p_holds.above in
    let p_below = p_holds.below in
    let q_above = q_holds.above in
    let q_below = q_holds.below in
    let p_start = ap (λ (x : Part). x.start) k_is in
    let p_end = ap (λ (x : Part). x.end) k_is in
    let q_start = ap (λ (x : Part). x.start) q_is in
    let q_end = ap (λ (x : Part). x.end) q_is in
    ⊎_elim
    (λ (less : k < j). let o : (slice_index_or parts k p).end ≤ (slice_index_or parts j p).start =
    apart.ordered k j p less j_within in
    absurd (omega arith))
    (λ (more : j ≤ k). ⊎_elim
    (λ (above : j < k). let o : (slice_index_or parts j p).end ≤ (slice_index_or parts k p).start =
    apart.ordered j k p above k_within in
    absurd (omega arith))
    (λ (upto : k ≤ j). let e : k ≡ j = omega arith in sym k_is ∙ ap (λ (i : ℕ). slice_index_or parts i p) e ∙ q_is)
    (cases_lt j k))
    (cases_lt k j)

part_of : (elf : Elf) (parts : List Part) (start end a : ℕ) (part : Part) → AreCodeParts elf parts → HoldsAddress parts a part →
    IsStartIn elf start end a → (record { start = start; end = end }) ≡ part
part_of elf parts start end a part are holds here =
    held_once parts a (record { start = start; end = end }) part (AreApart-parts elf parts are)
    (start_held elf parts a are (record { start = start; end = end; is_start = here })) holds

pub jump_there : (elf : Elf) (parts : List Part) (a : ℕ) (part : Part) (o : Option Jump) → AreCodeParts elf parts →
    HoldsAddress parts a part → a + 4 < part.end → IfSome o (λ j. (link : ℕ) × IsFullAt elf (a + 4) (Jalr link j.base j.imm)) →
    IfSome o (λ j. (start end : ℕ) → IsStartIn elf start end a → IsJumpAfter elf start end a j)
jump_there elf parts a part None are holds inside is = is
jump_there elf parts a part (Some j) are holds inside (link, full) = λ start end here.
    let above = holds.above in
    let here_is = part_of elf parts start end a part are holds here in
    let next_is =
    part_of elf parts full.start full.end (a + 4) part are
    (record { listed = holds.listed; above = omega arith; below = inside }) full.has.starts in
    record {
      link = link;
      jalr = subst (λ (p : Part). HasInst elf p.start p.end (a + 4) (Jalr link j.base j.imm) 4) (next_is ∙ sym here_is) full.has;
    }

pub jump_full : (elf : Elf) (start end a : ℕ) (j : Jump) → (after : IsJumpAfter elf start end a j) →
    IsFullAt elf (a + 4) (Jalr after.link j.base j.imm)
jump_full elf start end a j after = record { start = start; end = end; has = after.jalr }

-- A part without room for the JALR.
pub jump_past : (elf : Elf) (parts : List Part) (start end a : ℕ) (j : Jump) (part : Part) → AreCodeParts elf parts →
    HoldsAddress parts a part → part.end - a ≤ 4 → IsStartIn elf start end a → IsJumpAfter elf start end a j → ⊥
jump_past elf parts start end a j part are holds short here after =
    let same = ap (λ (p : Part). p.end) (part_of elf parts start end a part are holds here) in
    let inside = after.jalr.inside in
    omega arith

pub jump_held : (elf : Elf) (parts : List Part) (start end a : ℕ) → AreCodeParts elf parts → IsStartIn elf start end a →
    HoldsAddress parts a (record { start = start; end = end })
jump_held elf parts start end a are here = start_held elf parts a are (record { start = start; end = end; is_start = here })

-- Both instructions.

pub call_there : (elf : Elf) (a : ℕ) (u : Upper) (j : Jump) → IsFullAt elf a (Auipc u.rd u.imm) →
    ((start end : ℕ) → IsStartIn elf start end a → IsJumpAfter elf start end a j) →
    IsCallAt elf a (record { auipc = u; jalr = j })
call_there elf a u j full after =
    let next = after full.start full.end full.has.starts in
    record { start = full.start; end = full.end; auipc = full.has; link = next.link; jalr = next.jalr }

pub call_full : (elf : Elf) (a : ℕ) (c : CallInsts) → (is : IsCallAt elf a c) → IsFullAt elf a (Auipc c.auipc.rd c.auipc.imm)
call_full elf a c is = record { start = is.start; end = is.end; has = is.auipc }

pub call_after : (elf : Elf) (a : ℕ) (c : CallInsts) → (is : IsCallAt elf a c) → IsJumpAfter elf is.start is.end a c.jalr
call_after elf a c is = record { link = is.link; jalr = is.jalr }

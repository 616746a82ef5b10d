-- Fields of relocations, and roles, don't depend on the reading.
use Rattle.std.proofs.Common.{◌≡◌, ◌∙◌, sym, ap, subst, refl, ℕ, zero, suc, ◌+◌, ◌-◌, ◌≤◌, inl, inr, List, Option, Some, None, arith}
use Rattle.std.specs.Prelude.{Contains, ℤ, pos, ◌+ℤ◌, option_map, length, IsSomeAnd, ◌%◌, ◌^◌, ◌-ℤ◌}
use Rattle.std.specs.Int.{int_rem_euclid}
use Rattle.std.proofs.lemmas.Grind.{common_steps}
use Rattle.rv_code.specs.declared.inst.Inst.{Inst}
use Rattle.rv_code.specs.declared.placed.Role.{Role}
use Rattle.elf_image.specs.declared.elf.Elf.{Elf}
use Rattle.elf_image.specs.declared.section.Section.{Section}
use Rattle.elf_image.specs.memory.LoadedBytes.{byte_at}
use Rattle.elf_code.specs.LoadedNumbers.{loaded_number}
use Rattle.rv_code.specs.machine.MemoryNumbers.{number_in}
use Rattle.elf_code.specs.Relocations.{Relocation, relocations, label, Width, Bits, Uleb128, plus_width, minus_width}
use Rattle.elf_code.specs.Fields.{leb_from, leb_at, leb_field, bytes_of_bits, width_size, size_by, field_size, HasField}
use Rattle.elf_code.specs.Fields.{HoldBits, HoldsDifference}
use Rattle.elf_code.specs.Roles.{IsFullAt, CallPair, CallTo, PcrelLo, PcrelHiTo, PcrelLoTo, AbsoluteTo, Claims, call_hi}
use Rattle.elf_code.specs.Roles.{call_lo, weak_call, hi, lo, abs_hi, abs_lo, HasRole, HasNoRole, RoleIs}
use Rattle.elf_readings.proofs.Alike.{Alike, back, memory}
use Rattle.elf_readings.proofs.Relocations.{with_section, Twin, twin, symbol_alike}
use Rattle.elf_readings.proofs.Parts.{byte_of, has_inst_of, start_of}

pub label_alike : (e e' : Elf) → Alike e e' → (r : Relocation) → label e r ≡ label e' r
label_alike e e' a r = ap (λ (n : ℕ). pos n +ℤ r.addend) (symbol_alike e e' a r)

pub number_alike : (e e' : Elf) → Alike e e' → (at n : ℕ) → loaded_number e at n ≡ loaded_number e' at n
number_alike e e' a at n = ap (λ (m : ℕ → Option ℕ). number_in m at n) (memory e e' a)

-- Fields.

leb_alike : (e e' : Elf) → Alike e e' → (at n : ℕ) → leb_at e at n ≡ leb_at e' at n
unfolding leb_at
leb_alike e e' a at zero = refl
leb_alike e e' a at (suc n) = grind (arith, common_steps, byte_of, leb_alike e e' a (at + 1) n)

leb_field_alike : (e e' : Elf) → Alike e e' → (r : Relocation) (s : Section) → Twin e e' r s →
    leb_field e r ≡ leb_field e' (with_section r s)
leb_field_alike e e' a r s t = grind (arith, common_steps, leb_alike)

width_alike : (e e' : Elf) → Alike e e' → (r : Relocation) (s : Section) → Twin e e' r s → (w : Width) →
    width_size e r w ≡ width_size e' (with_section r s) w
width_alike e e' a r s t (Bits n) = refl
width_alike e e' a r s t Uleb128 = ap (option_map length) (leb_field_alike e e' a r s t)

by_alike : (e e' : Elf) → Alike e e' → (r : Relocation) (s : Section) → Twin e e' r s → (plus minus : Option Width) →
    size_by e r plus minus ≡ size_by e' (with_section r s) plus minus
by_alike e e' a r s t (Some w) minus = width_alike e e' a r s t w
by_alike e e' a r s t None (Some w) = width_alike e e' a r s t w
by_alike e e' a r s t None None = refl

size_alike : (e e' : Elf) → Alike e e' → (r : Relocation) (s : Section) → Twin e e' r s →
    field_size e r ≡ field_size e' (with_section r s)
size_alike e e' a r s t = by_alike e e' a r s t (plus_width r.kind) (minus_width r.kind)

abbrev lies_in : Relocation → Option ℕ → Section → Type 0
lies_in r o q = IsSomeAnd o (λ size. (q.addr ≤ r.place) × (r.place + size ≤ q.addr + q.size))

pub field_of : (e e' : Elf) → Alike e e' → (r : Relocation) (s : Section) → Twin e e' r s → HasField e r →
    HasField e' (with_section r s)
field_of e e' a r s t (inl ignored) = inl ignored
field_of e e' a r s t (inr lies) =
    inr (subst (λ (q : Section). lies_in r (field_size e' (with_section r s)) q) t.same
    (subst (λ (o : Option ℕ). lies_in r o r.section) (size_alike e e' a r s t) lies))

pub holds_of : (e e' : Elf) → Alike e e' → (r : Relocation) (s : Section) → Twin e e' r s → (w : Width) (to from : ℤ) →
    HoldsDifference e r w to from → HoldsDifference e' (with_section r s) w to from
holds_of e e' a r s t (Bits n) to from is = grind (arith, common_steps, number_alike)
holds_of e e' a r s t Uleb128 to from is =
    subst (λ (o : Option (List ℕ)). IsSomeAnd o (λ bs. HoldBits bs (to -ℤ from))) (leb_field_alike e e' a r s t) is

-- Roles.

pub full_of : (e e' : Elf) → Alike e e' → (at : ℕ) (i : Inst) → IsFullAt e at i → IsFullAt e' at i
full_of e e' a at i f = record { start = f.start; end = f.end; has = has_inst_of e e' a f.start f.end at i 4 f.has }

abbrev pub pair_of : (e e' : Elf) → Alike e e' → (r : Relocation) (s : Section) → Twin e e' r s → CallPair e r →
    CallPair e' (with_section r s)
pair_of e e' a r s t p = record {
  counts = t.there;
  is_call = p.is_call;
  start = p.start;
  end = p.end;
  rd = p.rd;
  upper = p.upper;
  auipc = has_inst_of e e' a p.start p.end r.place _ 4 p.auipc;
  link = p.link;
  base = p.base;
  lower = p.lower;
  jalr = has_inst_of e e' a p.start p.end (r.place + 4) _ 4 p.jalr;
}

pub call_of : (e e' : Elf) → Alike e e' → (r : Relocation) (s : Section) → Twin e e' r s → (target : ℤ) → CallTo e r target →
    CallTo e' (with_section r s) target
call_of e e' a r s t target c = record {
  pair = pair_of e e' a r s t c.pair;
  through = c.through;
  not_zero = c.not_zero;
  target_is = c.target_is;
}

pub low_of : (e e' : Elf) → Alike e e' → (r : Relocation) (s : Section) → Twin e e' r s → (at : ℕ) (imm : ℤ) →
    PcrelLo e r at imm → PcrelLo e' (with_section r s) at imm
low_of e e' a r s t at imm l = record {
  counts = t.there;
  is_low = l.is_low;
  names = sym (symbol_alike e e' a r) ∙ l.names;
  inst = l.inst;
  there = full_of e e' a r.place l.inst l.there;
  immediate = l.immediate;
}

pub hi_of : (e e' : Elf) → Alike e e' → (r : Relocation) (s : Section) → Twin e e' r s → (target : ℤ) → PcrelHiTo e r target →
    PcrelHiTo e' (with_section r s) target
hi_of e e' a r s t target h =
    let (q, u) = twin e e' a h.low h.part.counts in
    record {
      counts = t.there;
      is_hi = h.is_hi;
      rd = h.rd;
      upper = h.upper;
      auipc = full_of e e' a r.place _ h.auipc;
      low = with_section h.low q;
      lower = h.lower;
      part = low_of e e' a h.low q u r.place h.lower h.part;
      target_is = h.target_is;
    }

pub low_to_of : (e e' : Elf) → Alike e e' → (r : Relocation) (s : Section) → Twin e e' r s → (at : ℕ) (target : ℤ) →
    PcrelLoTo e r at target → PcrelLoTo e' (with_section r s) at target
low_to_of e e' a r s t at target l = record {
  lower = l.lower;
  part = low_of e e' a r s t at l.lower l.part;
  rd = l.rd;
  upper = l.upper;
  auipc = full_of e e' a at _ l.auipc;
  target_is = l.target_is;
}

pub absolute_of : (e e' : Elf) → Alike e e' → (r : Relocation) (s : Section) → Twin e e' r s → (target : ℕ) →
    AbsoluteTo e r target → AbsoluteTo e' (with_section r s) target
absolute_of e e' a r s t target h = record {
  counts = t.there;
  target_is = sym (label_alike e e' a r) ∙ h.target_is;
  is_code = start_of e e' a target h.is_code;
}

pub claims_of : (e e' : Elf) → Alike e e' → (r : Relocation) (s : Section) → Twin e e' r s → (at key : ℕ) (role : Role) →
    Claims e r at key role → Claims e' (with_section r s) at key role
claims_of e e' a r s t at key role (call_hi target c place k is) = call_hi target (call_of e e' a r s t _ c) place k is
claims_of e e' a r s t at key role (call_lo target c place k is) = call_lo target (call_of e e' a r s t _ c) place k is
claims_of e e' a r s t at key role (weak_call pair none place k is) = weak_call (pair_of e e' a r s t pair) none place k is
claims_of e e' a r s t at key role (hi target h place k is) = hi target (hi_of e e' a r s t _ h) place k is
claims_of e e' a r s t at key role (lo from target l place k is) = lo from target (low_to_of e e' a r s t from _ l) place k is
claims_of e e' a r s t at key role (abs_hi target h kind rd imm full place k is) =
    abs_hi target (absolute_of e e' a r s t target h) kind rd imm (full_of e e' a r.place _ full) place k is
claims_of e e' a r s t at key role (abs_lo target h kind inst full can place k is) =
    abs_lo target (absolute_of e e' a r s t target h) kind inst (full_of e e' a r.place inst full) can place k is

claims_counts : (e : Elf) (r : Relocation) (at key : ℕ) (role : Role) → Claims e r at key role → Contains (relocations e) r
claims_counts e r at key role (call_hi target c place k is) = c.pair.counts
claims_counts e r at key role (call_lo target c place k is) = c.pair.counts
claims_counts e r at key role (weak_call pair none place k is) = pair.counts
claims_counts e r at key role (hi target h place k is) = h.counts
claims_counts e r at key role (lo from target l place k is) = l.part.counts
claims_counts e r at key role (abs_hi target h kind rd imm full place k is) = h.counts
claims_counts e r at key role (abs_lo target h kind inst full can place k is) = h.counts

-- A claim of a relocation in the other reading is one of a relocation in this reading.
record Claimed (e : Elf) (r : Relocation) (at key : ℕ) (role : Role) : Type 0 where
  section : Section
  claims : Claims e (with_section r section) at key role

claimed : (e e' : Elf) → Alike e e' → (r : Relocation) (at key : ℕ) (role : Role) →
    Claims e' r at key role → Claimed e r at key role
claimed e e' a r at key role c =
    let (q, u) = twin e' e (back e e' a) r (claims_counts e' r at key role c) in
    record { section = q; claims = claims_of e' e (back e e' a) r q u at key role c }

pub role_of : (e e' : Elf) → Alike e e' → (at : ℕ) (role : Role) → HasRole e at role → HasRole e' at role
role_of e e' a at role h =
    let (s, t) = twin e e' a h.relocation (claims_counts e h.relocation at h.key role h.claims) in
    record {
      relocation = with_section h.relocation s;
      key = h.key;
      claims = claims_of e e' a h.relocation s t at h.key role h.claims;
      first = λ r key' role' c. let other = claimed e e' a r at key' role' c in
          h.first (with_section r other.section) key' role' other.claims;
    }

pub no_role_of : (e e' : Elf) → Alike e e' → (at : ℕ) → HasNoRole e at → HasNoRole e' at
no_role_of e e' a at none = λ r key role c. let other = claimed e e' a r at key role c in
    none (with_section r other.section) key role other.claims

pub role_is_of : (e e' : Elf) → Alike e e' → (at : ℕ) (role : Role) → RoleIs e at role → RoleIs e' at role
role_is_of e e' a at role (inl has) = inl (role_of e e' a at role has)
role_is_of e e' a at role (inr (none, plain)) = inr (no_role_of e e' a at none, plain)

-- Statements on a relocation hold for each section that it applies to, except whether its field is in the section.
use Rattle.std.proofs.Common.{sym, subst, ℕ, ℤ, List}
use Rattle.std.specs.List.{Contains}
use Rattle.rv_code.specs.declared.placed.Role.{Role}
use Rattle.elf_image.specs.declared.elf.Elf.{Elf}
use Rattle.elf_image.specs.declared.section.Section.{Section}
use Rattle.elf_code.specs.Cells.{IsDifference, of_labels, of_place, Field}
use Rattle.elf_code.specs.Fields.{HoldsDifference}
use Rattle.elf_code.specs.ReferenceFaults.{IsBadCall, IsBadUpper, IsBadLower, IsBadAbsolute, IsBadDifference, IsCall, HasAbsolute, IsNarrow}
use Rattle.elf_code.specs.Relocations.{Relocation, relocations, Width, Bits}
use Rattle.elf_code.specs.Roles.{CallPair, CallTo, PcrelLo, PcrelHiTo, PcrelLoTo, AbsoluteTo, Claims}
use Rattle.rv_reloc.specs.declared.slots.SlotLabel.{SlotLabel}
use Rattle.rv_reloc.specs.Candidates as found
use Rattle.rv_reloc.specs.Candidates.{IsFieldOf}
use Rattle.rv_reloc.specs.Pairs.{MakesNoAddress}
use Rattle.rv_reloc.specs.Slots.{IsSlotLabelOf}
use Rattle.rv_reloc.specs.Thinned.{for_section}
use Rattle.rv_reloc.proofs.Only.{only-alone}

module _ (elf : Elf) (s : Section) (r : Relocation) (counts : Contains (relocations elf) (for_section s r)) where
  abbrev call_pair : CallPair elf r → CallPair elf (for_section s r)
  call_pair p = record {
    counts = counts;
    is_call = p.is_call;
    start = p.start;
    end = p.end;
    rd = p.rd;
    upper = p.upper;
    auipc = p.auipc;
    link = p.link;
    base = p.base;
    lower = p.lower;
    jalr = p.jalr;
  }

  abbrev call_to : (target : ℤ) → CallTo elf r target → CallTo elf (for_section s r) target
  call_to target to =
      record { pair = call_pair to.pair; through = to.through; not_zero = to.not_zero; target_is = to.target_is }

  abbrev pcrel_lo : (hi : ℕ) (imm : ℤ) → PcrelLo elf r hi imm → PcrelLo elf (for_section s r) hi imm
  pcrel_lo hi imm p = record {
    counts = counts;
    is_low = p.is_low;
    names = p.names;
    inst = p.inst;
    there = p.there;
    immediate = p.immediate;
  }

  abbrev pcrel_hi : (target : ℤ) → PcrelHiTo elf r target → PcrelHiTo elf (for_section s r) target
  pcrel_hi target p = record {
    counts = counts;
    is_hi = p.is_hi;
    rd = p.rd;
    upper = p.upper;
    auipc = p.auipc;
    low = p.low;
    lower = p.lower;
    part = p.part;
    target_is = p.target_is;
  }

  abbrev pcrel_lo_to : (hi : ℕ) (target : ℤ) → PcrelLoTo elf r hi target → PcrelLoTo elf (for_section s r) hi target
  pcrel_lo_to hi target p = record {
    lower = p.lower;
    part = pcrel_lo hi p.lower p.part;
    rd = p.rd;
    upper = p.upper;
    auipc = p.auipc;
    target_is = p.target_is;
  }

  abbrev absolute_to : (target : ℕ) → AbsoluteTo elf r target → AbsoluteTo elf (for_section s r) target
  absolute_to target p = record { counts = counts; target_is = p.target_is; is_code = p.is_code }

  pub claims-for : (a key : ℕ) (role : Role) → Claims elf r a key role → Claims elf (for_section s r) a key role
  claims-for a key role (Claims.call_hi target to here key_is role_is) =
      Claims.call_hi target (call_to _ to) here key_is role_is
  claims-for a key role (Claims.call_lo target to here key_is role_is) =
      Claims.call_lo target (call_to _ to) here key_is role_is
  claims-for a key role (Claims.weak_call pair none here key_is role_is) =
      Claims.weak_call (call_pair pair) none here key_is role_is
  claims-for a key role (Claims.hi target to here key_is role_is) = Claims.hi target (pcrel_hi _ to) here key_is role_is
  claims-for a key role (Claims.lo at target to here key_is role_is) =
      Claims.lo at target (pcrel_lo_to at _ to) here key_is role_is
  claims-for a key role (Claims.abs_hi target to kind rd imm full here key_is role_is) =
      Claims.abs_hi target (absolute_to target to) kind rd imm full here key_is role_is
  claims-for a key role (Claims.abs_lo target to kind inst full some here key_is role_is) =
      Claims.abs_lo target (absolute_to target to) kind inst full some here key_is role_is

  pub far-for : MakesNoAddress elf r → MakesNoAddress elf (for_section s r)
  far-for far = record { number = far.number; makes = pcrel_hi far.number far.makes; unfit = far.unfit }

  pub difference-for : (width : Width) (to from : ℤ) → IsDifference elf r width to from →
      IsDifference elf (for_section s r) width to from
  difference-for width to from (of_labels only minus other to_is from_is) =
      subst (λ (q : Relocation). IsDifference elf q width to from) (only-alone only counts only.passes)
      (of_labels only minus other to_is from_is)
  difference-for width to from (of_place counted kind width_is to_is from_is) = of_place counts kind width_is to_is from_is

  pub narrow-for : (tabled : List (ℕ × ℕ)) → IsNarrow elf tabled r → IsNarrow elf tabled (for_section s r)
  narrow-for tabled n = record {
    width = n.width;
    to = n.to;
    from = n.from;
    difference = difference-for n.width n.to n.from n.difference;
    no_cell = n.no_cell;
    has_code = n.has_code;
    across = n.across;
  }

  pub field-for : (tabled : List (ℕ × ℕ)) (f : Field) → IsFieldOf elf tabled r f → IsFieldOf elf tabled (for_section s r) f
  field-for tabled f (found.pointer address code) = found.pointer address code
  field-for tabled f (found.difference d) = found.difference (record {
    bits = d.bits;
    to = d.to;
    from = d.from;
    is = difference-for (Bits d.bits) d.to d.from d.is;
    can_be = d.can_be;
    has_code = d.has_code;
    across = d.across;
    place_is = d.place_is;
    width_is = d.width_is;
    content_is = d.content_is;
    free = d.free;
  })

  pub label-for : (l : SlotLabel) → IsSlotLabelOf elf r l → IsSlotLabelOf elf (for_section s r) l
  label-for l is = record { is_slot = is.is_slot; place_is = is.place_is; label_is = is.label_is }

-- Relocations that don't fit.
module _ (elf : Elf) (s : Section) (r : Relocation) (counted : Contains (relocations elf) r)
    (counts : Contains (relocations elf) (for_section s r)) where
  -- What holds for the relocation with the other section holds for this one.
  back_call : IsCall elf (for_section s r) → IsCall elf r
  back_call (pair, is) = (call_pair elf r.section (for_section s r) counted pair, is)

  pub call-for : IsBadCall elf r → IsBadCall elf (for_section s r)
  call-for (IsBadCall.pair kind none) = IsBadCall.pair kind (λ is. none (back_call is))
  call-for (IsBadCall.address target to unfit) = IsBadCall.address target (call_to elf s r counts target to) unfit

  pub upper-for : IsBadUpper elf r → IsBadUpper elf (for_section s r)
  upper-for (IsBadUpper.no_auipc kind none) = IsBadUpper.no_auipc kind none
  upper-for (IsBadUpper.alone kind none) = IsBadUpper.alone kind none

  pub lower-for : IsBadLower elf r → IsBadLower elf (for_section s r)
  lower-for (IsBadLower.no_lower kind none) = IsBadLower.no_lower kind none
  lower-for (IsBadLower.no_upper kind none) = IsBadLower.no_upper kind none

  back_absolute : (target : ℕ) → HasAbsolute elf (for_section s r) target → HasAbsolute elf r target
  back_absolute target (HasAbsolute.upper kind rd full) = HasAbsolute.upper kind rd full
  back_absolute target (HasAbsolute.lower kind inst full is) = HasAbsolute.lower kind inst full is

  pub absolute-for : IsBadAbsolute elf r → IsBadAbsolute elf (for_section s r)
  absolute-for bad = record {
    target = bad.target;
    part = absolute_to elf s r counts bad.target bad.part;
    absolute = bad.absolute;
    unfit = λ is. bad.unfit (back_absolute bad.target is);
  }

  pub bad_difference-for : IsBadDifference elf r → IsBadDifference elf (for_section s r)
  bad_difference-for (IsBadDifference.number width to from (of_labels only minus other to_is from_is) differs) =
      subst (IsBadDifference elf) (only-alone only counts only.passes)
      (IsBadDifference.number width to from (of_labels only minus other to_is from_is) differs)
  bad_difference-for (IsBadDifference.number width to from (of_place listed kind width_is to_is from_is) differs) =
      IsBadDifference.number width to from (of_place counts kind width_is to_is from_is)
      (λ holds. differs (subst (λ (w : Width). HoldsDifference elf r w to from) (sym width_is)
      (subst (λ (w : Width). HoldsDifference elf (for_section s r) w to from) width_is holds)))
  bad_difference-for (IsBadDifference.unpaired width kind code alone) = IsBadDifference.unpaired width kind code alone

-- GOT entries that don't have their labels, by lower parts and by relocations.
use Rattle.std.proofs.Common.{◌≡◌, ◌∙◌, sym, subst, refl, ℕ, ℤ, pos, ◌↔◌, IsTrue, IsSomeAnd, List, Option, Some, None}
use Rattle.elf_image.specs.declared.elf.Elf.{Elf}
use Rattle.elf_image.specs.declared.relocation.TheConstants.{R_RISCV_GOT_HI20}
use Rattle.elf_code.specs.Relocations.{label, is_pcrel_hi, HasRelocation}
use Rattle.elf_image.specs.faults.LowestPlace.{IsLowest}
use Rattle.elf_code.specs.ReferenceFaults.{IsAddress}
use Rattle.elf_code.specs.LoadedNumbers.{loaded_number}
use Rattle.elf_image.proofs.LowestPlaces.{IsLowest-same}
use Rattle.rv_reloc.specs.declared.lows.Low.{Low}
use Rattle.rv_reloc.specs.declared.slots.SlotLabel.{SlotLabel}
use Rattle.rv_reloc.specs.BadEntries.{MissesLabel, NamesBadEntry, HasBadEntry}
use Rattle.rv_reloc.specs.Lows.{AreLows}
use Rattle.rv_reloc.specs.Pairs.{IsTargetOf}
use Rattle.rv_reloc.specs.Places.{IsPlaceOf}
use Rattle.rv_reloc.specs.Slots.{AreSlotLabels, HasLabelAt, HasOtherLabel}
use Rattle.rv_reloc.proofs.PairTargets.{low_of_upper, upper_low, upper_target, target_upper}

-- Searches among the labels.

pub misses-number : (elf : Elf) (labels : List SlotLabel) (hi entry number : ℕ) → AreSlotLabels elf labels →
    loaded_number elf entry 8 ≡ Some number → HasOtherLabel labels hi number ↔ MissesLabel elf hi entry
misses-number elf labels hi entry number are there = (
  λ other. record {
    wanted = other.found;
    is = (are.all other.found).0 other.listed;
    place_is = other.place_is;
    unfit = λ holds. other.differs (subst (λ (o : Option ℕ). IsSomeAnd o (λ v. other.found.label ≡ pos v)) there holds);
  },
  λ misses. record {
    found = misses.wanted;
    listed = (are.all misses.wanted).1 misses.is;
    place_is = misses.place_is;
    differs = λ same. misses.unfit (subst (λ (o : Option ℕ). IsSomeAnd o (λ v. misses.wanted.label ≡ pos v)) (sym there) same);
  },
)

pub misses-listed : (elf : Elf) (labels : List SlotLabel) (hi entry : ℕ) → AreSlotLabels elf labels →
    MissesLabel elf hi entry → HasLabelAt labels hi
misses-listed elf labels hi entry are misses =
    record { found = misses.wanted; listed = (are.all misses.wanted).1 misses.is; place_is = misses.place_is }

pub misses-none : (elf : Elf) (labels : List SlotLabel) (hi entry : ℕ) → AreSlotLabels elf labels →
    loaded_number elf entry 8 ≡ None → HasLabelAt labels hi ↔ MissesLabel elf hi entry
misses-none elf labels hi entry are none = (
  λ any. record {
    wanted = any.found;
    is = (are.all any.found).0 any.listed;
    place_is = any.place_is;
    unfit = λ holds. absurd (subst (λ (o : Option ℕ). IsSomeAnd o (λ v. any.found.label ≡ pos v)) none holds);
  },
  λ misses. misses-listed elf labels hi entry are misses,
)

-- Targets of lower parts.

pub entry-names : (elf : Elf) (l : Low) (target : ℤ) (entry : ℕ) → IsTargetOf elf l target →
    ((z : ℤ) → IsTargetOf elf l z → target ≡ z) → pos entry ≡ target → IsAddress target →
    MissesLabel elf l.hi entry ↔ NamesBadEntry elf l
entry-names elf l target entry makes only is address = (
  λ misses. record {
    entry = entry;
    makes = subst (IsTargetOf elf l) (sym is) makes;
    address = subst IsAddress (sym is) address;
    misses = misses;
  },
  λ names.
      let e : pos entry ≡ pos names.entry = is ∙ only (pos names.entry) names.makes in
      let same : names.entry ≡ entry = cc in
      subst (MissesLabel elf l.hi) same names.misses,
)

pub entry-far : (elf : Elf) (l : Low) (target : ℤ) → ((z : ℤ) → IsTargetOf elf l z → target ≡ z) → (IsAddress target → ⊥) →
    NamesBadEntry elf l → ⊥
entry-far elf l target only far names = far (subst IsAddress (sym (only (pos names.entry) names.makes)) names.address)

-- By the relocations on AUIPCs.

slot_is_hi : (kind : ℕ) → kind ≡ R_RISCV_GOT_HI20 → IsTrue (is_pcrel_hi kind)
slot_is_hi kind is = subst (λ (k : ℕ). IsTrue (is_pcrel_hi k)) (sym is) refl

of_lows : (elf : Elf) (lows : List Low) → AreLows elf lows → (p : ℕ) → IsPlaceOf (λ l. l.hi) (NamesBadEntry elf) lows p →
    HasRelocation elf (HasBadEntry elf) p
of_lows elf lows are p is =
    let l = is.item in
    let low = (are.all l).0 is.listed in
    let misses = is.bad.misses in
    let source = misses.is.source in
    let said = misses.is.is in
    let here : source.place ≡ l.hi = said.place_is ∙ misses.place_is in
    record {
      relocation = source;
      counts = misses.is.counts;
      is = record {
        is_slot = said.is_slot;
        entry = is.bad.entry;
        makes = target_upper elf source l (pos is.bad.entry) misses.is.counts
            (slot_is_hi source.kind said.is_slot) low is.bad.makes here;
        address = is.bad.address;
        unfit = λ holds. misses.unfit
            (subst (λ (z : ℤ). IsSomeAnd (loaded_number elf is.bad.entry 8) (λ v. z ≡ pos v)) said.label_is holds);
      };
      place_is = here ∙ is.place_is;
    }

of_uppers : (elf : Elf) (lows : List Low) → AreLows elf lows → (p : ℕ) → HasRelocation elf (HasBadEntry elf) p →
    IsPlaceOf (λ l. l.hi) (NamesBadEntry elf) lows p
of_uppers elf lows are p has =
    let r = has.relocation in
    let bad = has.is in
    record {
      item = low_of_upper bad.makes;
      listed = (are.all (low_of_upper bad.makes)).1 (upper_low elf r (pos bad.entry) bad.makes);
      bad = record {
        entry = bad.entry;
        makes = upper_target elf r (pos bad.entry) bad.makes;
        address = bad.address;
        misses = record {
          wanted = record { place = r.place; label = label elf r };
          is =
              record { source = r; counts = has.counts; is = record { is_slot = bad.is_slot; place_is = refl; label_is = refl } };
          place_is = refl;
          unfit = bad.unfit;
        };
      };
      place_is = has.place_is;
    }

pub IsLowest-entries : (elf : Elf) (lows : List Low) (lowest : Option ℕ) → AreLows elf lows →
    IsLowest (IsPlaceOf (λ l. l.hi) (NamesBadEntry elf) lows) lowest → IsLowest (HasRelocation elf (HasBadEntry elf)) lowest
IsLowest-entries elf lows lowest are is = IsLowest-same lowest (of_lows elf lows are) (of_uppers elf lows are) is

-- GOT entries that lower parts refer to.
use Rattle.std.proofs.Common.{◌≡◌, ◌∙◌, sym, subst, refl, ℕ, ◌≤◌, ◌^◌, ℤ, pos, ◌↔◌, Bool, IsTrue, List, arith}
use Rattle.std.specs.List.{Contains}
use Rattle.elf_image.specs.declared.elf.Elf.{Elf}
use Rattle.elf_code.specs.Cells.{Field}
use Rattle.rv_reloc.specs.Pairs.{IsTargetOf}
use Rattle.rv_reloc.specs.declared.lows.Low.{Low}
use Rattle.code_starts.specs.LoadedMemory.{IsLow}
use Rattle.rv_reloc.specs.GotFields.{NamesEntry, IsNamedField, IsSlotOf}
use Rattle.rv_reloc.specs.declared.slots.SlotLabel.{SlotLabel}
use Rattle.rv_reloc.specs.Slots.{AreSlotLabels, HasLabelAt}
use Rattle.code_starts.proofs.LoadedNumbers.{number-low}

pub slot-made : (elf : Elf) (l : Low) (z : ℤ) (slot : ℕ) (f : Field) → IsTargetOf elf l z → pos slot ≡ z →
    IsNamedField elf l.hi slot f → IsSlotOf elf l f
slot-made elf l z slot f makes same entry =
    record { slot = slot; names = subst (IsTargetOf elf l) (sym same) makes; entry = entry }

pub slot-named : (elf : Elf) (l : Low) (z : ℤ) (slot : ℕ) (f : Field) → ((y : ℤ) → IsTargetOf elf l y → z ≡ y) → pos slot ≡ z →
    IsSlotOf elf l f → IsNamedField elf l.hi slot f
slot-named elf l z slot f only same is =
    let e : pos slot ≡ pos is.slot = same ∙ only (pos is.slot) is.names in
    let there : is.slot ≡ slot = cc in
    subst (λ (s : ℕ). IsNamedField elf l.hi s f) there is.entry

pub slot-missing : (elf : Elf) (l : Low) (z : ℤ) (f : Field) → IsLow elf → ((y : ℤ) → IsTargetOf elf l y → z ≡ y) →
    ((a : ℕ) → pos a ≡ z → 2 ^ 64 ≤ a) → IsSlotOf elf l f → ⊥
slot-missing elf l z f low only none is =
    let high = none is.slot (sym (only (pos is.slot) is.names)) in
    let below = number-low elf is.slot 7 is.entry.field.to low is.entry.field.loaded in
    omega arith

-- A relocation for a GOT entry has its label in the list.
pub label-listed : (elf : Elf) (labels : List SlotLabel) (hi to : ℕ) → AreSlotLabels elf labels → NamesEntry elf hi to →
    HasLabelAt labels hi
label-listed elf labels hi to are n =
    let s : SlotLabel = record { place = hi; label = pos to } in
    record {
      found = s;
      listed = (are.all s).1 (record {
        source = n.relocation;
        counts = n.counts;
        is = record { is_slot = n.kind_is; place_is = n.place_is; label_is = n.label_is };
      });
      place_is = refl;
    }

-- The label of an entry, as it is searched.
pub names-by_label : (elf : Elf) (labels : List SlotLabel) (hi to : ℕ) (y : ℤ) (r : Bool) →
    AreSlotLabels elf labels → y ≡ pos to →
    IsTrue r ↔ Contains labels (record { place = hi; label = y }) → IsTrue r ↔ NamesEntry elf hi to
names-by_label elf labels hi to y r are same test =
    let s : SlotLabel = record { place = hi; label = y } in (
      λ yes_is. let is = (are.all s).0 (test.0 yes_is) in
          record {
            relocation = is.source;
            counts = is.counts;
            kind_is = is.is.is_slot;
            place_is = is.is.place_is;
            label_is = is.is.label_is ∙ same;
          },
      λ n. test.1 ((are.all s).1 (record {
        source = n.relocation;
        counts = n.counts;
        is = record { is_slot = n.kind_is; place_is = n.place_is; label_is = n.label_is ∙ sym same };
      })),
    )

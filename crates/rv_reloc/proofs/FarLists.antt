-- AUIPCs with a lower part whose target isn't an address.
use Rattle.std.proofs.Common.{sym, refl, ℕ, ◌↔◌, IsTrue, List}
use Rattle.std.specs.List.{Contains}
use Rattle.std.specs.List.Sorted.{IsStrictlyIncreasing}
use Rattle.std.proofs.lemmas.List.Kept.{AllPairs-from_increasing}
use Rattle.elf_image.specs.declared.elf.Elf.{Elf}
use Rattle.elf_code.specs.Relocations.{Relocation, relocations, is_pcrel_hi}
use Rattle.rv_reloc.specs.declared.lows.Low.{Low}
use Rattle.rv_reloc.specs.Finds.{AreFound}
use Rattle.rv_reloc.specs.Lows.{AreLows}
use Rattle.rv_reloc.specs.Pairs.{IsFar, AreFar, MakesNoAddress}
use Rattle.rv_reloc.proofs.PairTargets.{low_of_upper, upper_low, upper_target, target_upper}

pub AreFar-ascending : (elf : Elf) (lows : List Low) (were far : List ℕ) → AreLows elf lows → AreFound (IsFar elf) lows were →
    ((a : ℕ) → Contains far a ↔ Contains were a) → IsStrictlyIncreasing far → AreFar elf far
AreFar-ascending elf lows were far are found same rising = record {
  all = λ a. (
    λ listed. let (l, has_l, is) = found.only a ((same a).0 listed) in (l, (are.all l).0 has_l, is),
    λ (l, low, is). (same a).1 (found.each l a ((are.all l).1 low) is),
  );
  ascending = AllPairs-from_increasing far rising;
}

pub far-makes : (elf : Elf) (far : List ℕ) (r : Relocation) → AreFar elf far → Contains (relocations elf) r →
    IsTrue (is_pcrel_hi r.kind) → Contains far r.place ↔ MakesNoAddress elf r
far-makes elf far r are counts is = (
  λ listed.
      let (l, low, far_is) = (are.all r.place).0 listed in
      record {
        number = far_is.number;
        makes = target_upper elf r l far_is.number counts is low far_is.makes (sym far_is.here);
        unfit = far_is.unfit;
      },
  λ makes. (are.all r.place).1 (
    low_of_upper makes.makes,
    upper_low elf r makes.number makes.makes,
    record { here = refl; number = makes.number; makes = upper_target elf r makes.number makes.makes; unfit = makes.unfit },
  ),
)

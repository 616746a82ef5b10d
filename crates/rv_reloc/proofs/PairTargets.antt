-- Targets of lower parts, by relocations.
use Rattle.std.proofs.Common.{◌≡◌, sym, subst, ℕ, ℤ, IsTrue}
use Rattle.std.specs.List.{Contains}
use Rattle.elf_image.specs.declared.elf.Elf.{Elf}
use Rattle.elf_code.specs.Relocations.{Relocation, relocations, is_pcrel_hi}
use Rattle.elf_code.specs.Roles.{PcrelLo, PcrelHiTo, PcrelLoTo}
use Rattle.rv_reloc.specs.declared.lows.Low.{Low}
use Rattle.rv_reloc.specs.Lows.{IsLowPart}
use Rattle.rv_reloc.specs.Pairs.{IsTargetOf}

-- The lower part of the target of an upper part.
abbrev pub low_of_upper : {elf : Elf} {r : Relocation} {z : ℤ} → PcrelHiTo elf r z → Low
low_of_upper {r = r} to = record { hi = r.place; imm = to.lower }

pub upper_low : (elf : Elf) (r : Relocation) (z : ℤ) (to : PcrelHiTo elf r z) → IsLowPart elf (low_of_upper to)
upper_low elf r z to = record { source = to.low; part = to.part }

pub upper_target : (elf : Elf) (r : Relocation) (z : ℤ) (to : PcrelHiTo elf r z) → IsTargetOf elf (low_of_upper to) z
upper_target elf r z to = record { rd = to.rd; upper = to.upper; auipc = to.auipc; target_is = to.target_is }

target_at : (elf : Elf) (r : Relocation) (source : Relocation) (hi : ℕ) (imm z : ℤ) → Contains (relocations elf) r →
    IsTrue (is_pcrel_hi r.kind) → PcrelLo elf source hi imm → IsTargetOf elf (record { hi = hi; imm = imm }) z → r.place ≡ hi →
    PcrelHiTo elf r z
target_at elf r source hi imm z counts is part target here =
    let part' : PcrelLo elf source r.place imm = subst (λ (n : ℕ). PcrelLo elf source n imm) (sym here) part in
    let target' : IsTargetOf elf (record { hi = r.place; imm = imm }) z =
    subst (λ (n : ℕ). IsTargetOf elf (record { hi = n; imm = imm }) z) (sym here) target in
    record {
      counts = counts;
      is_hi = is;
      rd = target'.rd;
      upper = target'.upper;
      auipc = target'.auipc;
      low = source;
      lower = imm;
      part = part';
      target_is = target'.target_is;
    }

pub target_upper : (elf : Elf) (r : Relocation) (l : Low) (z : ℤ) → Contains (relocations elf) r → IsTrue (is_pcrel_hi r.kind) →
    IsLowPart elf l → IsTargetOf elf l z → r.place ≡ l.hi → PcrelHiTo elf r z
target_upper elf r l z counts is low target here = target_at elf r low.source l.hi l.imm z counts is low.part target here

pub lower_target : (elf : Elf) (r : Relocation) (hi : ℕ) (z : ℤ) (to : PcrelLoTo elf r hi z) →
    IsTargetOf elf (record { hi = hi; imm = to.lower }) z
lower_target elf r hi z to = record { rd = to.rd; upper = to.upper; auipc = to.auipc; target_is = to.target_is }

pub target_lower : (elf : Elf) (r : Relocation) (l : Low) (z : ℤ) → PcrelLo elf r l.hi l.imm →
    IsTargetOf elf l z → PcrelLoTo elf r l.hi z
target_lower elf r l z part target =
    record {
      lower = l.imm;
      part = part;
      rd = target.rd;
      upper = target.upper;
      auipc = target.auipc;
      target_is = target.target_is;
    }

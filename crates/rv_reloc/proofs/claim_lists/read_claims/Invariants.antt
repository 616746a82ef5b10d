use Rattle.std.proofs.Common.{take}
use Rattle.rv_reloc.specs.Claims.{AreClaimsOf}
use Rattle.rv_reloc.proofs.claim_lists.read_claims.Given as goal

abbrev pub invariant-loop-relocation : goal.invariant-loop-relocation
invariant-loop-relocation l = AreClaimsOf l.elf (take l.relocation-index l.records) l.claims.items

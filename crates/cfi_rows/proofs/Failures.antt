-- What follows of a failure.
use Rattle.std.proofs.Common.{◌≡◌}
use Rattle.cfi_rows.specs.declared.failed.Failed.{Failed}
use Rattle.cfi_rows.specs.declared.failed.Failed.TheVariants.{Memory, Malformed}
use Rattle.cfi_rows.specs.Reads.{Fails}

pub fails_by : {P Q : Type 0} (e : Failed) → (P → Q) → Fails e P → Fails e Q
fails_by Memory f h = tt
fails_by Malformed f h = f h

pub malformed_so : {P : Type 0} (e : Failed) → e ≡ Malformed → Fails e P → P
malformed_so Memory is h = absurd (cc)
malformed_so Malformed is h = h

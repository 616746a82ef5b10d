-- Which fault is reported if several are present: the one with the lowest number, at its lowest place.
use Rattle.std.specs.Prelude.{⊤, ◌≡◌, ℕ, ◌<◌, ◌≤◌}
use Rattle.rb_bytes.specs.Fault.{fault_at, number_of}
use Rattle.rb_bytes.specs.declared.fault.Fault.{Fault}
use Rattle.rb_bytes.specs.declared.fault.FaultKind.{FaultKind}
use Rattle.rb_bytes.specs.declared.fault.Refusal.{Refusal}
use Rattle.rb_bytes.specs.declared.fault.Refusal.TheVariants as refusal

-- `Has kind place` says that a fault of this kind is present at this place.

-- No fault of this kind is present.
abbrev pub Lacks : (FaultKind → ℕ → Type 0) → FaultKind → Type 0
Lacks Has kind = (place : ℕ) → Has kind place → ⊥

-- No fault with a number below `number` is present.
abbrev pub LacksBelow : (FaultKind → ℕ → Type 0) → ℕ → Type 0
LacksBelow Has number = (kind : FaultKind) → number_of kind < number → Lacks Has kind

-- No fault of any kind is present.
abbrev pub IsFree : (FaultKind → ℕ → Type 0) → Type 0
IsFree Has = (kind : FaultKind) → Lacks Has kind

-- The reported fault is present, no fault with a lower number is present, and no fault with the same number is at a
-- lower place. Kinds that share a number are compared by place only.
pub record IsAnswered (Has : FaultKind → ℕ → Type 0) (fault : Fault) : Type 0 where
  pub present : Has fault.kind fault.place
  pub first : LacksBelow Has (number_of fault.kind)
  pub lowest : (kind : FaultKind) (place : ℕ) → number_of kind ≡ number_of fault.kind → Has kind place →
      fault.place ≤ place
  pub alone : fault ≡ fault_at fault.kind fault.place

-- A refusal with a fault names the fault to report. Memory may run out at any time.
abbrev pub IsRefusalBy : (FaultKind → ℕ → Type 0) → Refusal → Type 0
IsRefusalBy Has (refusal.Fault fault) = IsAnswered Has fault
IsRefusalBy Has refusal.Memory = ⊤

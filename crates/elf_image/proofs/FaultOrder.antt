-- The order of faults: each kind is searched for only if the kinds with lower numbers are absent.
use Rattle.std.proofs.Common.{◌≡◌, ◌∙◌, sym, ap, refl, ℕ, if◌then◌else◌, ◌+◌, ◌<◌, Option, Some, None}
use Rattle.std.proofs.Common.{Result, Ok, Err, MatchOption, MatchResult, OnOk, IfErr, arith, rules}
use Rattle.std.specs.Prelude.{◌==◌}
use Rattle.rb_bytes.specs.Fault.{number_of, fault_at}
use Rattle.rb_bytes.specs.declared.fault.Fault.{Fault}
use Rattle.rb_bytes.specs.declared.fault.FaultKind.{FaultKind}
use Rattle.rb_bytes.specs.declared.fault.FaultKind.TheVariants.{NotElf, Truncated, Flags, NotStatic, ExecSegments, WritableCode}
use Rattle.rb_bytes.specs.declared.fault.FaultKind.TheVariants.{HighAddress, CompressedSection, RelocType, RelocMismatch}
use Rattle.rb_bytes.specs.declared.fault.FaultKind.TheVariants.{LoMismatch, NarrowDiff, IfuncOrPlt, AlreadyMoved, BadEntry}
use Rattle.rb_bytes.specs.FirstFault.{LacksBelow, IsAnswered}
use Rattle.elf_image.specs.faults.LowestPlace.{IsLowest}

-- The kind with a number below 16. Two kinds share the number 16.
numbered : ℕ → FaultKind
numbered n =
    if n == 1 then NotElf else
    if n == 2 then Truncated else
    if n == 3 then Flags else
    if n == 4 then NotStatic else
    if n == 5 then ExecSegments else
    if n == 6 then WritableCode else
    if n == 7 then HighAddress else
    if n == 8 then CompressedSection else
    if n == 9 then RelocType else
    if n == 10 then RelocMismatch else
    if n == 11 then LoMismatch else
    if n == 12 then NarrowDiff else
    if n == 13 then IfuncOrPlt else
    if n == 14 then AlreadyMoved else BadEntry

numbered-number : (kind : FaultKind) → number_of kind < 16 → kind ≡ numbered (number_of kind)
unfolding numbered
numbered-number NotElf low = refl
numbered-number Truncated low = refl
numbered-number Flags low = refl
numbered-number NotStatic low = refl
numbered-number ExecSegments low = refl
numbered-number WritableCode low = refl
numbered-number HighAddress low = refl
numbered-number CompressedSection low = refl
numbered-number RelocType low = refl
numbered-number RelocMismatch low = refl
numbered-number LoMismatch low = refl
numbered-number NarrowDiff low = refl
numbered-number IfuncOrPlt low = refl
numbered-number AlreadyMoved low = refl
numbered-number BadEntry low = refl
numbered-number _ low = absurd (omega arith)

same_kind : (a b : FaultKind) → number_of a ≡ number_of b → number_of b < 16 → a ≡ b
same_kind a b same low =
    numbered-number a (omega arith) ∙ ap numbered same ∙ sym (numbered-number b low)

-- No kind has a number below 1.
pub LacksBelow-none : (Has : FaultKind → ℕ → Type 0) → LacksBelow Has 1
LacksBelow-none Has kind low = absurd (none kind low)
  where
    none : (kind : FaultKind) → number_of kind < 1 → ⊥
    none NotElf low = omega arith
    none _ low = omega arith

-- One more kind is absent.
pub LacksBelow-more : (Has : FaultKind → ℕ → Type 0) (kind : FaultKind) → number_of kind < 16 → LacksBelow Has (number_of kind) →
    IsLowest (Has kind) None → LacksBelow Has (number_of kind + 1)
LacksBelow-more Has kind low before absent = search (rules, same_kind)

-- The first kind that is present.
pub IsAnswered-first : (Has : FaultKind → ℕ → Type 0) (kind : FaultKind) (place : ℕ) → number_of kind < 16 →
    LacksBelow Has (number_of kind) → IsLowest (Has kind) (Some place) → IsAnswered Has (fault_at kind place)
IsAnswered-first Has kind place low before is = search (rules, same_kind)

-- One step: a refusal if the kind has a place, and otherwise no fault with this number.
pub refused : {U : Type 0} (u : U) (Has : FaultKind → ℕ → Type 0) (kind : FaultKind) (lowest : Option ℕ) (r : Result U Fault) →
    MatchOption lowest (r ≡ Ok u) (λ p. r ≡ Err (fault_at kind p)) → number_of kind < 16 → LacksBelow Has (number_of kind) →
    IsLowest (Has kind) lowest → MatchResult r (λ _. LacksBelow Has (number_of kind + 1)) (IsAnswered Has)
refused u Has kind None r e low before is = search (rules, LacksBelow-more)
refused u Has kind (Some place) r e low before is = search (rules, IsAnswered-first)

pub refused-lacks : {U : Type 0} (Has : FaultKind → ℕ → Type 0) (n : ℕ) (r : Result U Fault) →
    MatchResult r (λ _. LacksBelow Has n) (IsAnswered Has) → OnOk r (LacksBelow Has n)
refused-lacks Has n (Ok _) step = step
refused-lacks Has n (Err _) step = search rules

pub refused-fault : {U : Type 0} (Has : FaultKind → ℕ → Type 0) (n : ℕ) (r : Result U Fault) →
    MatchResult r (λ _. LacksBelow Has n) (IsAnswered Has) → IfErr r (IsAnswered Has)
refused-fault Has n (Ok _) step = search rules
refused-fault Has n (Err _) step = step

-- The step goes on, or stops.
pub went_on : {U : Type 0} (u : U) (Has : FaultKind → ℕ → Type 0) (kind : FaultKind) (lowest : Option ℕ) (r : Result U Fault) →
    MatchOption lowest (r ≡ Ok u) (λ p. r ≡ Err (fault_at kind p)) → r ≡ Ok u → number_of kind < 16 →
    LacksBelow Has (number_of kind) → IsLowest (Has kind) lowest → LacksBelow Has (number_of kind + 1)
went_on u Has kind lowest r e ok low before is = search (rules, refused)

pub stopped : {U : Type 0} (u : U) (Has : FaultKind → ℕ → Type 0) (kind : FaultKind) (lowest : Option ℕ) (r : Result U Fault)
    (fault : Fault) → MatchOption lowest (r ≡ Ok u) (λ p. r ≡ Err (fault_at kind p)) → r ≡ Err fault → number_of kind < 16 →
    LacksBelow Has (number_of kind) → IsLowest (Has kind) lowest → IsAnswered Has fault
stopped u Has kind lowest r fault e err low before is = search (rules, refused)

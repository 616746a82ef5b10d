-- Of the faults that are present, at most one is reported.
use Rattle.std.proofs.Common.{◌≡◌, ◌∙◌, ◌≤◌, ◌⊎◌, ℕ, ap, inl, inr, refl, subst, sym, arith, if◌then◌else◌}
use Rattle.std.specs.Prelude.{◌==◌}
use Rattle.std.proofs.lemmas.Bool.{cases_order}
use Rattle.rb_bytes.specs.Fault.{fault_at, number_of}
use Rattle.rb_bytes.specs.FirstFault.{IsAnswered, IsFree}
use Rattle.rb_bytes.specs.declared.fault.Fault.{Fault}
use Rattle.rb_bytes.specs.declared.fault.FaultKind.{FaultKind}
use Rattle.rb_bytes.specs.declared.fault.FaultKind.TheVariants as fault
use Rattle.program.specs.Limits.{IsLimitFault}

abbrev kind_of : ℕ → FaultKind
kind_of n =
    if n == 1 then fault.NotElf
    else if n == 2 then fault.Truncated
    else if n == 3 then fault.Flags
    else if n == 4 then fault.NotStatic
    else if n == 5 then fault.ExecSegments
    else if n == 6 then fault.WritableCode
    else if n == 7 then fault.HighAddress
    else if n == 8 then fault.CompressedSection
    else if n == 9 then fault.RelocType
    else if n == 10 then fault.RelocMismatch
    else if n == 11 then fault.LoMismatch
    else if n == 12 then fault.NarrowDiff
    else if n == 13 then fault.IfuncOrPlt
    else if n == 14 then fault.AlreadyMoved
    else if n == 15 then fault.BadEntry
    else if n == 16 then fault.BadInstruction
    else if n == 17 then fault.BadTarget
    else if n == 18 then fault.UnitTooLong
    else if n == 19 then fault.KeptBranch
    else if n == 20 then fault.RegisteredFrames
    else if n == 21 then fault.FrameFault
    else if n == 22 then fault.DwarfVersion
    else if n == 23 then fault.DwarfForm
    else if n == 24 then fault.HighPcForm
    else if n == 25 then fault.DwarfFault
    else if n == 26 then fault.LineFault
    else if n == 27 then fault.NoRoom
    else fault.TooLarge

-- a number belongs to one kind of fault, except for the second of the two kinds that share a number
numbered : (kind : FaultKind) → (kind ≡ fault.BareAuipc) ⊎ (kind_of (number_of kind) ≡ kind)
numbered fault.NotElf = inr refl
numbered fault.Truncated = inr refl
numbered fault.Flags = inr refl
numbered fault.NotStatic = inr refl
numbered fault.ExecSegments = inr refl
numbered fault.WritableCode = inr refl
numbered fault.HighAddress = inr refl
numbered fault.CompressedSection = inr refl
numbered fault.RelocType = inr refl
numbered fault.RelocMismatch = inr refl
numbered fault.LoMismatch = inr refl
numbered fault.NarrowDiff = inr refl
numbered fault.IfuncOrPlt = inr refl
numbered fault.AlreadyMoved = inr refl
numbered fault.BadEntry = inr refl
numbered fault.BadInstruction = inr refl
numbered fault.BareAuipc = inl refl
numbered fault.BadTarget = inr refl
numbered fault.UnitTooLong = inr refl
numbered fault.KeptBranch = inr refl
numbered fault.RegisteredFrames = inr refl
numbered fault.FrameFault = inr refl
numbered fault.DwarfVersion = inr refl
numbered fault.DwarfForm = inr refl
numbered fault.HighPcForm = inr refl
numbered fault.DwarfFault = inr refl
numbered fault.LineFault = inr refl
numbered fault.NoRoom = inr refl
numbered fault.TooLarge = inr refl

-- the two kinds that share a number have no place in common
abbrev pub AreApart : (FaultKind → ℕ → Type 0) → Type 0
AreApart Has = (place : ℕ) → Has fault.BadInstruction place → Has fault.BareAuipc place → ⊥

module _ (Has : FaultKind → ℕ → Type 0) (apart : AreApart Has) where
  shared : (k l : FaultKind) (place : ℕ) → k ≡ fault.BareAuipc → kind_of (number_of l) ≡ l → number_of k ≡ number_of l →
      Has k place → Has l place → ⊥
  shared k l place bare at same has has' =
      let l_is : l ≡ fault.BadInstruction = sym at ∙ ap kind_of (sym same ∙ ap number_of bare) in
      apart place (subst (λ (m : FaultKind). Has m place) l_is has') (subst (λ (m : FaultKind). Has m place) bare has)

  same_kind : (k l : FaultKind) (place : ℕ) → number_of k ≡ number_of l → Has k place → Has l place → k ≡ l
  same_kind k l place same has has' = by (numbered k) (numbered l)
    where
      by : (k ≡ fault.BareAuipc) ⊎ (kind_of (number_of k) ≡ k) → (l ≡ fault.BareAuipc) ⊎ (kind_of (number_of l) ≡ l) → k ≡ l
      by (inl is) (inl is') = is ∙ sym is'
      by (inl is) (inr at) = absurd (shared k l place is at same has has')
      by (inr at) (inl is) = absurd (shared l k place is at (sym same) has' has)
      by (inr at) (inr at') = sym at ∙ ap kind_of same ∙ at'

  same_number : (f g : Fault) → IsAnswered Has f → IsAnswered Has g → number_of f.kind ≡ number_of g.kind
  same_number f g one other = elim (cases_order (number_of f.kind) (number_of g.kind)) [
    | inl same ↦ same
    | inr differ ↦ elim differ [
      | inl less ↦ absurd (other.first f.kind less f.place one.present)
      | inr more ↦ absurd (one.first g.kind more g.place other.present)
    ]
  ]

  pub one_answered : (f g : Fault) → IsAnswered Has f → IsAnswered Has g → f ≡ g
  one_answered f g one other =
      let number = same_number f g one other in
      let low : f.place ≤ g.place = one.lowest g.kind g.place (sym number) other.present in
      let high : g.place ≤ f.place = other.lowest f.kind f.place number one.present in
      let place : f.place ≡ g.place = omega (arith, low, high) in
      let kind : f.kind ≡ g.kind = same_kind f.kind g.kind g.place number
      (subst (λ (p : ℕ). Has f.kind p) place one.present) other.present in
      one.alone ∙ ap (λ (k : FaultKind). fault_at k f.place) kind ∙ ap (λ (p : ℕ). fault_at g.kind p) place ∙ sym other.alone

pub none_answered : (Has : FaultKind → ℕ → Type 0) (f : Fault) → IsAnswered Has f → IsFree Has → ⊥
none_answered Has f is free = free f.kind f.place is.present

-- the first exceeded limit, for two predicates that agree
pub one_limit : (P Q : ℕ → Type 0) → ((p : ℕ) → P p → Q p) → ((p : ℕ) → Q p → P p) → (f g : Fault) → IsLimitFault P f →
    IsLimitFault Q g → f ≡ g
one_limit P Q to from f g one other =
    let low : one.place ≤ other.place = one.first.least other.place (from other.place other.first.present) in
    let high : other.place ≤ one.place = other.first.least one.place (to one.place one.first.present) in
    let place : one.place ≡ other.place = omega (arith, low, high) in
    one.fault_is ∙ ap (λ (p : ℕ). fault_at fault.TooLarge p) place ∙ sym other.fault_is

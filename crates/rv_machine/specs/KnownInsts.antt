-- The cache of decoded instructions.
use Rattle.std.specs.Prelude.{◌≡◌, ℕ, ◌<◌, length, Option, slice_index_or}
use Rattle.rv_code.specs.declared.inst.Inst.{Inst}
use Rattle.rv_code.specs.declared.action.Action.{Action}
use Rattle.rv_code.specs.isa.Action.{action_of}
use Rattle.rv_code.specs.isa.InstBytes.{Decodes}
use Rattle.rv_machine.specs.declared.known.KnownAction.{KnownAction}
use Rattle.rv_machine.specs.declared.known.KnownActions.{KnownActions}

-- the halfwords are exactly one instruction, whose length is `bytes`, and `action` is what it does
pub record IsAction (half : ℕ) (next : Option ℕ) (action : Action) (bytes : ℕ) : Type 0 where
  pub inst : Inst
  pub decodes : Decodes half next inst bytes
  pub only : (i : Inst) (n : ℕ) → Decodes half next i n → (i ≡ inst) × (n ≡ bytes)
  pub action_is : action ≡ action_of inst

abbrev pub IsKnown : KnownAction → Type 0
IsKnown e = IsAction e.half e.next e.action e.length

pub record AreKnown (known : KnownActions) : Type 0 where
  pub at : (k : ℕ) (d : KnownAction) → k < length known.entries.items → IsKnown (slice_index_or known.entries.items k d)

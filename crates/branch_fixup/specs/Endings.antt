-- The ending of a block in the new code, by the block that follows it there.
use Rattle.std.specs.Prelude.{ℕ, zero, ◌+◌, ◌==◌, ◌&&◌, not, if◌then◌else◌, Bool, true, false, Option, Some, None, List}
use Rattle.std.specs.Option.{option_map_or}
use Rattle.rv_code.specs.declared.action.Action.{Action}
use Rattle.rv_code.specs.declared.action.Action.TheVariants as action
use Rattle.rv_code.specs.declared.layout.Form.{Form}
use Rattle.rv_code.specs.declared.layout.Form.TheVariants as form
use Rattle.rv_code.specs.declared.placed.Placed.{Placed}
use Rattle.rv_code.specs.declared.placed.Func.{Func}
use Rattle.rv_code.specs.layout.ProgramCode.{is_code_address}
use Rattle.rv_code.specs.layout.Flow.{falls_at}

-- The address to which the instruction with index i of a function falls through, if it does and some function has an
-- instruction there.
abbrev pub fall_of : List Func → Func → ℕ → Placed → Option ℕ
fall_of funcs func i p =
    if falls_at func i p && is_code_address funcs (p.addr + p.len) then Some (p.addr + p.len) else None

-- a form, without the size of its branch or jump
pub data End : Type 0 where
  -- the last instruction unchanged, and an added jump if the flag is true
  Kept : Bool → End
  -- a branch, with the opposite condition if the first flag is true, and an added jump if the second one is
  Branches : Bool → Bool → End
  Goes : End
  LeftOut : End

abbrev pub end_of_form : Form → End
end_of_form form.Plain = Kept false
end_of_form form.Jump = Kept true
end_of_form (form.Branch inverted size jump) = Branches inverted jump
end_of_form (form.Goto half) = Goes
end_of_form form.Dropped = LeftOut

-- the next block begins at an address
abbrev pub begins_at : Option ℕ → Option ℕ → Bool
begins_at next a = option_map_or (λ n. option_map_or (λ t. n == t) a false) next false

-- The ending of a block with the last action `last`: `fall` is the address to which it falls through, `target` the one
-- to which it goes, and `next` the start of the next block. `whole` says that its function moves as one piece, `alone`
-- that the block has no other instruction. A block that doesn't fall through gets no added jump.
abbrev pub ending : Bool → Bool → Action → Option ℕ → Option ℕ → Option ℕ → End
ending whole alone last fall target next = if whole then Kept apart else by last
  where
    -- the block falls through to another block than the next one
    apart : Bool
    apart = option_map_or (λ f. not (begins_at next (Some f))) fall false

    inverted : Bool
    inverted = apart && begins_at next target

    by : Action → End
    by (action.Branch test wanted rs1 rs2 imm) = Branches inverted (apart && not inverted)
    by (action.Jump zero imm) = if begins_at next target && not alone then LeftOut else Goes
    by _ = Kept apart

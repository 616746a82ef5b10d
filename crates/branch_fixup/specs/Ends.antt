-- The ends of a plan's blocks, before forms grow.
use Rattle.std.specs.Prelude.{◌≡◌, ℕ, ◌+◌, ◌<◌, if◌then◌else◌, List, Option, Some, None, Any, IsSomeAnd, length}
use Rattle.std.specs.Prelude.{slice_get, option_map}
use Rattle.rv_code.specs.declared.layout.Form.{Form}
use Rattle.rv_code.specs.declared.layout.Form.TheVariants as form
use Rattle.rv_code.specs.layout.Flow.{action_at, target_of}
use Rattle.branch_fixup.specs.declared.growth.BlockEnd.{BlockEnd}
use Rattle.branch_fixup.specs.Endings.{end_of_form, ending}
use Rattle.branch_fixup.specs.Forms.{FitsLength, shorter}
use Rattle.branch_fixup.specs.Growth.{end_at, form_at}
use Rattle.branch_fixup.specs.Strips.{Strip, is_alone, first_in, insts_in}

-- a form by the table of endings, if the next block begins at an address
pub record Ends (s : Strip) (next : Option ℕ) (f : Form) : Type 0 where
  pub by_table : end_of_form f ≡ ending s.whole (is_alone s.inner) (action_at s.last) s.fall (target_of s.last) next
  pub fits : FitsLength s.last.len f

pub record IsShortest (s : Strip) (next : Option ℕ) (f : Form) : Type 0 where
  pub ends : Ends s next f
  pub shortest : shorter s.last.len f ≡ None

-- the target of the branch or jump of a form that can grow
abbrev pub lead_of : Strip → Form → Option ℕ
lead_of s (form.Branch inverted size jump) = if inverted then s.fall else target_of s.last
lead_of s (form.Goto half) = target_of s.last
lead_of s _ = None

-- the start of the block with index k, if there is one
abbrev pub begins_of : List Strip → ℕ → Option ℕ
begins_of ss k = option_map (λ s. first_in s.inner s.last) (slice_get ss k)

-- the block with index k has the instruction at an address, at this offset
abbrev pub IsAt : List Strip → ℕ → ℕ → ℕ → Type 0
IsAt ss k offset a = IsSomeAnd (slice_get ss k) (λ s. (first_in s.inner s.last + offset ≡ a)
    × Any (λ p. p.addr ≡ a) (insts_in s))

-- The end of a block in a list, whose branch or jump goes to the address `lead`.
pub record IsBlockEnd (ss : List Strip) (s : Strip) (lead : Option ℕ) (t : BlockEnd) : Type 0 where
  pub before : first_in s.inner s.last + t.before ≡ s.last.addr
  pub len : t.len ≡ s.last.len
  pub leads : (a : ℕ) → lead ≡ Some a → IsAt ss t.to t.offset a
  pub to_itself : lead ≡ None → IsAt ss t.to t.offset (first_in s.inner s.last)

-- the ends and forms of the first n blocks
pub record AreEnds (ss : List Strip) (n : ℕ) (ts : List BlockEnd) (fs : List Form) : Type 0 where
  pub block_ends : length ts ≡ n
  pub forms : length fs ≡ n
  pub shortest : (k : ℕ) (s : Strip) → k < n → slice_get ss k ≡ Some s →
      IsShortest s (begins_of ss (k + 1)) (form_at fs k)
  pub are_block_ends : (k : ℕ) (s : Strip) → k < n → slice_get ss k ≡ Some s →
      IsBlockEnd ss s (lead_of s (form_at fs k)) (end_at ts k)

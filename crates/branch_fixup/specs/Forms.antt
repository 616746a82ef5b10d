-- The forms of blocks in an order: forms by the table of endings that reach and are locally the shortest.
use Rattle.std.specs.Prelude.{◌≡◌, ℕ, ◌==◌, if◌then◌else◌, true, false, IsTrue, IfSome, List, [], ◌∷◌, Option, Some}
use Rattle.std.specs.Prelude.{None, slice_get, slice_set}
use Rattle.std.specs.List.{list_all}
use Rattle.rv_code.specs.declared.layout.Form.{Form}
use Rattle.rv_code.specs.declared.layout.Form.TheVariants as form
use Rattle.rv_code.specs.declared.layout.Size.TheVariants.{Half, Full, Long}
use Rattle.rv_code.specs.declared.placed.Placed.{Placed}
use Rattle.rv_code.specs.declared.placed.Func.{Func}
use Rattle.rv_code.specs.declared.placed.Block.{Block}
use Rattle.rv_code.specs.declared.placed.Role.{Role}
use Rattle.rv_code.specs.declared.cell.CodeCell.{CodeCell}
use Rattle.rv_code.specs.layout.Blocks.{AreBlocks}
use Rattle.rv_code.specs.layout.Flow.{action_at, target_of}
use Rattle.rv_code.specs.layout.ProgramCode.{is_code_address, IsNamed, program_code}
use Rattle.addr_map.specs.declared.span.Span.{Span}
use Rattle.addr_map.specs.Spans.{new, IsMap}
use Rattle.branch_fixup.specs.Endings.{end_of_form, ending}
use Rattle.branch_fixup.specs.Pieces.{end_from}
use Rattle.branch_fixup.specs.Distances.{lands, main_leap, AllLand}
use Rattle.branch_fixup.specs.Strips.{Strip, is_alone, first_of, pieces_of, spans_of}

-- a form of two bytes is only for an instruction that has two bytes in the input
abbrev pub FitsLength : ℕ → Form → Type 0
FitsLength len (form.Branch inverted Half jump) = len ≡ 2
FitsLength len (form.Goto true) = len ≡ 2
FitsLength len _ = Unit {0}

-- each block ends by the table, for the block that follows it
abbrev pub EndByTable : List Strip → List Form → Type 0
EndByTable [] [] = Unit {0}
EndByTable [] (f ∷ fs) = ⊥
EndByTable (s ∷ ss) [] = ⊥
EndByTable (s ∷ ss) (f ∷ fs) =
    (end_of_form f ≡ ending s.whole (is_alone s.inner) (action_at s.last) s.fall (target_of s.last) (first_of ss))
    × FitsLength s.last.len f × EndByTable ss fs

-- the next shorter form
abbrev pub shorter : ℕ → Form → Option Form
shorter len (form.Branch inverted Long jump) = Some (form.Branch inverted Full jump)
shorter len (form.Branch inverted Full jump) = if len == 2 then Some (form.Branch inverted Half jump) else None
shorter len (form.Goto false) = if len == 2 then Some (form.Goto true) else None
shorter len _ = None

-- an instruction in a form doesn't reach its target, with these spans
abbrev pub FallsShort : List Span → Placed → Form → Type 0
FallsShort spans p f = list_all lands (main_leap (new spans) (new spans p.addr) p f) ≡ false

-- The block with index k and the form f can't have the next shorter form if all other forms stay the same: at the
-- addresses that follow from this, it doesn't reach.
abbrev pub IsLeast : List Strip → ℕ → List Form → ℕ → Strip → Form → Type 0
IsLeast ss base fs k s f = IfSome (shorter s.last.len f)
    (λ g. FallsShort (spans_of ss base (slice_set fs k g)) s.last g)

-- forms of blocks, for new code from address `base` on
pub record AreForms (ss : List Strip) (base : ℕ) (fs : List Form) : Type 0 where
  pub by_table : EndByTable ss fs
  pub reach : AllLand (new (spans_of ss base fs)) base (pieces_of ss fs)
  pub least : (k : ℕ) (s : Strip) (f : Form) → slice_get ss k ≡ Some s → slice_get fs k ≡ Some f →
      IsLeast ss base fs k s f

-- the end of the new code
abbrev pub new_code_end : List Strip → ℕ → List Form → ℕ
new_code_end ss base fs = end_from base (pieces_of ss fs)

-- The spans are a valid map of the functions, for all roles, code cells and entry points for which these are the
-- blocks.
abbrev pub AreMap : List Func → List Block → List Span → Type 0
AreMap funcs blocks spans =
    (roles : List (ℕ × Role)) (cells : List CodeCell) (entry : ℕ) →
    AreBlocks (program_code funcs roles cells entry) blocks →
    IsMap (λ a. IsTrue (is_code_address funcs a)) (IsNamed (program_code funcs roles cells entry)) spans

-- The blocks in their new order, each with all that the forms and the new code need of it, so that functions aren't
-- looked up again.
use Rattle.std.specs.Prelude.{ℕ, ◌-◌, Bool, true, false, List, [], ◌∷◌, ◌++◌, Option, Some, None, map, take, drop}
use Rattle.std.specs.Prelude.{slice_get, option_map, option_and_then}
use Rattle.std.specs.List.{filter_map}
use Rattle.rv_code.specs.declared.layout.Form.{Form}
use Rattle.rv_code.specs.declared.layout.Plan.{Plan}
use Rattle.rv_code.specs.declared.placed.Placed.{Placed}
use Rattle.rv_code.specs.declared.placed.Func.{Func}
use Rattle.rv_code.specs.declared.placed.Block.{Block}
use Rattle.rv_code.specs.layout.Blocks.{inst_at, func_of}
use Rattle.addr_map.specs.declared.span.Span.{Span}
use Rattle.branch_fixup.specs.Pieces.{Piece, as_it_is, laid_from}
use Rattle.branch_fixup.specs.Endings.{fall_of}

-- A block: its instructions before the last one, its last instruction, whether its function moves as one piece, and the
-- address to which the last instruction falls through.
pub record Strip : Type 0 where
  pub inner : List Placed
  pub last : Placed
  pub whole : Bool
  pub fall : Option ℕ

abbrev pub strip_of : List Func → Block → Option Strip
strip_of funcs b = option_and_then of_func (func_of funcs b)
  where
    of_func : Func → Option Strip
    of_func func = option_map (λ p. record {
      inner = take (b.last - b.first) (drop b.first func.insts.items);
      last = p;
      whole = func.whole;
      fall = fall_of funcs func b.last p;
    }) (inst_at func b.last)

-- the blocks in an order, which has their indices in the list of blocks
abbrev pub strips_of : List Func → List Block → List ℕ → List Strip
strips_of funcs blocks order = filter_map (λ k. option_and_then (strip_of funcs) (slice_get blocks k)) order

-- the blocks in the order of a plan
abbrev pub planned_strips : List Func → List Block → Plan → List Strip
planned_strips funcs blocks plan = strips_of funcs blocks plan.order.items

abbrev pub insts_in : Strip → List Placed
insts_in s = s.inner ++ s.last ∷ []

abbrev pub is_alone : List Placed → Bool
is_alone [] = true
is_alone (p ∷ ps) = false

-- the address of a block's first instruction
abbrev pub first_in : List Placed → Placed → ℕ
first_in [] last = last.addr
first_in (p ∷ ps) last = p.addr

abbrev pub first_of : List Strip → Option ℕ
first_of [] = None
first_of (s ∷ ss) = Some (first_in s.inner s.last)

-- the instructions of a block whose last one is in a form
abbrev pub pieces_of_strip : Strip → Form → List Piece
pieces_of_strip s f = map as_it_is s.inner ++ record { placed = s.last; form = f } ∷ []

-- the instructions of blocks, with one form for each block
abbrev pub pieces_of : List Strip → List Form → List Piece
pieces_of [] fs = []
pieces_of (s ∷ ss) [] = []
pieces_of (s ∷ ss) (f ∷ fs) = pieces_of_strip s f ++ pieces_of ss fs

-- the spans of blocks, from address `base` on
abbrev pub spans_of : List Strip → ℕ → List Form → List Span
spans_of ss base fs = laid_from base (pieces_of ss fs)

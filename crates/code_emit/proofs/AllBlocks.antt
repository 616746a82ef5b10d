-- The blocks of a plan, one after another.
use Rattle.std.proofs.Common.{◌≡◌, ℕ, ◌+◌, ◌<◌, ◌≤◌, List, [], length, Some, refl, sym, ap, ◌∙◌, subst, arith, get_or, take}
use Rattle.std.specs.Prelude.{All, slice_get}
use Rattle.std.specs.Option.{option_map_or}
use Rattle.rv_code.specs.declared.layout.Form.{Form}
use Rattle.rv_code.specs.declared.layout.Form.TheVariants as form
use Rattle.rv_code.specs.declared.placed.Block.{Block}
use Rattle.rv_code.specs.declared.placed.Func.{Func}
use Rattle.rv_code.specs.layout.Flow.{insts_of}
use Rattle.rv_code.specs.layout.FunctionLists.{AreLaidOut, address_end}
use Rattle.rv_code.specs.layout.ProgramCode.{ProgramCode, program_code}
use Rattle.rv_code.specs.layout.BlockOrders.{HasAllBlocks}
use Rattle.addr_map.specs.declared.span.Span.{Span}
use Rattle.addr_map.specs.Spans.{new}
use Rattle.branch_fixup.specs.Ends.{begins_of}
use Rattle.branch_fixup.specs.Inputs.{AreBlocksOf, LeadsToCode}
use Rattle.branch_fixup.specs.Pieces.{Piece, PlacedFrom, end_from}
use Rattle.branch_fixup.specs.Strips.{Strip, insts_in, pieces_of, pieces_of_strip, spans_of, strips_of}
use Rattle.branch_fixup.proofs.Appended.{end_append, pieces_all, pieces_more, pieces_part}
use Rattle.branch_fixup.proofs.Lists.{flat_at}
use Rattle.rv_code.proofs.lists.Follows.{at_contains}
use Rattle.branch_fixup.proofs.Planned.{planned, planned_length}
use Rattle.rb_bytes.proofs.ListLemmas.{all_of, contains_at}
use Rattle.move_law.specs.Rewrite.{Goes, Rewrite}
use Rattle.move_law.specs.FaithfulRewrite.{GoesOn, KeepsInst}
use Rattle.code_emit.specs.Bytes.{Adds, AllCanBeEncoded, CanBePut}
use Rattle.code_emit.specs.Inputs.{AreLow, AreMapped, CanMove, HasLowTargets, HaveMap}
use Rattle.code_emit.specs.NewInsts.{made_from}
use Rattle.code_emit.specs.Output.{Puts}
use Rattle.code_emit.proofs.EmitKeeps.{each_goes_on, each_keeps}
use Rattle.code_emit.proofs.Facts.{all_placed, all_stand, are_low, low_targets, same_new}
use Rattle.code_emit.proofs.Flows.{strip_get}
use Rattle.code_emit.proofs.Parts.{code_length, more_pieces}
use Rattle.code_emit.proofs.Pieces.{block_can, block_placed, one_each, start_at}

-- the conditions on blocks, forms and map
pub record IsGiven (funcs : List Func) (blocks : List Block) (order : List ℕ) (fs : List Form) (lines : List Span) : Type 0 where
  pub laid : AreLaidOut funcs
  pub direct : All (LeadsToCode funcs) (insts_of funcs)
  pub blocks_of : AreBlocksOf funcs blocks
  pub perm : HasAllBlocks blocks order
  pub insts : All CanMove (insts_of funcs)
  pub mapped : HaveMap (strips_of funcs blocks order) fs lines

-- a block whose last instruction is in a form, put after other blocks
pub record IsPut (lines : List Span) (s : Strip) (f : Form) (end here : ℕ) : Type 0 where
  pub here_is : here ≡ end
  pub fits : CanBePut (new lines) here (pieces_of_strip s f)

-- a property of a function holds for any function with the same values
made_same : (f g : ℕ → ℕ) (P : (ℕ → ℕ) → Type 0) → ((t : ℕ) → f t ≡ g t) → P f → P g
made_same f g P same h = subst P (λ i t. same t i) h

module _ (funcs : List Func) (blocks : List Block) (order : List ℕ) (fs : List Form) (lines : List Span)
    (g : IsGiven funcs blocks order fs lines) where
  abbrev code : ProgramCode
  code = program_code funcs g.blocks_of.roles g.blocks_of.cells g.blocks_of.entry

  abbrev ss : List Strip
  ss = strips_of funcs blocks order

  pub lows : AreLow lines
  lows = are_low code blocks order g.laid g.direct g.blocks_of.are g.perm g.insts fs g.mapped.base lines g.mapped.mapped

  pub count : length fs ≡ length order
  count = one_each ss fs g.mapped.mapped.forms.by_table ∙ planned_length code blocks g.blocks_of.are order g.perm

  pub targets : (k : ℕ) (s : Strip) → slice_get ss k ≡ Some s → All HasLowTargets (insts_in s)
  targets k s at = all_of HasLowTargets (insts_in s) (λ p c.
      let plan = planned code blocks g.blocks_of.are order g.perm k s at in
      let (i, at_i) = contains_at (insts_in s) p c in
      let here = strip_get code plan.b s plan.of i p at_i in
      low_targets funcs p g.laid g.direct g.insts
      (flat_at (λ (z : Func). z.insts.items) funcs plan.b.func plan.of.func p plan.of.at
      (at_contains plan.of.func.insts.items (plan.b.first + i) p here)))

  module _ (base : ℕ) (m : AreMapped ss fs base lines) where
    pub can_stand : AllCanBeEncoded (made_from (new lines) base (pieces_of ss fs))
    can_stand = made_same (new (spans_of ss base fs)) (new lines)
        (λ (f : ℕ → ℕ). AllCanBeEncoded (made_from f base (pieces_of ss fs)))
        (same_new code blocks order g.laid g.direct g.blocks_of.are g.perm g.insts fs base lines m)
        (all_stand code blocks order g.laid g.direct g.blocks_of.are g.perm g.insts fs base lines m)

    are_placed : PlacedFrom (new lines) base (pieces_of ss fs)
    are_placed = made_same (new (spans_of ss base fs)) (new lines)
        (λ (f : ℕ → ℕ). PlacedFrom f base (pieces_of ss fs))
        (same_new code blocks order g.laid g.direct g.blocks_of.are g.perm g.insts fs base lines m)
        (all_placed code blocks order g.laid g.direct g.blocks_of.are g.perm g.insts fs base lines m)

    -- the start of the new code, if there are blocks
    pub starts : 0 < length order → option_map_or (new lines) (begins_of ss 0) 0 ≡ base
    starts some =
        let n = count in
        let l = planned_length code blocks g.blocks_of.are order g.perm in
        start_at (new lines) base ss fs (omega (arith, l, some)) (omega (arith, n, some)) are_placed

    module _ (k : ℕ) (s : Strip) (at : slice_get ss k ≡ Some s) (less : k < length fs) where
      -- the pieces before the block with index k, and their new code
      abbrev before : List Piece
      before = pieces_of (take k ss) (take k fs)

      abbrev own : List Piece
      own = pieces_of_strip s (get_or fs k form.Plain)

      -- the block is put after the code of the blocks before it
      pub put_after : (start n : ℕ) (x : List ℕ) → start ≡ option_map_or (new lines) (begins_of ss 0) 0 → n ≡ length x →
          Adds [] x (made_from (new lines) base before) →
          IsPut lines s (get_or fs k form.Plain) (end_from base before) (start + n)
      put_after start n x is size adds =
          subst (λ (a : ℕ). IsPut lines s (get_or fs k form.Plain) (end_from base before) a) (sym here) (record {
            here_is = refl;
            fits = record {
              placed = block_placed (new lines) base ss fs k s at less are_placed;
              can = block_can (new lines) base ss fs k s at less can_stand;
              low = let x = more in let y = part in let z = end in omega (arith, x, y, z);
            };
          })
        where
          here : start + n ≡ end_from base before
          here =
              let some = count in
              ap (λ (a : ℕ). a + n) (is ∙ starts (omega (arith, some, less))) ∙ ap (λ (l : ℕ). base + l) size
              ∙ code_length (new lines) base x before adds

          more : end_from base (pieces_of (take (k + 1) ss) (take (k + 1) fs)) ≡ end_from (end_from base before) own
          more = ap (end_from base) (pieces_more ss fs k s at less) ∙ end_append base before own

          part : end_from base (pieces_of (take (k + 1) ss) (take (k + 1) fs)) ≤ end_from base (pieces_of ss fs)
          part = pieces_part base ss fs (k + 1)

          end : end_from base (pieces_of ss fs) ≤ address_end
          end = m.low

      pub one_more : (x y : List ℕ) (here : ℕ) → here ≡ end_from base before →
          Adds [] x (made_from (new lines) base before) → Adds x y (made_from (new lines) here own) →
          Adds [] y (made_from (new lines) base (pieces_of (take (k + 1) ss) (take (k + 1) fs)))
      one_more x y here is adds more =
          subst (λ (ps : List Piece). Adds [] y (made_from (new lines) base ps)) (sym (pieces_more ss fs k s at less))
          (more_pieces (new lines) base here [] x y before own is adds more)

    pub whole : (k : ℕ) (x : List ℕ) → length order ≤ k →
        Adds [] x (made_from (new lines) base (pieces_of (take k ss) (take k fs))) →
        Adds [] x (made_from (new lines) base (pieces_of ss fs))
    whole k x end adds =
        let n = count in
        let l = planned_length code blocks g.blocks_of.are order g.perm in
        subst (λ (ps : List Piece). Adds [] x (made_from (new lines) base ps))
        (pieces_all ss fs k (omega (arith, l, end)) (omega (arith, n, end))) adds

    module _ (bytes : List ℕ) (adds : Adds [] bytes (made_from (new lines) base (pieces_of ss fs))) where
      pub length_is : base + length bytes ≡ end_from base (pieces_of ss fs)
      length_is = code_length (new lines) base bytes (pieces_of ss fs) adds

      pub keeps : (r : Rewrite) → Puts r funcs lines base bytes → All (KeepsInst r (Goes r.output)) (insts_of funcs)
      keeps r puts = each_keeps code blocks order g.laid g.direct g.blocks_of.are g.perm g.insts fs base lines m r bytes puts adds

      pub goes_on : (r : Rewrite) → Puts r funcs lines base bytes → All (GoesOn r (Goes r.output)) (insts_of funcs)
      goes_on r puts =
          each_goes_on code blocks order g.laid g.direct g.blocks_of.are g.perm g.insts fs base lines m r bytes puts adds

-- The same facts for an equal order.

pub given_along : (funcs : List Func) (blocks : List Block) (o order : List ℕ) (fs : List Form) (lines : List Span) →
    o ≡ order → IsGiven funcs blocks order fs lines → IsGiven funcs blocks o fs lines
given_along funcs blocks o order fs lines e g = subst (λ (l : List ℕ). IsGiven funcs blocks l fs lines) (sym e) g

pub adds_along : (funcs : List Func) (blocks : List Block) (o order : List ℕ) (fs : List Form) (lines : List Span)
    (x : List ℕ) → o ≡ order →
    ((base : ℕ) → AreMapped (strips_of funcs blocks o) fs base lines →
    Adds [] x (made_from (new lines) base (pieces_of (strips_of funcs blocks o) fs))) → (base : ℕ) →
    AreMapped (strips_of funcs blocks order) fs base lines →
    Adds [] x (made_from (new lines) base (pieces_of (strips_of funcs blocks order) fs))
adds_along funcs blocks o order fs lines x e h =
    subst (λ (l : List ℕ). (base : ℕ) → AreMapped (strips_of funcs blocks l) fs base lines →
    Adds [] x (made_from (new lines) base (pieces_of (strips_of funcs blocks l) fs))) e h

-- The new code of all blocks keeps every instruction.
use Rattle.std.proofs.Common.{◌≡◌, ℕ, ◌+◌, ◌^◌, ◌<◌, ◌≤◌, List, [], ◌∷◌, sym, ap, ◌∙◌, subst, arith}
use Rattle.std.specs.Prelude.{All, Any, Contains}
use Rattle.std.proofs.lemmas.List.Sorted.{Contains-permutation}
use Rattle.rv_code.specs.declared.layout.Form.{Form}
use Rattle.rv_code.specs.declared.placed.Block.{Block}
use Rattle.rv_code.specs.declared.placed.Placed.{Placed}
use Rattle.rv_code.specs.layout.Blocks.{AreBlocks}
use Rattle.rv_code.specs.layout.Flow.{insts_of}
use Rattle.rv_code.specs.layout.FunctionLists.{AreLaidOut, address_end}
use Rattle.rv_code.specs.layout.ProgramCode.{ProgramCode}
use Rattle.rv_code.specs.layout.BlockOrders.{HasAllBlocks}
use Rattle.addr_map.specs.declared.span.Span.{Span}
use Rattle.addr_map.specs.Spans.{new}
use Rattle.move_law.specs.Rewrite.{Rewrite, Goes, out}
use Rattle.move_law.specs.FaithfulRewrite.{GoesOn, KeepsInst}
use Rattle.rb_bytes.proofs.ListLemmas.{all_of}
use Rattle.branch_fixup.specs.Inputs.{LeadsToCode}
use Rattle.branch_fixup.specs.Pieces.{Piece, PlacedFrom, length_of}
use Rattle.branch_fixup.specs.Strips.{pieces_of, spans_of, strips_of}
use Rattle.branch_fixup.proofs.Laid.{laid_has}
use Rattle.code_emit.specs.Bytes.{Adds, AllStandIn}
use Rattle.code_emit.specs.Inputs.{AreMapped, CanMove}
use Rattle.code_emit.specs.NewInsts.{made_from}
use Rattle.code_emit.specs.Output.{Puts}
use Rattle.code_emit.proofs.Coded.{has_all}
use Rattle.code_emit.proofs.Facts.{all_placed, low_new, same_new}
use Rattle.code_emit.proofs.Flows.{all_flow}
use Rattle.code_emit.proofs.Pieces.{piece_of}
use Rattle.code_emit.proofs.Standing.{HasAll}
use Rattle.code_emit.proofs.StripEnds.{strips_end}
use Rattle.code_emit.proofs.Walk.{HasSpan, IsKept, walk}

any_permuted : (P : Span → Type 0) (xs ys : List Span) → ((s : Span) → Contains xs s → Contains ys s) → Any P xs → Any P ys
any_permuted P xs ys same (k, s, within, is, p) = let (j, more, at) = same s (k, within, is) in (j, s, more, at, p)

module _ (code : ProgramCode) (blocks : List Block) (order : List ℕ) (laid : AreLaidOut code.funcs)
    (direct : All (LeadsToCode code.funcs) (insts_of code.funcs)) (are : AreBlocks code blocks) (perm : HasAllBlocks blocks order)
    (can : All CanMove (insts_of code.funcs)) (fs : List Form) (base : ℕ) (lines : List Span)
    (m : AreMapped (strips_of code.funcs blocks order) fs base lines) (r : Rewrite) (bytes : List ℕ)
    (puts : Puts r code.funcs lines base bytes)
    (adds : Adds [] bytes (made_from (new lines) base (pieces_of (strips_of code.funcs blocks order) fs))) where
  abbrev ps : List Piece
  ps = pieces_of (strips_of code.funcs blocks order) fs

  out_is : (t : ℕ) → new (spans_of (strips_of code.funcs blocks order) base fs) t ≡ out r t
  out_is t = same_new code blocks order laid direct are perm can fs base lines m t
      ∙ ap (λ (s : List Span). new s t) (sym puts.spans_are)

  small : (t : ℕ) → t ≤ address_end → out r t < 2 ^ 63
  small t h =
      let low = low_new code blocks order laid direct are perm can fs base lines m t h in
      let e = out_is t in
      omega (arith, low, e)

  placed : (a : ℕ) (qs : List Piece) → PlacedFrom (new (spans_of (strips_of code.funcs blocks order) base fs)) a qs →
      PlacedFrom (out r) a qs
  placed a [] h = tt
  placed a (q ∷ qs) h = (sym (out_is q.placed.addr) ∙ h.0, placed (a + length_of q) qs h.1)

  stands : HasAll r.output base (made_from (out r) base ps)
  stands =
      let none : base + 0 ≡ base = omega arith in
      let same : AllStandIn bytes 0 (made_from (out r) base ps) =
      subst (λ (s : List Span). AllStandIn bytes 0 (made_from (new s) base ps)) (sym puts.spans_are) adds.stand in
      subst (λ (a : ℕ). HasAll r.output a (made_from (out r) base ps)) none
      (has_all r.output base 0 bytes (made_from (out r) base ps) puts.has_code same)

  has_span : (q : Piece) → Contains ps q → HasSpan r q
  has_span q c =
      subst (λ (s : List Span). Any (λ (t : Span). (t.input ≡ q.placed.addr) × (length_of q ≤ t.len)) s) (sym puts.spans_are)
      (any_permuted (λ (t : Span). (t.input ≡ q.placed.addr) × (length_of q ≤ t.len))
      (spans_of (strips_of code.funcs blocks order) base fs) lines
      (λ t h. Contains-permutation (spans_of (strips_of code.funcs blocks order) base fs) lines t m.map_is.same h)
      (laid_has base ps q c))

  kept : (q : Piece) → Contains ps q → IsKept r q
  kept q c =
      let end = m.low in
      walk r base ps (omega (arith, end))
      (placed base ps (all_placed code blocks order laid direct are perm can fs base lines m)) has_span stands
      (strips_end r (strips_of code.funcs blocks order) fs m.forms.by_table
      (all_flow r code laid direct puts.funcs_are small blocks order are perm)) q c

  pub each_keeps : All (KeepsInst r (Goes r.output)) (insts_of code.funcs)
  each_keeps = all_of (KeepsInst r (Goes r.output)) (insts_of code.funcs) (λ p c.
      let (q, has, is) = piece_of code blocks order are perm fs m.forms.by_table p c in
      subst (λ (x : Placed). KeepsInst r (Goes r.output) x) is (kept q has).keeps)

  pub each_goes_on : All (GoesOn r (Goes r.output)) (insts_of code.funcs)
  each_goes_on = all_of (GoesOn r (Goes r.output)) (insts_of code.funcs) (λ p c.
      let (q, has, is) = piece_of code blocks order are perm fs m.forms.by_table p c in
      subst (λ (x : Placed). GoesOn r (Goes r.output) x) is (kept q has).goes_on)

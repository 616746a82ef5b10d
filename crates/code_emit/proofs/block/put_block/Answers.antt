use Rattle.std.proofs.Common.{◌∙◌, ℕ, [], ◌∷◌, arith, sym, subst}
use Rattle.std.specs.Prelude.{map}
use Rattle.std.proofs.lemmas.List.Elements.{All-contains}
use Rattle.addr_map.specs.Spans.{new}
use Rattle.branch_fixup.specs.BlockInsts.{seen}
use Rattle.branch_fixup.specs.Pieces.{as_it_is}
use Rattle.branch_fixup.proofs.Appended.{inner_ends}
use Rattle.branch_fixup.proofs.Bridge.{split_placed}
use Rattle.branch_fixup.proofs.Holders.{last_there}
use Rattle.branch_fixup.specs.Strips.{insts_in}
use Rattle.code_emit.specs.Bytes.{AllCanBeEncoded}
use Rattle.code_emit.specs.Inputs.{HasLowTargets}
use Rattle.code_emit.specs.NewInsts.{made}
use Rattle.code_emit.proofs.Parts.{front_can, last_can, one_more, inner_targets}
use Rattle.std.proofs.lemmas.Result.{on_ok_weaker}
use Rattle.code_emit.proofs.block.put_block.Goals as goal

pub put_inner-requires-clause-placed : goal.put_inner-requires-clause-placed
put_inner-requires-clause-placed c =
    (split_placed (new c.args.moved.now) c.args.at (map as_it_is c.args.block.now.inner.now)
    (record { placed = c.args.block.now.last; form = c.args.form } ∷ []) c.requires.fits.placed).0

pub put_inner-requires-clause-can : goal.put_inner-requires-clause-can
put_inner-requires-clause-can c = front_can (new c.args.moved.now) c.args.at (seen c.args.block.now) c.args.form c.requires.fits.can

pub put_inner-requires-clause-low : goal.put_inner-requires-clause-low
put_inner-requires-clause-low c =
    let e = inner_ends c.args.at (seen c.args.block.now) c.args.form in
    let low = c.requires.fits.low in
    omega (arith, e, low)

pub put_inner-requires-clause-targets : goal.put_inner-requires-clause-targets
put_inner-requires-clause-targets c = inner_targets (seen c.args.block.now) c.requires.targets

pub put_piece-requires-clause-here : goal.put_piece-requires-clause-here
put_piece-requires-clause-here c =
    c.in_ok-last_at.ensures.end
    ∙ sym (split_placed (new c.args.moved.now) c.args.at (map as_it_is c.args.block.now.inner.now)
    (record { placed = c.args.block.now.last; form = c.args.form } ∷ []) c.requires.fits.placed).1.0

pub put_piece-requires-clause-can : goal.put_piece-requires-clause-can
put_piece-requires-clause-can c =
    subst (λ (n : ℕ). AllCanBeEncoded (made (new c.args.moved.now) n c.args.block.now.last c.args.form))
    (sym c.in_ok-last_at.ensures.end)
    (last_can (new c.args.moved.now) c.args.at (seen c.args.block.now) c.args.form c.requires.fits.can)

pub put_piece-requires-clause-low : goal.put_piece-requires-clause-low
put_piece-requires-clause-low c =
    let e = inner_ends c.args.at (seen c.args.block.now) c.args.form in
    let low = c.requires.fits.low in
    let here = c.in_ok-last_at.ensures.end in
    omega (arith, e, low, here)

pub put_piece-requires-clause-targets : goal.put_piece-requires-clause-targets
put_piece-requires-clause-targets c =
    All-contains HasLowTargets (insts_in (seen c.args.block.now)) c.args.block.now.last c.requires.targets
    (last_there (seen c.args.block.now))

pub returns : goal.returns
returns c = record {
  adds = on_ok_weaker c.put_piece.result
      (λ more. one_more
      (new c.args.moved.now) c.args.at c.in_ok-last_at.last_at c.args.code.now.items c.put_inner.new.code.items
      c.put_piece.new.code.items (map as_it_is c.args.block.now.inner.now) (record {
        placed = c.args.block.now.last;
        form = c.args.form;
      }) c.in_ok-last_at.ensures.end c.in_ok-last_at.ensures.adds more) c.put_piece.ensures.ok;
}

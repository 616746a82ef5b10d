-- The blocks of a program are in order and don't overlap.
use Rattle.std.proofs.Common.{◌≤◌, ℕ, List, Option, Some, None, get_or, arith, sym, subst, inl, inr}
use Rattle.std.specs.Prelude.{IsSomeAnd, slice_get}
use Rattle.std.proofs.lemmas.List.Elements.{Contains-get_or}
use Rattle.rv_code.specs.declared.placed.Func.{Func}
use Rattle.rv_code.specs.declared.placed.Block.{Block}
use Rattle.rv_code.specs.layout.Blocks.{AreBlocks, IsBlock, IsBlockOf, IsBefore, func_of}
use Rattle.rv_code.specs.layout.ProgramCode.{ProgramCode}
use Rattle.rv_code.proofs.lists.Blocks.{no_overlap}
use Rattle.edge_profile.specs.BlockPlaces.{AreBlocksApart, IsApart}

first_last : (code : ProgramCode) (b : Block) (found : Option Func) →
    IsSomeAnd found (λ func. IsBlockOf code func b.first b.last) → b.first ≤ b.last
first_last code b None is = absurd is
first_last code b (Some func) is = is.some

pub AreApart-blocks : (code : ProgramCode) (blocks : List Block) → AreBlocks code blocks → AreBlocksApart blocks
AreApart-blocks code blocks are = record {
  some = λ k d within. first_last code (get_or blocks k d) (func_of code.funcs (get_or blocks k d))
      (are.only (get_or blocks k d) (Contains-get_or blocks k d within));
  ordered = λ i j d less within.
      apart (get_or blocks i d) (get_or blocks j d) (are.only (get_or blocks i d) (Contains-get_or blocks i d (omega arith)))
      (are.only (get_or blocks j d) (Contains-get_or blocks j d within)) (are.ordered i j d less within);
}
  where
    apart : (b c : Block) → IsBlock code b → IsBlock code c → IsBefore b c → IsApart b c
    apart b c is other (inl less) = inl less
    apart b c is other (inr (same, less)) =
        inr (
          same,
          no_overlap code b c (func_of code.funcs b) less is
              (subst
              (λ (f : ℕ). IsSomeAnd (slice_get code.funcs f) (λ func. IsBlockOf code func c.first c.last)) (sym same) other),
        )

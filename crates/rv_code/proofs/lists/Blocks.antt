-- Blocks of a program.
use Rattle.std.proofs.Common.{◌<◌, ◌≤◌, List, Option, Some, None, length, get_or, All, ⊎_elim}
use Rattle.std.specs.Prelude.{IsSomeAnd}
use Rattle.std.proofs.lemmas.Bool.{cases_lt}
use Rattle.std.proofs.lemmas.List.Elements.{Contains-get_or}
use Rattle.rv_code.specs.declared.placed.Func.{Func}
use Rattle.rv_code.specs.declared.placed.Block.{Block}
use Rattle.rv_code.specs.layout.Blocks.{AreBlocks, IsBlockOf, func_of}
use Rattle.rv_code.specs.layout.FunctionMembers.{IsOfFunction}
use Rattle.rv_code.specs.layout.ProgramCode.{ProgramCode}

-- Each block is a range of its function's instructions.
pub blocks_of_functions : (code : ProgramCode) (blocks : List Block) → AreBlocks code blocks →
    All (IsOfFunction code.funcs) blocks
blocks_of_functions code blocks are k d within =
    at (func_of code.funcs b) (are.only b (Contains-get_or blocks k d within))
  where
    b : Block
    b = get_or blocks k d

    at : (found : Option Func) → IsSomeAnd found (λ func. IsBlockOf code func b.first b.last) →
        IsSomeAnd found (λ func. (b.first ≤ b.last) × (b.last < length func.insts.items))
    at None is = is
    at (Some func) is = (is.some, is.inside)

-- A later block of a function begins after the end of an earlier one.
pub no_overlap : (code : ProgramCode) (b c : Block) (found : Option Func) → b.first < c.first →
    IsSomeAnd found (λ func. IsBlockOf code func b.first b.last) → IsSomeAnd found (λ func. IsBlockOf code func c.first c.last) →
    b.last < c.first
no_overlap code b c None less is other = absurd is
no_overlap code b c (Some func) less is other = ⊎_elim
    (λ (apart : b.last < c.first). apart)
    (λ (inside : c.first ≤ b.last). absurd (is.no_other c.first less inside other.begins))
    (cases_lt b.last c.first)

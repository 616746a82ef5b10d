-- What is asked of blocks is the same over two lists of functions with the same addresses and instructions.
use Rattle.std.proofs.Common.{◌≡◌, ◌<◌, ◌⊎◌, ◌∙◌, sym, ap, subst, ℕ, ◌+◌, ◌-◌, arith, inl, inr, List, Option, Some, None}
use Rattle.std.proofs.Common.{length, map, take, drop, if◌then◌else◌}
use Rattle.std.specs.Prelude.{◌==◌, Any, IsSomeAnd, slice_get, sum_by}
use Rattle.std.specs.Option.{option_map_or}
use Rattle.rv_code.specs.declared.placed.Block.{Block}
use Rattle.rv_code.specs.declared.placed.Func.{Func}
use Rattle.rv_code.specs.declared.placed.Placed.{Placed}
use Rattle.rv_code.specs.layout.Blocks.{AreBlocks, Begins, EndsBlock, IsBefore, IsBlock, IsBlockOf, after_end, at_start}
use Rattle.rv_code.specs.layout.Blocks.{inst_address, named}
use Rattle.rv_code.specs.layout.Flow.{action_at, falls, target_of}
use Rattle.rv_code.specs.layout.ProgramCode.{CellNames, IsHeld, IsTarget, ProgramCode, RoleNames, by_cell, by_entry, by_role}
use Rattle.rv_code.specs.layout.WorstSizes.{worst_length, worst_size_of_block}
use Rattle.refusal_laws.proofs.OneOrder.{one_listing}
use Rattle.refusal_laws.proofs.SameFunctions.{View, carry_some, same_at, same_insts, view}

abbrev added : List Placed → ℕ → ℕ
added insts i = option_map_or (λ p. if falls (action_at p) (i + 1 == length insts) then 4 else 0) (slice_get insts i) 0

abbrev size_of_view : Block → View → ℕ
size_of_view b v =
    if v.2 then v.1 - v.0 + added v.3 (length v.3 - 1)
    else sum_by worst_length (take (b.last + 1 - b.first) (drop b.first v.3)) + added v.3 b.last

module _ (fs gs : List Func) (same : map view fs ≡ map view gs) where
  pub same_worst : (b : Block) → worst_size_of_block fs b ≡ worst_size_of_block gs b
  same_worst b = same_at view fs gs same (size_of_view b) 0 b.func

  pub same_address : (b : Block) (i : ℕ) → inst_address fs b i ≡ inst_address gs b i
  same_address b i =
      same_at view fs gs same (λ (v : View). option_map_or (λ (p : Placed). p.addr) (slice_get v.3 i) 0) 0 b.func

-- Blocks.

-- code with the same functions, wherever their instructions are kept
pub record IsSameCode (c d : ProgramCode) : Type 0 where
  pub funcs : map view c.funcs ≡ map view d.funcs
  pub roles : c.roles ≡ d.roles
  pub cells : c.cells ≡ d.cells
  pub entry : c.entry ≡ d.entry

abbrev pub turned : (c d : ProgramCode) → IsSameCode c d → IsSameCode d c
turned c d s = record { funcs = sym s.funcs; roles = sym s.roles; cells = sym s.cells; entry = sym s.entry }

module _ (c d : ProgramCode) (s : IsSameCode c d) where
  is_held : (a : ℕ) → IsHeld c a → IsHeld d a
  is_held a (by_role has) = by_role (subst (λ rs. Any (λ r. RoleNames r.1 a) rs) s.roles has)
  is_held a (by_cell has) = by_cell (subst (λ cs. Any (λ k. CellNames k a) cs) s.cells has)
  is_held a (by_entry is) = by_entry (sym s.entry ∙ is)

  is_named : (p : Placed) → IsTarget c.funcs p.addr ⊎ IsHeld c p.addr → IsTarget d.funcs p.addr ⊎ IsHeld d p.addr
  is_named p (inl goes) =
      inl (subst (λ (ps : List Placed). Any (λ (q : Placed). target_of q ≡ Some p.addr) ps) (same_insts c.funcs d.funcs s.funcs) goes)
  is_named p (inr held) = inr (is_held p.addr held)

  some_inst : (o : Option Placed) → IsSomeAnd o (λ p. IsTarget c.funcs p.addr ⊎ IsHeld c p.addr) →
      IsSomeAnd o (λ p. IsTarget d.funcs p.addr ⊎ IsHeld d p.addr)
  some_inst None has = has
  some_inst (Some p) has = is_named p has

  begins : (f g : Func) → view f ≡ view g → (i : ℕ) → Begins c f i → Begins d g i
  begins f g is i (at_start first) = at_start first
  begins f g is i (named moves has) =
      named (sym (ap (λ (v : View). v.2) is) ∙ moves)
      (subst (λ (v : View). IsSomeAnd (slice_get v.3 i) (λ p. IsTarget d.funcs p.addr ⊎ IsHeld d p.addr)) is
      (some_inst (slice_get f.insts.items i) has))
  begins f g is i (after_end moves j next ends) =
      after_end (sym (ap (λ (v : View). v.2) is) ∙ moves) j next
      (subst (λ (v : View). IsSomeAnd (slice_get v.3 j) EndsBlock) is ends)

module _ (c d : ProgramCode) (s : IsSameCode c d) where
  ending : (f g : Func) → view f ≡ view g → (n : ℕ) → (n ≡ length f.insts.items) ⊎ Begins c f n →
      (n ≡ length g.insts.items) ⊎ Begins d g n
  ending f g is n (inl last) = inl (last ∙ ap (λ (v : View). length v.3) is)
  ending f g is n (inr more) = inr (begins c d s f g is n more)

  block_of : (first last : ℕ) (f g : Func) → view f ≡ view g → IsBlockOf c f first last → IsBlockOf d g first last
  block_of first last f g is b = record {
    begins = begins c d s f g is first b.begins;
    some = b.some;
    inside = subst (λ (v : View). last < length v.3) is b.inside;
    no_other = λ i after within more. b.no_other i after within (begins d c (turned c d s) g f (sym is) i more);
    ends = ending f g is (last + 1) b.ends;
  }

  pub block : (b : Block) → IsBlock c b → IsBlock d b
  block b =
      carry_some view (λ f. IsBlockOf c f b.first b.last) (λ g. IsBlockOf d g b.first b.last) (block_of b.first b.last)
      c.funcs d.funcs s.funcs b.func

before_strict : (b k : Block) → IsBefore b k → IsBefore k b → ⊥
before_strict b k (inl less) (inl more) = absurd (omega (arith, less, more))
before_strict b k (inl less) (inr (same, more)) = absurd (omega (arith, less, same))
before_strict b k (inr (same, less)) (inl more) = absurd (omega (arith, same, more))
before_strict b k (inr (same, less)) (inr (same', more)) = absurd (omega (arith, less, more))

-- there is one list of blocks
pub same_blocks : (c d : ProgramCode) → IsSameCode c d → (xs ys : List Block) → AreBlocks c xs → AreBlocks d ys → xs ≡ ys
same_blocks c d s xs ys are are' =
    one_listing IsBefore before_strict (IsBlock c) xs ys are (record {
      only = λ b is_in. block d c (turned c d s) b (are'.only b is_in);
      each = λ b is. are'.each b (block c d s b is);
      ordered = are'.ordered;
    })

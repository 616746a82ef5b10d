-- Blocks to which code leads are near each other, if blocks of tied functions are.
use Rattle.std.proofs.Common.{◌≡◌, ◌∙◌, refl, sym, subst, ℕ, ◌+◌, Option, Some, None, Bool, true, false, List, inl, inr, ◌⊎◌, cond}
use Rattle.std.specs.Prelude.{◌&&◌, Any, IsSomeAnd, slice_get, slice_index, option_and_then}
use Rattle.std.proofs.lemmas.Option.{slice_get_within, get_or_from_slice_get}
use Rattle.rv_code.specs.declared.placed.Block.{Block}
use Rattle.rv_code.specs.layout.Blocks.{AreBlocks}
use Rattle.rv_code.specs.layout.Flow.{falls_at, target_of}
use Rattle.rv_code.specs.layout.FunctionLists.{AreLaidOut}
use Rattle.rv_code.specs.layout.ProgramCode.{ProgramCode, is_code_address}
use Rattle.rv_code.specs.layout.BlockOrders.{func_of_block}
use Rattle.rv_code.specs.layout.FunctionMembers.{function_at}
use Rattle.branch_fixup.specs.Inputs as fixup
use Rattle.branch_fixup.specs.Strips.{Strip, insts_in}
use Rattle.branch_fixup.proofs.Covered.{block_of}
use Rattle.branch_fixup.proofs.Planned.{StripOf, in_block, strip_for}
use Rattle.func_place.specs.Nearness.{AreTiedNear}
use Rattle.func_place.specs.Units.{LeadsInto, backward, falls_into, itself, jumps, onward}
use Rattle.func_place.proofs.TiedBlocks.{function_at-inst}

fall_parts : (u v : Bool) (e a : ℕ) → cond (u && v) (Some e) None ≡ Some a → (u ≡ true) × (e ≡ a)
fall_parts true true e a h = (refl, (let same : Some e ≡ Some a = h in cc))
fall_parts true false e a h = absurd (cc)
fall_parts false v e a h = absurd (cc)

module _ (code : ProgramCode) (blocks : List Block) (are : AreBlocks code blocks) (laid : AreLaidOut code.funcs)
    (order : List ℕ) where
  -- the block with index k of the order
  record Stands (k : ℕ) (P : Block → Type 0) : Type 0 where
    pub m : ℕ
    pub b : Block
    pub place : slice_get order k ≡ Some m
    pub block : slice_get blocks m ≡ Some b
    pub has : P b

  stands : (k : ℕ) (P : Block → Type 0) → IsSomeAnd (fixup.block_in blocks order k) P → Stands k P
  stands k P h = by (slice_get order k) refl h
    where
      at : (m : ℕ) → slice_get order k ≡ Some m → (o : Option Block) → slice_get blocks m ≡ o → IsSomeAnd o P → Stands k P
      at m e None f x = absurd x
      at m e (Some b) f x = record { m = m; b = b; place = e; block = f; has = x }

      by : (o : Option ℕ) → slice_get order k ≡ o → IsSomeAnd (option_and_then (λ m. slice_get blocks m) o) P → Stands k P
      by None e x = absurd x
      by (Some m) e x = at m e (slice_get blocks m) refl x

  owner_is : (k m : ℕ) (b : Block) → slice_get order k ≡ Some m → slice_get blocks m ≡ Some b → func_of_block blocks
      (slice_index order k) ≡ b.func
  owner_is k m b place block =
      let e : slice_index order k ≡ m = get_or_from_slice_get order k m 0 place in
      rw (e, block) refl

  leads_into : (b c : Block) (s t : Strip) (x : StripOf code b s) (y : StripOf code c t) (a : ℕ) →
      (s.fall ≡ Some a) ⊎ Any (λ p. target_of p ≡ Some a) (insts_in s) → Any (λ p. p.addr ≡ a) (insts_in t) →
      LeadsInto code.funcs b.func c.func
  leads_into b c s t x y a leads (k, q, within, is, here) = by leads
    where
      into : function_at code.funcs a ≡ Some c.func
      into =
          let i = in_block code c t y q (k, within, is) in
          subst (λ (z : ℕ). function_at code.funcs z ≡ Some c.func) here
          (function_at-inst code.funcs c.func i.i y.func q laid y.at i.at)

      by : (s.fall ≡ Some a) ⊎ Any (λ p. target_of p ≡ Some a) (insts_in s) → LeadsInto code.funcs b.func c.func
      by (inl falls) =
          let parts = fall_parts (falls_at x.func b.last s.last) (is_code_address code.funcs (s.last.addr + s.last.len))
          (s.last.addr + s.last.len) a (sym x.fall_is ∙ falls) in
          record {
            func = x.func;
            is_func = x.at;
            at = b.last;
            inst = s.last;
            is_inst = x.last_at;
            to = a;
            leads = falls_into parts.0 parts.1;
            into = into;
          }
      by (inr (j, p, inside, same, goes)) =
          let i = in_block code b s x p (j, inside, same) in
          record {
            func = x.func;
            is_func = x.at;
            at = i.i;
            inst = p;
            is_inst = i.at;
            to = a;
            leads = jumps goes;
            into = into;
          }

  between : (i j a : ℕ) (b : Stands i (λ b. fixup.BlockLeads code.funcs b a))
      (c : Stands j (λ c. fixup.BlockHolds code.funcs c a)) →
      LeadsInto code.funcs (func_of_block blocks (slice_index order i)) (func_of_block blocks (slice_index order j))
  between i j a b c =
      let (s, x) = strip_for code b.b (block_of code blocks b.m b.b are b.block) in
      let (t, y) = strip_for code c.b (block_of code blocks c.m c.b are c.block) in
      let leads : (s.fall ≡ Some a) ⊎ Any (λ p. target_of p ≡ Some a) (insts_in s) =
      subst (λ (o : Option Strip). IsSomeAnd o (λ s. (s.fall ≡ Some a) ⊎ Any (λ p. target_of p ≡ Some a) (insts_in s)))
      x.strip_is b.has in
      let holds : Any (λ p. p.addr ≡ a) (insts_in t) =
      subst (λ (o : Option Strip). IsSomeAnd o (λ t. Any (λ p. p.addr ≡ a) (insts_in t))) y.strip_is c.has in
      subst (λ (f : ℕ). LeadsInto code.funcs f (func_of_block blocks (slice_index order j)))
      (sym (owner_is i b.m b.b b.place b.block))
      (subst (λ (g : ℕ). LeadsInto code.funcs (b.b).func g) (sym (owner_is j c.m c.b c.place c.block))
      (leads_into b.b c.b s t x y a leads holds))

  pub near_blocks : AreTiedNear code.funcs blocks order → fixup.AreNear code.funcs blocks order
  near_blocks near = record {
    ahead = λ i j a upto x y.
        let b = stands i (λ b. fixup.BlockLeads code.funcs b a) x in
        let c = stands j (λ c. fixup.BlockHolds code.funcs c a) y in
        near i j upto (slice_get_within order j c.m c.place) (onward itself (between i j a b c));
    back = λ i j a upto x y.
        let b = stands i (λ b. fixup.BlockLeads code.funcs b a) x in
        let c = stands j (λ c. fixup.BlockHolds code.funcs c a) y in
        near j i upto (slice_get_within order i b.m b.place) (backward itself (between i j a b c));
  }

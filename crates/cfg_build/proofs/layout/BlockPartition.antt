-- The blocks of a function partition its instructions: each instruction is in one block, and each block except the last
-- is followed by the block that starts with the next instruction.
use Rattle.std.proofs.Common.{◌≡◌, ◌∙◌, sym, subst, ap, refl, ℕ, zero, suc, ◌+◌, ◌-◌, ◌<◌, ◌≤◌, ◌⊎◌, inl, inr, ⊎_elim, true, List}
use Rattle.std.proofs.Common.{[], ◌∷◌, Some, length, slice_index_or, arith}
use Rattle.std.specs.Prelude.{Contains, slice_get}
use Rattle.std.proofs.lemmas.Bool.{cases_eq, cases_lt, cases_order}
use Rattle.std.proofs.lemmas.List.Elements.{Contains-get_or}
use Rattle.std.proofs.lemmas.Option.{get_or_from_slice_get, same_Some, slice_get-get_or, slice_get_within}
use Rattle.rv_code.specs.declared.placed.Func.{Func}
use Rattle.rv_code.specs.declared.placed.Block.{Block}
use Rattle.rv_code.specs.layout.Blocks.{func_of, Begins, at_start, named, after_end, IsBlockOf, IsBlock, IsBefore, AreBlocks}
use Rattle.rv_code.specs.layout.ProgramCode.{ProgramCode}
use Rattle.cfg_build.specs.EdgeLists.{AreStretches}
use Rattle.rb_bytes.proofs.Options.{of_some, some_and, the_some}
use Rattle.cfg_build.proofs.PushedBlocks.{block_of}

-- A block of the list contains the i-th instruction of the function with index f.
pub record BlockWith (blocks : List Block) (f i : ℕ) : Type 0 where
  pub place : ℕ
  pub block : Block
  pub block_is : slice_get blocks place ≡ Some block
  pub of : block.func ≡ f
  pub from : block.first ≤ i
  pub to : i ≤ block.last

-- The block after another one in its function.
pub record NextBlock (blocks : List Block) (k : ℕ) (b : Block) : Type 0 where
  pub block : Block
  pub block_is : slice_get blocks (k + 1) ≡ Some block
  pub one_function : block.func ≡ b.func
  pub begins : block.first ≡ b.last + 1

contains_block : (blocks : List Block) (k : ℕ) (b : Block) → slice_get blocks k ≡ Some b → Contains blocks b
contains_block blocks k b at = (k, slice_get_within blocks k b at, get_or_from_slice_get blocks k b b at)

-- Searches in a list.

has_inst : (b : Block) (f i : ℕ) → ((b.func ≡ f) × (b.first ≤ i) × (i ≤ b.last)) ⊎ ((b.func ≡ f) × (b.first ≤ i)
    × (i ≤ b.last) → ⊥)
has_inst b f i = ⊎_elim
    (λ (same : b.func ≡ f). ⊎_elim
    (λ (above : i < b.first). inr (λ (of, from, to). omega arith))
    (λ (from : b.first ≤ i). ⊎_elim
    (λ (past : b.last < i). inr (λ (of, from', to). omega arith))
    (λ (to : i ≤ b.last). inl (same, from, to))
    (cases_lt b.last i))
    (cases_lt i b.first))
    (λ (other : b.func ≡ f → ⊥). inr (λ (of, from, to). other of))
    (cases_eq b.func f)

search_block : (blocks : List Block) (f i : ℕ) →
    BlockWith blocks f i ⊎ ((b : Block) → Contains blocks b → b.func ≡ f → b.first ≤ i → i ≤ b.last → ⊥)
search_block [] f i = inr (λ b (k, within, is) of from to. absurd (omega arith))
search_block (b ∷ bs) f i = ⊎_elim
    (λ (of, from, to). inl (record { place = 0; block = b; block_is = refl; of = of; from = from; to = to }))
    (λ (not_here : (b.func ≡ f) × (b.first ≤ i) × (i ≤ b.last) → ⊥). ⊎_elim
    (λ (later : BlockWith bs f i). inl (record {
      place = suc later.place;
      block = later.block;
      block_is = later.block_is;
      of = later.of;
      from = later.from;
      to = later.to;
    }))
    (λ (nowhere : (c : Block) → Contains bs c → c.func ≡ f → c.first ≤ i → i ≤ c.last → ⊥). inr (none not_here nowhere))
    (search_block bs f i))
    (has_inst b f i)
  where
    none : ((b.func ≡ f) × (b.first ≤ i) × (i ≤ b.last) → ⊥) →
        ((c : Block) → Contains bs c → c.func ≡ f → c.first ≤ i → i ≤ c.last → ⊥) →
        (c : Block) → Contains (b ∷ bs) c → c.func ≡ f → c.first ≤ i → i ≤ c.last → ⊥
    none not_here nowhere c (zero, within, is) of from to =
        not_here (subst (λ (x : Block). (x.func ≡ f) × (x.first ≤ i) × (i ≤ x.last)) (sym is) (of, from, to))
    none not_here nowhere c (suc k, within, is) of from to = nowhere c (k, omega arith, is) of from to

module _ (code : ProgramCode) (blocks : List Block) (are : AreBlocks code blocks) where
  pub block_at : (k : ℕ) (b : Block) → slice_get blocks k ≡ Some b → IsBlock code b
  block_at k b at = are.only b (contains_block blocks k b at)

  -- The precondition of `edges` on blocks.
  pub AreStretches-blocks : AreStretches code.funcs blocks
  AreStretches-blocks = record {
    each = λ k d within.
        let b = slice_index_or blocks k d in
        let (func, func_is, is) =
        the_some (λ func. IsBlockOf code func b.first b.last) (func_of code.funcs b) (are.only b
        (Contains-get_or blocks k d within)) in
        some_and (λ func. (b.first ≤ b.last) × (b.last < length func.insts.items)) (func_of code.funcs b) func func_is
        (is.some, is.inside);
    ordered = are.ordered;
  }

  pub in_order : (k l : ℕ) (b c : Block) → slice_get blocks k ≡ Some b → slice_get blocks l ≡ Some c → k < l → IsBefore b c
  in_order k l b c at at' less =
      let h = are.ordered k l b less (slice_get_within blocks l c at') in
      let e : slice_index_or blocks k b ≡ b = get_or_from_slice_get blocks k b b at in
      let e' : slice_index_or blocks l b ≡ c = get_or_from_slice_get blocks l c b at' in
      subst (IsBefore b) e' (subst (λ (x : Block). IsBefore x (slice_index_or blocks l b)) e h)

  module _ (f : ℕ) (func : Func) (found : slice_get code.funcs f ≡ Some func) where
    -- A block of the function.
    pub block_of_func : (k : ℕ) (b : Block) → slice_get blocks k ≡ Some b → b.func ≡ f → IsBlockOf code func b.first b.last
    block_of_func k b at of =
        of_some (λ func. IsBlockOf code func b.first b.last) (func_of code.funcs b) func (ap (slice_get code.funcs) of ∙ found)
        (block_at k b at)

    -- Two blocks with a common instruction are the same.
    pub same_block : (k l i : ℕ) (b c : Block) → slice_get blocks k ≡ Some b → slice_get blocks l ≡ Some c → b.func ≡ f →
        c.func ≡ f →
        b.first ≤ i → i ≤ b.last → c.first ≤ i → i ≤ c.last → k ≡ l
    same_block k l i b c at at' of of' from to from' to' =
        elim (cases_order k l) [
          | inl same ↦ same
          | inr apart ↦ elim apart [
            | inl less ↦ absurd (⊎_elim
                (λ (lower : b.func < c.func). omega arith)
                (λ (same, below). (block_of_func k b at of).no_other c.first below (omega arith)
                (block_of_func l c at' of').begins)
                (in_order k l b c at at' less))
            | inr more ↦ absurd (⊎_elim
                (λ (lower : c.func < b.func). omega arith)
                (λ (same, below). (block_of_func l c at' of').no_other b.first below (omega arith)
                (block_of_func k b at of).begins)
                (in_order l k c b at' at more))
          ]
        ]

    -- Each instruction of the function is in a block.
    module _ (i : ℕ) (none : (b : Block) → Contains blocks b → b.func ≡ f → b.first ≤ i → i ≤ b.last → ⊥) where
      no_block : (first last : ℕ) → IsBlockOf code func first last → first ≤ i → i ≤ last → ⊥
      no_block first last is from to =
          none (block_of f first last)
          (are.each (block_of f first last) (some_and (λ func. IsBlockOf code func first last)
          (slice_get code.funcs f) func found is))
          refl from to

      up : (n last first : ℕ) → last + suc n ≡ length func.insts.items → first ≤ i → i ≤ last → Begins code func first →
          ((m : ℕ) → first < m → m ≤ last → Begins code func m → ⊥) → ⊥
      up zero last first all from to begins inner =
          no_block first last
          (record {
            begins = begins;
            some = omega arith;
            inside = omega arith;
            no_other = inner;
            ends = inl (omega arith);
          }) from to
      up (suc n) last first all from to begins inner =
          up n (last + 1) first (omega arith) from (omega arith) begins (λ m above upto begins'. ⊎_elim
          (λ (early : m < last + 1). inner m above (omega arith) begins')
          (λ (late : last + 1 ≤ m).
          let e : m ≡ last + 1 = omega arith in
          no_block first last (record {
            begins = begins;
            some = omega arith;
            inside = omega arith;
            no_other = inner;
            ends = inr (subst (Begins code func) e begins');
          }) from to)
          (cases_lt m (last + 1)))

      down : (first : ℕ) → i < length func.insts.items → first ≤ i →
          ((m : ℕ) → first < m → m ≤ i → Begins code func m → ⊥) → ⊥
      down zero inside from inner =
          up (length func.insts.items - 1 - i) i 0 (omega arith) from (omega arith) (at_start refl) inner
      down (suc first) inside from inner = down first inside (omega arith) (λ m above upto begins. ⊎_elim
          (λ (later : suc first < m). inner m later upto begins)
          (λ (here : m ≤ suc first).
          let e : m ≡ suc first = omega arith in
          up (length func.insts.items - 1 - i) i (suc first) (omega arith) from (omega arith) (subst
          (Begins code func) e begins) inner)
          (cases_lt (suc first) m))

    pub block_with : (i : ℕ) → i < length func.insts.items → BlockWith blocks f i
    block_with i inside = ⊎_elim
        (λ (has : BlockWith blocks f i). has)
        (λ none. absurd (down i none i inside (omega arith) (λ m above upto begins. omega arith)))
        (search_block blocks f i)

    -- A whole function is a single block.
    pub whole_block : (k : ℕ) (b : Block) → slice_get blocks k ≡ Some b → b.func ≡ f → func.whole ≡ true →
        (b.first ≡ 0) × (b.last + 1 ≡ length func.insts.items)
    whole_block k b at of whole =
        let is = block_of_func k b at of in (
          only_start b.first is.begins,
          ⊎_elim (λ last. last) (λ begins. absurd (let zero = only_start
              (b.last + 1) begins in omega arith)) is.ends,
        )
      where
        only_start : (i : ℕ) → Begins code func i → i ≡ 0
        only_start i (at_start is) = is
        only_start i (named not_whole some) = absurd (cc)
        only_start i (after_end not_whole j is some) = absurd (cc)

    -- A block that doesn't end its function is followed by the block that starts with the next instruction.
    pub next_block : (k : ℕ) (b : Block) → slice_get blocks k ≡ Some b → b.func ≡ f → b.last + 1 < length func.insts.items →
        NextBlock blocks k b
    next_block k b at of more = record {
      block = w.block;
      block_is = subst (λ (l : ℕ). slice_get blocks l ≡ Some w.block) place_is w.block_is;
      one_function = w.of ∙ sym of;
      begins = begins;
    }
      where
        w : BlockWith blocks f (b.last + 1)
        w = block_with (b.last + 1) more

        is : IsBlockOf code func b.first b.last
        is = block_of_func k b at of

        other : k ≡ w.place → ⊥
        other same =
            let e : b ≡ w.block = same_Some b w.block (sym at ∙ ap (slice_get blocks) same ∙ w.block_is) in
            let last = ap (λ (x : Block). x.last) e in
            let to = w.to in
            omega arith

        begins : w.block.first ≡ b.last + 1
        begins = ⊎_elim
            (λ (early : w.block.first < b.last + 1).
            let to = w.to in
            absurd (other (same_block k w.place b.last b w.block at w.block_is of w.of is.some (omega arith) (omega arith)
            (omega arith))))
            (λ (late : b.last + 1 ≤ w.block.first). let from = w.from in omega arith)
            (cases_lt w.block.first (b.last + 1))

        between : (d : Block) → slice_get blocks (k + 1) ≡ Some d → k + 1 < w.place → ⊥
        between d at' less = ⊎_elim
            (λ (lower : b.func < d.func). ⊎_elim
            (λ (lower' : d.func < w.block.func). let of' = w.of in omega arith)
            (λ (same, below). let of' = w.of in omega arith)
            (in_order (k + 1) w.place d w.block at' w.block_is less))
            (λ (same, below). ⊎_elim
            (λ (lower' : d.func < w.block.func). let of' = w.of in omega arith)
            (λ (same', below').
            let e = begins in
            is.no_other d.first below (omega arith) (block_of_func (k + 1) d at' (sym same ∙ of)).begins)
            (in_order (k + 1) w.place d w.block at' w.block_is less))
            (in_order k (k + 1) b d at at' (omega arith))

        place_is : w.place ≡ k + 1
        place_is = elim (cases_order w.place (k + 1)) [
          | inl same ↦ same
          | inr apart ↦ elim apart [
            | inl less ↦ absurd (⊎_elim
                (λ (earlier : w.place < k). ⊎_elim
                (λ (lower : w.block.func < b.func). let of' = w.of in omega arith)
                (λ (same, below). let e = begins in let some = is.some in omega arith)
                (in_order w.place k w.block b w.block_is at earlier))
                (λ (not_earlier : k ≤ w.place). other (omega arith))
                (cases_lt w.place k))
            | inr more ↦ absurd (
                let within = slice_get_within blocks w.place w.block w.block_is in
                between (slice_index_or blocks (k + 1) b) (slice_get-get_or blocks (k + 1) b (omega arith)) more)
          ]
        ]

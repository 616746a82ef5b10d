-- Each instruction of a function is in exactly one block.
use Rattle.std.proofs.Common.{◌≡◌, ℕ, zero, suc, ◌+◌, ◌-◌, ◌<◌, ◌≤◌, List, length, Option, Some, None, Bool, true, false, refl}
use Rattle.std.proofs.Common.{sym, ap, ◌∙◌, subst, arith, inl, inr, ◌⊎◌}
use Rattle.std.specs.Prelude.{slice_get, slice_index_or, IsSomeAnd, ◌==◌, ◌&&◌, nat_le}
use Rattle.std.proofs.lemmas.Bool.{cases_lt, eq-eqb, eqb-true, and_parts, and_from, leb-true, le-leb}
use Rattle.std.proofs.lemmas.Option.{slice_get_within, get_or_from_slice_get, same_Some}
use Rattle.rb_bytes.proofs.ListLemmas.{contains_at}
use Rattle.rv_code.specs.declared.placed.Func.{Func}
use Rattle.rv_code.specs.declared.placed.Block.{Block}
use Rattle.rv_code.specs.layout.ProgramCode.{ProgramCode}
use Rattle.rv_code.specs.layout.Blocks.{Begins, at_start, IsBlockOf, IsBlock, IsBefore, AreBlocks}
use Rattle.branch_fixup.proofs.Lists.{look}
use Rattle.rv_code.proofs.lists.Follows.{at_contains}

-- a block of a list, with its function
pub record BlockOf (code : ProgramCode) (b : Block) : Type 0 where
  pub func : Func
  pub at : slice_get code.funcs b.func ≡ Some func
  pub is : IsBlockOf code func b.first b.last

of_block : (code : ProgramCode) (b : Block) → IsBlock code b → BlockOf code b
of_block code b h = by (slice_get code.funcs b.func) refl h
  where
    by : (o : Option Func) → slice_get code.funcs b.func ≡ o → IsSomeAnd o
        (λ func. IsBlockOf code func b.first b.last) → BlockOf code b
    by None e h = absurd h
    by (Some func) e h = record { func = func; at = e; is = h }

pub block_of : (code : ProgramCode) (blocks : List Block) (m : ℕ) (b : Block) → AreBlocks code blocks →
    slice_get blocks m ≡ Some b → BlockOf code b
block_of code blocks m b are at = of_block code b (are.only b (at_contains blocks m b at))

-- the block of a list that contains the instruction with index i of a function
pub record Covers (blocks : List Block) (f i : ℕ) : Type 0 where
  pub m : ℕ
  pub b : Block
  pub at : slice_get blocks m ≡ Some b
  pub func : b.func ≡ f
  pub low : b.first ≤ i
  pub high : i ≤ b.last

abbrev has : ℕ → ℕ → Block → Bool
has f i b = b.func == f && (nat_le b.first i && nat_le i b.last)

module _ (code : ProgramCode) (blocks : List Block) (are : AreBlocks code blocks) (f i : ℕ) (func : Func)
    (at : slice_get code.funcs f ≡ Some func) (within : i < length func.insts.items)
    (none : (m : ℕ) (b : Block) → slice_get blocks m ≡ Some b → has f i b ≡ false) where
  no_block : (first last : ℕ) → IsBlockOf code func first last → first ≤ i → i ≤ last → ⊥
  no_block first last is low high =
      let b : Block = record { func = f; first = first; last = last } in
      let block : IsBlock code b = rw at is in
      let (m, there) = contains_at blocks b (are.each b block) in
      let yes : has f i b ≡ true = and_from (f == f) (nat_le first i && nat_le i last) (eq-eqb f f refl)
      (and_from (nat_le first i) (nat_le i last) (le-leb first i low) (le-leb i last high)) in
      let no = none m b there in
      let c : true ≡ false = sym yes ∙ no in
      absurd (cc)

  -- from the last beginning of a block up to the next one, or to the function's end
  up : (n m j : ℕ) → m + suc n ≡ length func.insts.items → j ≤ i → i ≤ m → Begins code func j →
      ((x : ℕ) → j < x → x ≤ m → Begins code func x → ⊥) → ⊥
  up zero m j sum low high begins other =
      no_block j m (record {
        begins = begins;
        some = omega (arith, low, high);
        inside = omega (arith, sum);
        no_other = other;
        ends = inl (omega (arith, sum));
      }) low high
  up (suc n) m j sum low high begins other = up n (suc m) j (omega (arith, sum)) low (omega (arith, high)) begins more
    where
      more : (x : ℕ) → j < x → x ≤ suc m → Begins code func x → ⊥
      more x above upto bx = elim (cases_lt x (suc m)) [
        | inl less ↦ other x above (omega (arith, less)) bx
        | inr not_less ↦
            let e : x ≡ m + 1 = omega (arith, not_less, upto) in
            no_block j m (record {
              begins = begins;
              some = omega (arith, low, high);
              inside = omega (arith, sum);
              no_other = other;
              ends = inr (subst (λ (y : ℕ). Begins code func y) e bx);
            }) low high
      ]

  last_begin : (j : ℕ) → j ≤ i → Begins code func j → ((x : ℕ) → j < x → x ≤ i → Begins code func x → ⊥) → ⊥
  last_begin j low begins other = up (length func.insts.items - suc i) i j (omega (arith, within)) low (omega arith) begins other

  down : (j : ℕ) → j ≤ i → ((x : ℕ) → j < x → x ≤ i → Begins code func x → ⊥) → ⊥
  down zero low other = last_begin 0 low (at_start refl) other
  down (suc j) low other = down j (omega (arith, low)) more
    where
      more : (x : ℕ) → j < x → x ≤ i → Begins code func x → ⊥
      more x above upto bx = elim (cases_lt (suc j) x) [
        | inl less ↦ other x less upto bx
        | inr not_less ↦
            let e : x ≡ suc j = omega (arith, not_less, above) in
            last_begin (suc j) low (subst (λ (y : ℕ). Begins code func y) e bx) other
      ]

  no_none : ⊥
  no_none = down i (omega arith) (λ x above upto bx. absurd (omega (arith, above, upto)))

pub covers : (code : ProgramCode) (blocks : List Block) → AreBlocks code blocks → (f i : ℕ) (func : Func) →
    slice_get code.funcs f ≡ Some func → i < length func.insts.items → Covers blocks f i
covers code blocks are f i func at within = elim (look (has f i) blocks) [
  | inl r ↦
      let x = and_parts (r.x.func == f) (nat_le r.x.first i && nat_le i r.x.last) r.passes in
      let y = and_parts (nat_le r.x.first i) (nat_le i r.x.last) x.1 in
      record {
        m = r.k;
        b = r.x;
        at = r.at;
        func = eqb-true r.x.func f x.0;
        low = leb-true r.x.first i y.0;
        high = leb-true i r.x.last y.1;
      }
  | inr none ↦ absurd (no_none code blocks are f i func at within none)
]

-- of two blocks of one function, the one with the lower first instruction ends before the other begins
apart_in : (code : ProgramCode) (b c : Block) (x : BlockOf code b) (y : BlockOf code c) → b.func ≡ c.func →
    b.first < c.first → b.last < c.first
apart_in code b c x y e less = elim (cases_lt b.last c.first) [
  | inl fine ↦ fine
  | inr not_less ↦
      let same : y.func ≡ x.func = same_Some y.func x.func (sym y.at ∙ ap (slice_get code.funcs) (sym e) ∙ x.at) in
      absurd (x.is.no_other c.first less not_less (subst (λ (z : Func). Begins code z c.first) same y.is.begins))
]

-- blocks with different indices in the list
pub blocks_apart : (code : ProgramCode) (blocks : List Block) (m n : ℕ) (b c : Block) → AreBlocks code blocks →
    slice_get blocks m ≡ Some b → slice_get blocks n ≡ Some c → m < n →
    (b.func < c.func) ⊎ ((b.func ≡ c.func) × (b.last < c.first))
blocks_apart code blocks m n b c are at_m at_n less =
    let h = are.ordered m n b less (slice_get_within blocks n c at_n) in
    let eb = get_or_from_slice_get blocks m b b at_m in
    let ec = get_or_from_slice_get blocks n c b at_n in
    let both : IsBefore b c = subst (λ (z : Block). IsBefore z c) eb (subst
    (λ (z : Block). IsBefore (slice_index_or blocks m b) z) ec h) in
    elim both [
      | inl func ↦ inl func
      | inr in_one ↦ inr (
        in_one.0,
        apart_in code b c (block_of code blocks m b are at_m)
            (block_of code blocks n c are at_n) in_one.0 in_one.1,
      )
    ]

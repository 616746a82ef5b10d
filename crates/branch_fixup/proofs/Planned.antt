-- The blocks of a plan, as strips.
use Rattle.std.proofs.Common.{◌≡◌, ℕ, zero, suc, ◌+◌, ◌-◌, ◌<◌, ◌≤◌, List, [], ◌∷◌, ◌++◌, length, Option, Some, Bool, true, false}
use Rattle.std.proofs.Common.{refl, sym, ap, ◌∙◌, subst, arith, inl, inr, take, drop}
use Rattle.std.specs.Prelude.{slice_get, Contains, option_and_then}
use Rattle.std.specs.List.{filter_map, cons_option}
use Rattle.std.proofs.lemmas.Option.{slice_get_within, same_Some}
use Rattle.rv_code.specs.declared.placed.Placed.{Placed}
use Rattle.rv_code.specs.declared.placed.Func.{Func}
use Rattle.rv_code.specs.declared.placed.Block.{Block}
use Rattle.rv_code.specs.layout.ProgramCode.{ProgramCode}
use Rattle.rv_code.specs.layout.Blocks.{IsBlockOf, AreBlocks, EndsBlock, after_end}
use Rattle.rv_code.specs.layout.FunctionLists.{Follow, HasLength, AreLaidOut}
use Rattle.rv_code.specs.layout.Flow.{action_at, is_branch, is_plain_jump}
use Rattle.rv_code.specs.layout.BlockOrders.{HasAllBlocks}
use Rattle.branch_fixup.specs.Endings.{fall_of}
use Rattle.branch_fixup.specs.Strips.{Strip, strip_of, strips_of, insts_in, first_in}
use Rattle.branch_fixup.proofs.Covered.{BlockOf, block_of}
use Rattle.rv_code.proofs.lists.Follows.{before_of, follow_drop, follow_take, laid_func, inst_length, at_contains}
use Rattle.branch_fixup.proofs.Lists.{at_drop, at_take, take_in, take_one_more}
use Rattle.branch_fixup.proofs.Orders.{order_within}
use Rattle.rb_bytes.proofs.ListLemmas.{slice_get_found, contains_at}

-- The strip of a block.

pub record StripOf (code : ProgramCode) (b : Block) (s : Strip) : Type 0 where
  pub func : Func
  pub at : slice_get code.funcs b.func ≡ Some func
  pub is : IsBlockOf code func b.first b.last
  pub last_at : slice_get func.insts.items b.last ≡ Some s.last
  pub inner_is : s.inner ≡ take (b.last - b.first) (drop b.first func.insts.items)
  pub whole_is : s.whole ≡ func.whole
  pub fall_is : s.fall ≡ fall_of code.funcs func b.last s.last
  pub strip_is : strip_of code.funcs b ≡ Some s

abbrev strip_in : List Func → Func → Block → Placed → Strip
strip_in funcs func b p = record {
  inner = take (b.last - b.first) (drop b.first func.insts.items);
  last = p;
  whole = func.whole;
  fall = fall_of funcs func b.last p;
}

strip_by : (funcs : List Func) (func : Func) (b : Block) (p : Placed) → slice_get funcs b.func ≡ Some func →
    slice_get func.insts.items b.last ≡ Some p → strip_of funcs b ≡ Some (strip_in funcs func b p)
strip_by funcs func b p at last = rw (at, last) refl

pub strip_for : (code : ProgramCode) (b : Block) → BlockOf code b → (s : Strip) × StripOf code b s
strip_for code b x =
    let (p, e) = slice_get_found x.func.insts.items b.last x.is.inside in (
      strip_in code.funcs x.func b p,
      record {
        func = x.func;
        at = x.at;
        is = x.is;
        last_at = e;
        inner_is = refl;
        whole_is = refl;
        fall_is = refl;
        strip_is = strip_by code.funcs x.func b p x.at e;
      },
    )

-- The instructions of a strip are the instructions of its block.

pub record InBlock (func : Func) (first last : ℕ) (p : Placed) : Type 0 where
  pub i : ℕ
  pub low : first ≤ i
  pub high : i ≤ last
  pub at : slice_get func.insts.items i ≡ Some p

pub insts_are : (code : ProgramCode) (b : Block) (s : Strip) (x : StripOf code b s) →
    insts_in s ≡ take (suc (b.last - b.first)) (drop b.first x.func.insts.items)
insts_are code b s x =
    let some = x.is.some in
    let last : slice_get (drop b.first x.func.insts.items) (b.last - b.first) ≡ Some s.last =
    at_drop b.first x.func.insts.items (b.last - b.first) b.last (omega (arith, some)) ∙ x.last_at in
    ap (λ (ps : List Placed). ps ++ s.last ∷ []) x.inner_is ∙ sym (take_one_more (b.last - b.first)
    (drop b.first x.func.insts.items) s.last last)

pub in_block : (code : ProgramCode) (b : Block) (s : Strip) (x : StripOf code b s) (p : Placed) →
    Contains (insts_in s) p → InBlock x.func b.first b.last p
in_block code b s x p c =
    let (k, at) = contains_at (take (suc (b.last - b.first)) (drop b.first x.func.insts.items)) p
    (subst (λ (ps : List Placed). Contains ps p) (insts_are code b s x) c) in
    let some = x.is.some in
    let less = take_in (suc (b.last - b.first)) (drop b.first x.func.insts.items) k p at in
    record {
      i = b.first + k;
      low = omega arith;
      high = omega (arith, less, some);
      at = sym (at_drop b.first x.func.insts.items k (b.first + k) refl)
          ∙ sym (at_take (suc (b.last - b.first)) (drop b.first x.func.insts.items) k less) ∙ at;
    }

pub block_in_insts : (code : ProgramCode) (b : Block) (s : Strip) (x : StripOf code b s) (p : Placed) (i : ℕ) →
    b.first ≤ i → i ≤ b.last → slice_get x.func.insts.items i ≡ Some p → Contains (insts_in s) p
block_in_insts code b s x p i low high at =
    let e : i ≡ b.first + (i - b.first) = omega (arith, low) in
    let less : i - b.first < suc (b.last - b.first) = omega (arith, low, high) in
    let here : slice_get (take (suc (b.last - b.first)) (drop b.first x.func.insts.items)) (i - b.first) ≡ Some p =
    at_take (suc (b.last - b.first)) (drop b.first x.func.insts.items) (i - b.first) less
    ∙ at_drop b.first x.func.insts.items (i - b.first) i e ∙ at in
    subst (λ (ps : List Placed). Contains ps p) (sym (insts_are code b s x))
    (at_contains (take (suc (b.last - b.first)) (drop b.first x.func.insts.items)) (i - b.first) p here)

-- No instruction before the last one ends a block, unless the function moves as one piece.

inner_at : (code : ProgramCode) (b : Block) (s : Strip) (x : StripOf code b s) (p : Placed) → Contains s.inner p →
    (i : ℕ) × (b.first ≤ i) × (i < b.last) × (slice_get x.func.insts.items i ≡ Some p)
inner_at code b s x p c =
    let n : ℕ = b.last - b.first in
    let (k, at) = contains_at (take n (drop b.first x.func.insts.items)) p
    (subst (λ (ps : List Placed). Contains ps p) x.inner_is c) in
    let less = take_in n (drop b.first x.func.insts.items) k p at in (
      b.first + k,
      omega arith,
      omega (arith, less),
      sym (at_drop b.first x.func.insts.items k (b.first + k) refl)
          ∙ sym (at_take n (drop b.first x.func.insts.items) k less) ∙ at,
    )

pub inner_goes_on : (code : ProgramCode) (b : Block) (s : Strip) (x : StripOf code b s) → s.whole ≡ false →
    (p : Placed) → Contains s.inner p → (is_branch (action_at p) ≡ false) × (is_plain_jump (action_at p) ≡ false)
inner_goes_on code b s x whole p c =
    let (i, low, high, at) = inner_at code b s x p c in
    (by_branch i low high at (is_branch (action_at p)) refl, by_jump i low high at (is_plain_jump (action_at p)) refl)
  where
    ends : (i : ℕ) → b.first ≤ i → i < b.last → slice_get x.func.insts.items i ≡ Some p → EndsBlock p → ⊥
    ends i low high at e = x.is.no_other (i + 1) (omega (arith, low)) (omega (arith, high))
        (after_end (sym x.whole_is ∙ whole) i refl (rw at e))

    by_branch : (i : ℕ) → b.first ≤ i → i < b.last → slice_get x.func.insts.items i ≡ Some p → (v : Bool) →
        is_branch (action_at p) ≡ v → v ≡ false
    by_branch i low high at true e = absurd (ends i low high at (inl e))
    by_branch i low high at false e = refl

    by_jump : (i : ℕ) → b.first ≤ i → i < b.last → slice_get x.func.insts.items i ≡ Some p → (v : Bool) →
        is_plain_jump (action_at p) ≡ v → v ≡ false
    by_jump i low high at true e = absurd (ends i low high at (inr e))
    by_jump i low high at false e = refl

-- The instructions follow one another without gaps.

first_addr : (a : ℕ) (inner : List Placed) (last : Placed) (end : ℕ) → Follow a (inner ++ last ∷ []) end → first_in inner last ≡ a
first_addr a [] last end h = h.0
first_addr a (p ∷ ps) last end h = h.0

last_end : (a : ℕ) (inner : List Placed) (last : Placed) (end : ℕ) → Follow a (inner ++ last ∷ []) end →
    last.addr + last.len ≡ end
last_end a [] last end h = let x = h.0 in let y = h.1 in omega (arith, x, y)
last_end a (p ∷ ps) last end h = last_end (a + p.len) ps last end h.1

pub strip_follows : (code : ProgramCode) (b : Block) (s : Strip) → AreLaidOut code.funcs → StripOf code b s →
    Follow (first_in s.inner s.last) (insts_in s) (s.last.addr + s.last.len)
strip_follows code b s laid x =
    let l = laid_func code.funcs b.func x.func laid x.at in
    let (a, dropped) = follow_drop b.first x.func.start x.func.insts.items x.func.end l.follow in
    let n : ℕ = suc (b.last - b.first) in
    let taken = follow_take n a (drop b.first x.func.insts.items) x.func.end dropped in
    let end : ℕ = a + before_of (take n (drop b.first x.func.insts.items)) in
    let h : Follow a (insts_in s) end = subst (λ (ps : List Placed). Follow a ps end) (sym (insts_are code b s x)) taken in
    subst (λ (e : ℕ). Follow (first_in s.inner s.last) (insts_in s) e) (sym (last_end a s.inner s.last end h))
    (subst (λ (z : ℕ). Follow z (insts_in s) end) (sym (first_addr a s.inner s.last end h)) h)

pub strip_length : (code : ProgramCode) (b : Block) (s : Strip) → AreLaidOut code.funcs → StripOf code b s →
    (p : Placed) → Contains (insts_in s) p → HasLength p
strip_length code b s laid x p c =
    let i = in_block code b s x p c in
    inst_length x.func i.i p (laid_func code.funcs b.func x.func laid x.at) i.at

-- The strips of a plan.

pub record Planned (code : ProgramCode) (blocks : List Block) (order : List ℕ) (k : ℕ) (s : Strip) : Type 0 where
  pub m : ℕ
  pub b : Block
  pub place : slice_get order k ≡ Some m
  pub block : slice_get blocks m ≡ Some b
  pub of : StripOf code b s

module _ (code : ProgramCode) (blocks : List Block) (are : AreBlocks code blocks) where
  abbrev strip_at : ℕ → Option Strip
  strip_at m = option_and_then (strip_of code.funcs) (slice_get blocks m)

  known : (m : ℕ) → m < length blocks → (b : Block) × (s : Strip) × (slice_get blocks m ≡ Some b) ×
      (strip_at m ≡ Some s) × StripOf code b s
  known m within =
      let (b, at) = slice_get_found blocks m within in
      let (s, x) = strip_for code b (block_of code blocks m b are at) in
      (b, s, at, rw at x.strip_is, x)

  strips_get : (order : List ℕ) → ((k m : ℕ) → slice_get order k ≡ Some m → m < length blocks) → (k m : ℕ) →
      slice_get order k ≡ Some m → slice_get (filter_map strip_at order) k ≡ strip_at m
  strips_get [] within k m at = absurd (cc)
  strips_get (n ∷ ns) within zero m at =
      let e : n ≡ m = cc in
      let (b, s, at_b, is, x) = known n (within 0 n refl) in
      subst (λ (o : Option Strip). slice_get (cons_option o (filter_map strip_at ns)) 0 ≡ strip_at m) (sym is)
      (sym is ∙ ap strip_at e)
  strips_get (n ∷ ns) within (suc k) m at =
      let (b, s, at_b, is, x) = known n (within 0 n refl) in
      subst (λ (o : Option Strip). slice_get (cons_option o (filter_map strip_at ns)) (suc k) ≡ strip_at m) (sym is)
      (strips_get ns (λ j l h. within (suc j) l h) k m at)

  strips_length : (order : List ℕ) → ((k m : ℕ) → slice_get order k ≡ Some m → m < length blocks) →
      length (filter_map strip_at order) ≡ length order
  strips_length [] within = refl
  strips_length (n ∷ ns) within =
      let (b, s, at_b, is, x) = known n (within 0 n refl) in
      subst (λ (o : Option Strip). length (cons_option o (filter_map strip_at ns)) ≡ suc (length ns)) (sym is)
      (ap suc (strips_length ns (λ j l h. within (suc j) l h)))

  module _ (order : List ℕ) (perm : HasAllBlocks blocks order) where
    pub planned_length : length (strips_of code.funcs blocks order) ≡ length order
    planned_length = strips_length order (order_within blocks order perm)

    pub planned_at : (k m : ℕ) → slice_get order k ≡ Some m → (s : Strip) ×
        (slice_get (strips_of code.funcs blocks order) k ≡ Some s) × Planned code blocks order k s
    planned_at k m at =
        let (b, s, at_b, is, x) = known m (order_within blocks order perm k m at) in (
          s,
          strips_get order (order_within blocks order perm) k m at ∙ is,
          record { m = m; b = b; place = at; block = at_b; of = x },
        )

    pub planned : (k : ℕ) (s : Strip) → slice_get (strips_of code.funcs blocks order) k ≡ Some s → Planned code blocks order k s
    planned k s at =
        let within = slice_get_within (strips_of code.funcs blocks order) k s at in
        let len = planned_length in
        let (m, place) = slice_get_found order k (omega (arith, within, len)) in
        let (t, at_t, x) = planned_at k m place in
        subst (λ (z : Strip). Planned code blocks order k z) (same_Some t s (sym at_t ∙ at)) x

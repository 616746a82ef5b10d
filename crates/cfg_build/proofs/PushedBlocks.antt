-- The blocks of a function, one by one.
use Rattle.std.proofs.Common.{◌≡◌, ◌∙◌, sym, subst, ap, refl, ℕ, ◌+◌, ◌<◌, ◌≤◌, ◌⊎◌, inl, inr, ⊎_elim, true, false, Bool, List}
use Rattle.std.proofs.Common.{[], ◌∷◌, ◌++◌, Option, Some, None, length, slice_index_or, arith}
use Rattle.std.specs.Prelude.{◌↔◌, Contains, AllPairs, IsTrue, IsSomeAnd, slice_get}
use Rattle.std.proofs.lemmas.Bool.{cases_lt}
use Rattle.std.proofs.lemmas.List.Elements.{Contains-append_left, Contains-push, Contains-push_cases, Contains-get_or}
use Rattle.std.proofs.lemmas.List.Quantifiers.{all_pairs_push}
use Rattle.std.proofs.lemmas.Option.{slice_get_within}
use Rattle.rv_code.specs.declared.placed.Placed.{Placed}
use Rattle.rv_code.specs.declared.placed.Func.{Func}
use Rattle.rv_code.specs.declared.placed.Block.{Block}
use Rattle.rv_code.specs.layout.Blocks.{inst_at, func_of, EndsBlock, Begins, at_start, named, after_end, IsBlockOf, IsBlock}
use Rattle.rv_code.specs.layout.Blocks.{IsBefore, AreBlocks}
use Rattle.rv_code.specs.layout.ProgramCode.{ProgramCode, IsTarget, IsHeld}
use Rattle.code_starts.specs.declared.address_set.AddressSet.{AddressSet}
use Rattle.cfg_build.specs.NamedAddresses.{AreEntered, IsMember}
use Rattle.cfg_build.specs.BlockLists.{EndsAt, EndsBefore, AreBlocksBefore}
use Rattle.rb_bytes.proofs.Options.{some_and, of_some}

abbrev pub block_of : ℕ → ℕ → ℕ → Block
block_of place first last = record { func = place; first = first; last = last }

abbrev Enters : ProgramCode → Placed → Type 0
Enters code p = IsTarget code.funcs p.addr ⊎ IsHeld code p.addr

-- Whether a block ends with an instruction.

module _ (code : ProgramCode) (func : Func) (i : ℕ) where
  pub ends_after : (p : Placed) → func.whole ≡ false → inst_at func i ≡ Some p → EndsBlock p → IsTrue true ↔ EndsAt code func i
  ends_after p not_whole at ends =
      ((λ t. inr (after_end not_whole i refl (some_and EndsBlock (inst_at func i) p at ends))), (λ e. refl))

  pub ends_before : (p q : Placed) (b : Bool) (entered : AddressSet) → (i + 1 ≡ length func.insts.items → ⊥) → func.whole ≡ false →
      inst_at func i ≡ Some p → inst_at func (i + 1) ≡ Some q → (EndsBlock p → ⊥) → IsTrue b ↔ IsMember entered q.addr →
      AreEntered code entered → IsTrue b ↔ EndsAt code func i
  ends_before p q b entered inner not_whole at next goes_on is are = (
    (λ t. inr (named not_whole (some_and (Enters code) (inst_at func (i + 1)) q next ((are q.addr).0 (is.0 t))))),
    ⊎_elim (λ last. absurd (inner last)) by,
  )
    where
      by : Begins code func (i + 1) → IsTrue b
      by (at_start zero) = absurd (omega arith)
      by (named whole some) = is.1 ((are q.addr).1 (of_some (Enters code) (inst_at func (i + 1)) q next some))
      by (after_end whole j same some) =
          let e : j ≡ i = omega arith in
          absurd (goes_on (of_some EndsBlock (inst_at func i) p at (subst (λ (k : ℕ). IsSomeAnd
          (inst_at func k) EndsBlock) e some)))

-- A block that starts at an instruction, if no block starts after it up to another instruction.

pub record Open (code : ProgramCode) (func : Func) (place first i : ℕ) (blocks : List Block) : Type 0 where
  pub done : AreBlocksBefore code place first blocks
  pub begins : first < length func.insts.items → Begins code func first
  pub upto : first ≤ i
  pub none : (j : ℕ) → first < j → j ≤ i → Begins code func j → ⊥
  pub closed : i ≡ length func.insts.items → first ≡ i

module _ (code : ProgramCode) (func : Func) (place : ℕ) (found : slice_get code.funcs place ≡ Some func) where
  pub open_begin : (blocks : List Block) → AreBlocksBefore code place 0 blocks → Open code func place 0 0 blocks
  open_begin blocks done = record {
    done = done;
    begins = λ some. at_start refl;
    upto = omega arith;
    none = λ j above below. absurd (omega arith);
    closed = λ is. refl;
  }

  pub open_on : (first i : ℕ) (blocks : List Block) → (EndsAt code func i → ⊥) → Open code func place first i blocks →
      Open code func place first (i + 1) blocks
  open_on first i blocks goes_on o = record {
    done = o.done;
    begins = o.begins;
    upto = let upto = o.upto in omega arith;
    none = λ j above below begins. ⊎_elim
        (λ (early : j < i + 1). o.none j above (omega arith) begins)
        (λ (late : i + 1 ≤ j). let e : j ≡ i + 1 = omega arith in goes_on (inr (subst (Begins code func) e begins)))
        (cases_lt j (i + 1));
    closed = λ is. absurd (goes_on (inl is));
  }

  -- A block of this function.
  of_func : (b : Block) → b.func ≡ place → IsBlock code b → IsBlockOf code func b.first b.last
  of_func b same is =
      of_some (λ f. IsBlockOf code f b.first b.last) (func_of code.funcs b) func (ap (slice_get code.funcs) same ∙ found) is

  of_next : (first i : ℕ) (blocks : List Block) → i < length func.insts.items → EndsAt code func i →
      Open code func place first i blocks → IsBlockOf code func first i
  of_next first i blocks within ends o = record {
    begins = let upto = o.upto in o.begins (omega arith);
    some = o.upto;
    inside = within;
    no_other = o.none;
    ends = ends;
  }

  -- The only block that starts there and ends with the same instruction or an earlier one.
  only_next : (first i : ℕ) (blocks : List Block) → i < length func.insts.items → Open code func place first i blocks →
      (b : Block) → b.func ≡ place → IsBlockOf code func b.first b.last → first ≤ b.last → b.last < i + 1 →
      block_of place first i ≡ b
  only_next first i blocks within o b same is from upto =
      λ j. record { func = sym same j; first = first_is j; last = last_is j }
    where
      some : first ≤ b.first
      some = ⊎_elim
          (λ (below : b.first < first).
          let upto' = o.upto in
          let inside : first < length func.insts.items = omega arith in
          absurd (is.no_other first below from (o.begins inside)))
          (λ (not_below : first ≤ b.first). not_below)
          (cases_lt b.first first)

      first_is : first ≡ b.first
      first_is = ⊎_elim
          (λ (above : first < b.first). absurd (o.none b.first above (let low = is.some in omega arith) is.begins))
          (λ (not_above : b.first ≤ first). let low = some in omega arith)
          (cases_lt first b.first)

      last_is : i ≡ b.last
      last_is = ⊎_elim
          (λ (early : b.last < i). absurd (⊎_elim
          (λ (end_is : b.last + 1 ≡ length func.insts.items). omega arith)
          (λ begins. o.none (b.last + 1) (omega arith) (omega arith) begins)
          is.ends))
          (λ (late : i ≤ b.last). omega arith)
          (cases_lt b.last i)

  pub open_next : (first i : ℕ) (blocks : List Block) → i < length func.insts.items → EndsAt code func i →
      Open code func place first i blocks → Open code func place (i + 1) (i + 1) (blocks ++ block_of place first i ∷ [])
  open_next first i blocks within ends o = record {
    done = record { only = only; each = each; ordered = ordered };
    begins = λ some. ⊎_elim (λ (last : i + 1 ≡ length func.insts.items). absurd (omega arith)) (λ begins. begins) ends;
    upto = omega arith;
    none = λ j above below. absurd (omega arith);
    closed = λ is. refl;
  }
    where
      is_next : IsBlockOf code func first i
      is_next = of_next first i blocks within ends o

      only : (b : Block) → Contains (blocks ++ block_of place first i ∷ []) b → IsBlock code b × EndsBefore place (i + 1) b
      only b is_in = ⊎_elim
          (λ early.
          let (is, before) = o.done.only b early in
          let upto = o.upto in
          (is, ⊎_elim (λ lower. inl lower) (λ (same, less). inr (same, omega arith)) before))
          (λ (same : block_of place first i ≡ b). subst (λ (b : Block). IsBlock code b × EndsBefore place (i + 1) b) same (
            some_and (λ f. IsBlockOf code f first i) (slice_get code.funcs place) func found is_next,
            inr (refl, omega arith),
          ))
          (Contains-push_cases blocks (block_of place first i) b is_in)

      old : (b : Block) → IsBlock code b × EndsBefore place first b → Contains (blocks ++ block_of place first i ∷ []) b
      old b early = Contains-append_left blocks (block_of place first i ∷ []) b (o.done.each b early)

      each : (b : Block) → IsBlock code b × EndsBefore place (i + 1) b → Contains (blocks ++ block_of place first i ∷ []) b
      each b (is, before) = ⊎_elim
          (λ lower. old b (is, inl lower))
          (λ (same, less). ⊎_elim
          (λ (early : b.last < first). old b (is, inr (same, early)))
          (λ (late : first ≤ b.last).
          subst (Contains (blocks ++ block_of place first i ∷ []))
          (only_next first i blocks within o b same (of_func b same is) late less)
          (Contains-push blocks (block_of place first i)))
          (cases_lt b.last first))
          before

      ordered : AllPairs IsBefore (blocks ++ block_of place first i ∷ [])
      ordered = all_pairs_push IsBefore blocks (block_of place first i) o.done.ordered (λ k d inside.
          let b = slice_index_or blocks k d in
          let (is, before) = o.done.only b (Contains-get_or blocks k d inside) in
          ⊎_elim
          (λ lower. inl lower)
          (λ (same, less). let some = (of_func b same is).some in inr (same, omega arith))
          before)

  pub open_end : (first i : ℕ) (blocks : List Block) → i ≡ length func.insts.items → Open code func place first i blocks →
      AreBlocksBefore code (place + 1) 0 blocks
  open_end first i blocks all o = record {
    only = λ b is_in.
        let (is, before) = o.done.only b is_in in
        (is, inl (⊎_elim (λ lower. omega arith) (λ (same, less). omega arith) before));
    each = λ b (is, before). o.done.each b (
      is,
      ⊎_elim
          (λ (upto : b.func < place + 1). ⊎_elim
          (λ (lower : b.func < place). inl lower)
          (λ (not_lower : place ≤ b.func).
          let same : b.func ≡ place = omega arith in
          let inside = (of_func b same is).inside in
          let closed = o.closed all in
          inr (same, omega arith))
          (cases_lt b.func place))
          (λ (same, less). absurd (omega arith))
          before,
    );
    ordered = o.done.ordered;
  }

-- All functions.

pub all_blocks : (code : ProgramCode) (n : ℕ) (blocks : List Block) → n ≡ length code.funcs → AreBlocksBefore code n 0 blocks →
    AreBlocks code blocks
all_blocks code n blocks all are = record {
  only = λ b is_in. (are.only b is_in).0;
  each = λ b is. are.each b (is, inl (place_within b is));
  ordered = are.ordered;
}
  where
    by : (b : Block) (o : Option Func) → func_of code.funcs b ≡ o → IsSomeAnd o (λ f. IsBlockOf code f b.first b.last) →
        b.func < n
    by b None e is = absurd is
    by b (Some func) e is = let within = slice_get_within code.funcs b.func func e in omega arith

    place_within : (b : Block) → IsBlock code b → b.func < n
    place_within b is = by b (func_of code.funcs b) refl is

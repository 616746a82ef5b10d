-- The ways of one block in from outside its function and out of it, with their counts.
use Rattle.std.proofs.Common.{◌≡◌, ◌<◌, ◌∙◌, get_or, length, sym, ap, subst, refl, ℕ, Bool, true, false, List, Option, Some, None, ⊎_elim}
use Rattle.std.proofs.Common.{inl, inr, map, sum_by, if◌then◌else◌}
use Rattle.std.specs.Prelude.{◌==◌, ◌&&◌, ◌||◌, ◌↔◌, Contains, IsPermutation, IsSomeAnd, IsTrue, not, slice_get}
use Rattle.std.specs.Option.{option_map_or}
use Rattle.std.proofs.lemmas.Bool.{eq-eqb, eqb-true}
use Rattle.std.proofs.lemmas.List.Sorted.{sum_by-IsPermutation}
use Rattle.std.proofs.lemmas.Option.{same_Some, slice_get-get_or, slice_get_within}
use Rattle.rb_bytes.proofs.Options.{some_and, of_some}
use Rattle.rv_code.specs.declared.placed.Func.{Func}
use Rattle.rv_code.specs.declared.placed.Block.{Block}
use Rattle.rv_code.specs.layout.Blocks.{block_start}
use Rattle.rv_code.specs.layout.FunctionMembers.{func_holds}
use Rattle.rv_code.specs.layout.ProgramCode.{ProgramCode, IsHeld}
use Rattle.edge_profile.specs.PairCounts.{Counted}
use Rattle.flow_infer.specs.declared.source.Source.{Source}
use Rattle.flow_infer.specs.Links.{IsEntered, IsFarTarget, IsLeft, LeavesBy, at_start, block_end, by_jump, by_name, count_into}
use Rattle.flow_infer.specs.Links.{count_out_of}
use Rattle.flow_infer.specs.Sources.{AreEntries, AreSources, IsCodeOf, IsLinkIn, turned}
use Rattle.flow_infer.proofs.Sums.{sum_mapped}

-- The item at an index has a property, and there is a number for it.

module _ {A : Type 0} (P : A → Type 0) (g : A → ℕ) (o : Option A) (x : A) (is : o ≡ Some x) where
  counted_some : (r c : ℕ) → P x → r ≡ g x → (Some r ≡ Some c) ↔ (IsSomeAnd o P × (c ≡ option_map_or g o 0))
  counted_some r c holds value = (
    (λ same. (some_and P o x is holds, sym (same_Some r c same) ∙ value ∙ sym (ap (λ o. option_map_or g o 0) is))),
    (λ (there, count). ap (λ (n : ℕ). Some n) (value ∙ sym (ap (λ o. option_map_or g o 0) is) ∙ sym count)),
  )

  counted_none : (c : ℕ) → (P x → ⊥) → (◌≡◌ {A = Option ℕ} None (Some c)) ↔ (IsSomeAnd o P × (c ≡ option_map_or g o 0))
  counted_none c fails = ((λ none. absurd (cc)), (λ (there, count). absurd (fails (of_some P o x is there))))

-- the function of a block, as the code reads it
pub func_at : (s : Source) (k : ℕ) (d : Block) (e : Func) → AreSources s → k < length s.blocks.now →
    slice_get s.funcs.now (get_or s.blocks.now k d).func ≡ Some (get_or s.funcs.now (get_or s.blocks.now k d).func e)
func_at s k d e sources inside =
    slice_get-get_or s.funcs.now b.func e (within _ (slice_get s.funcs.now b.func) refl (sources.stretches.each k d inside))
  where
    b : Block
    b = get_or s.blocks.now k d

    within : (P : Func → Type 0) (o : Option Func) → slice_get s.funcs.now b.func ≡ o → IsSomeAnd o P → b.func < length s.funcs.now
    within P None there holds = absurd holds
    within P (Some g) there holds = slice_get_within s.funcs.now b.func g there

-- Ways in.

pub entered_is : (code : ProgramCode) (funcs : List Func) (entries : List ℕ) (b : Block) (start : ℕ) (named so : Bool) →
    code.funcs ≡ funcs → AreEntries code entries → start ≡ block_start funcs b → (IsTrue named ↔ Contains entries start) →
    so ≡ (b.first == 0 || named) → IsTrue so ↔ IsEntered code b
entered_is code funcs entries b start named so same are begins member is = (into, out)
  where
    at : start ≡ block_start code.funcs b
    at = begins ∙ ap (λ (fs : List Func). block_start fs b) (sym same)

    entry : Contains entries start → IsEntered code b
    entry listed = ⊎_elim
        (λ held. by_name (subst (IsHeld code) at held))
        (λ far. by_jump (subst (IsFarTarget code.funcs) at far))
        ((are start).0 listed)

    into : IsTrue so → IsEntered code b
    into yes_so = by (b.first == 0) refl (sym is ∙ yes_so)
      where
        by : (z : Bool) → (b.first == 0) ≡ z → (z || named) ≡ true → IsEntered code b
        by true zero_first or = at_start (eqb-true b.first 0 zero_first)
        by false other or = entry (member.0 or)

    listed_so : Contains entries start → IsTrue so
    listed_so listed = is ∙ by (b.first == 0)
      where
        by : (z : Bool) → (z || named) ≡ true
        by true = refl
        by false = member.1 listed

    out : IsEntered code b → IsTrue so
    out (at_start first) = is ∙ ap (λ (z : Bool). z || named) (eq-eqb b.first 0 first)
    out (by_name held) = listed_so ((are start).1 (inl (subst (IsHeld code) (sym at) held)))
    out (by_jump far) = listed_so ((are start).1 (inr (subst (IsFarTarget code.funcs) (sym at) far)))

count_in : (funcs : List Func) (pairs ends : List Counted) (b : Block) (f : Func) (a r : ℕ) → slice_get funcs b.func ≡ Some f →
    a ≡ block_start funcs b → IsPermutation (map turned pairs) ends →
    r ≡ sum_by (λ p. if p.0 == a && not (func_holds p.1 f) then p.2 else 0) ends → r ≡ count_into funcs pairs b
count_in funcs pairs ends b f a r is start permuted value =
    value ∙ sum_by-IsPermutation (λ p. if p.0 == a && not (func_holds p.1 f) then p.2 else 0) (map turned pairs) ends permuted
    ∙ sum_mapped (λ p. if p.0 == a && not (func_holds p.1 f) then p.2 else 0) turned pairs
    ∙ ap (λ (s : ℕ). sum_by (λ p. if p.1 == s && not (func_holds p.0 f) then p.2 else 0) pairs) start
    ∙ ap (λ (o : Option Func). sum_by (λ p. if p.1 == block_start funcs b && not (option_map_or (func_holds p.0) o false)
    then p.2 else 0) pairs) (sym is)

count_out : (funcs : List Func) (pairs : List Counted) (b : Block) (f : Func) (a r : ℕ) → slice_get funcs b.func ≡ Some f →
    a ≡ block_end funcs b → r ≡ sum_by (λ p. if p.0 == a && not (func_holds p.1 f) then p.2 else 0) pairs →
    r ≡ count_out_of funcs pairs b
count_out funcs pairs b f a r is end value =
    value
    ∙ ap (λ (s : ℕ). sum_by (λ p. if p.0 == s && not (func_holds p.1 f) then p.2 else 0) pairs) end
    ∙ ap (λ (o : Option Func). sum_by (λ p. if p.0 == block_end funcs b && not (option_map_or (func_holds p.1) o false)
    then p.2 else 0) pairs) (sym is)

module _ (code : ProgramCode) (s : Source) (k : ℕ) (b : Block) (of : IsCodeOf code s) (at : slice_get s.blocks.now k ≡ Some b) where
  pub in_none : (IsEntered code b → ⊥) → (c : ℕ) → (◌≡◌ {A = Option ℕ} None (Some c)) ↔ IsLinkIn code s (None, Some k, c)
  in_none fails c = counted_none (IsEntered code) (count_into code.funcs s.pairs.now) (slice_get s.blocks.now k) b at c fails

  pub out_none : (IsLeft s.funcs.now b → ⊥) → (c : ℕ) → (◌≡◌ {A = Option ℕ} None (Some c)) ↔ IsLinkIn code s (Some k, None, c)
  out_none fails c = subst (λ (fs : List Func). (◌≡◌ {A = Option ℕ} None (Some c)) ↔ (IsSomeAnd (slice_get s.blocks.now k) (IsLeft fs)
      × (c ≡ option_map_or (count_out_of fs s.pairs.now) (slice_get s.blocks.now k) 0))) (sym of.funcs)
      (counted_none (IsLeft s.funcs.now) (count_out_of s.funcs.now s.pairs.now) (slice_get s.blocks.now k) b at c fails)

  module _ (sources : AreSources s) (f : Func) (a r : ℕ) (func : slice_get s.funcs.now b.func ≡ Some f) where
    pub in_some : IsEntered code b → a ≡ block_start s.funcs.now b →
        r ≡ sum_by (λ p. if p.0 == a && not (func_holds p.1 f) then p.2 else 0) s.ends.now →
        (c : ℕ) → (Some r ≡ Some c) ↔ IsLinkIn code s (None, Some k, c)
    in_some entered start value c =
        counted_some (IsEntered code) (count_into code.funcs s.pairs.now) (slice_get s.blocks.now k) b at r c entered
        (subst (λ (fs : List Func). r ≡ count_into fs s.pairs.now b) (sym of.funcs)
        (count_in s.funcs.now s.pairs.now s.ends.now b f a r func start sources.permuted value))

    pub out_some : IsLeft s.funcs.now b → a ≡ block_end s.funcs.now b →
        r ≡ sum_by (λ p. if p.0 == a && not (func_holds p.1 f) then p.2 else 0) s.pairs.now →
        (c : ℕ) → (Some r ≡ Some c) ↔ IsLinkIn code s (Some k, None, c)
    out_some left end value c = subst (λ (fs : List Func). (Some r ≡ Some c) ↔ (IsSomeAnd (slice_get s.blocks.now k) (IsLeft fs)
        × (c ≡ option_map_or (count_out_of fs s.pairs.now) (slice_get s.blocks.now k) 0))) (sym of.funcs)
        (counted_some (IsLeft s.funcs.now) (count_out_of s.funcs.now s.pairs.now) (slice_get s.blocks.now k) b at r c left
        (count_out s.funcs.now s.pairs.now b f a r func end value))

-- Whether control leaves by the last instruction of a block, in terms of its function.
pub left_is : (funcs : List Func) (b : Block) (f : Func) (so : Bool) → slice_get funcs b.func ≡ Some f →
    (IsTrue so ↔ IsSomeAnd (slice_get f.insts.items b.last) (LeavesBy f b.last)) → IsTrue so ↔ IsLeft funcs b
left_is funcs b f so func is = (
  (λ yes_so. some_and _ (slice_get funcs b.func) f func (is.0 yes_so)),
  (λ left. is.1 (of_some _ (slice_get funcs b.func) f func left)),
)

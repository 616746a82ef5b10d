-- The lowest instruction that lacks a property, in two lists one after the other.
use Rattle.std.proofs.Common.{◌≡◌, ◌<◌, ◌≤◌, ◌+◌, ◌∙◌, ℕ, List, ◌++◌, [], ◌∷◌, length, get_or, take, ap, sym, arith, append-nil}
use Rattle.std.proofs.Common.{inl, inr, ⊎_elim, ◌⊎◌, Option, Some, None, IfSome, IfNone, IsSomeAnd, All, rules}
use Rattle.std.proofs.lemmas.Bool.{cases_lt}
use Rattle.std.proofs.lemmas.List.{take_more}
use Rattle.std.proofs.lemmas.Grind.{flat_map-append}
use Rattle.std.proofs.lemmas.List.Elements.{All-append}
use Rattle.rv_code.specs.declared.placed.Placed.{Placed}
use Rattle.rv_code.specs.declared.placed.Func.{Func}
use Rattle.rv_code.specs.layout.Flow.{insts_of}
use Rattle.elf_image.specs.faults.LowestPlace.{lower}
use Rattle.elf_image.proofs.LowestPlaces.{IsLowest-none, IsLowest-lower}
use Rattle.map_check.specs.internal.InstRows.{IsJudgedOf}
use Rattle.map_check.specs.Lacking.{LacksAt}
use Rattle.map_check.proofs.AppendedAll.{front_all, back_all}

module _ (P : Placed → Type 0) where
  pub judged_begin : IsJudgedOf P [] None
  judged_begin = record {
    all = λ k d within. absurd (omega arith);
    lowest = IsLowest-none (λ a lacks. lacks (λ k d within. absurd (omega arith)));
  }

  both_none : (a b r : Option ℕ) (xs ys : List Placed) → r ≡ lower a b → IfNone a (All P xs) → IfNone b (All P ys) →
      IfNone r (All P (xs ++ ys))
  both_none a b (Some n) xs ys is left right = search rules
  both_none None None None xs ys is left right = All-append P xs ys left right
  both_none None (Some m) None xs ys is left right = absurd (let never : None ≡ Some m = is in cc)
  both_none (Some l) None None xs ys is left right = absurd (let never : None ≡ Some l = is in cc)
  both_none (Some l) (Some m) None xs ys is left right = absurd (let never : None ≡ lower (Some l) (Some m) = is in cc)

  decide : (o : Option ℕ) (a : ℕ) → IsSomeAnd o (λ l. l ≤ a) ⊎ (IsSomeAnd o (λ l. l ≤ a) → ⊥)
  decide None a = inr (λ none. none)
  decide (Some l) a = ⊎_elim (λ (above : a < l). inr (λ (le : l ≤ a). omega arith)) (λ (le : l ≤ a). inl le) (cases_lt a l)

  here : (a : ℕ) → Placed → Type 0
  here a x = x.addr ≡ a → P x

  pub judged_join : (xs ys : List Placed) (a b r : Option ℕ) → r ≡ lower a b → IsJudgedOf P xs a → IsJudgedOf P ys b →
      IsJudgedOf P (xs ++ ys) r
  unfolding here
  judged_join xs ys a b r is left right = record {
    all = both_none a b r xs ys is left.all right.all;
    lowest = record {
      present = given r (IsLowest-lower a b r is left.lowest right.lowest).present;
      least = λ q lacks. ⊎_elim
          (λ (at : IsSomeAnd r (λ l. l ≤ q)). at)
          (λ (not_at : IsSomeAnd r (λ l. l ≤ q) → ⊥).
          let either = (IsLowest-lower a b r is left.lowest right.lowest).least q in
          absurd (not_both q (λ lack. not_at (either (inl lack))) (λ lack. not_at (either (inr lack))) lacks))
          (decide r q);
    };
  }
    where
      to : (q : ℕ) → LacksAt P (λ p. p.addr) xs q ⊎ LacksAt P (λ p. p.addr) ys q → LacksAt P (λ p. p.addr) (xs ++ ys) q
      to q (inl lacks) all = lacks (front_all (here q) xs ys all)
      to q (inr lacks) all = lacks (back_all (here q) xs ys all)

      given : (o : Option ℕ) → IfSome o (λ q. LacksAt P (λ p. p.addr) xs q ⊎ LacksAt P (λ p. p.addr) ys q) →
          IfSome o (LacksAt P (λ p. p.addr) (xs ++ ys))
      given None e = search rules
      given (Some q) e = to q e

      not_both : (q : ℕ) → (LacksAt P (λ p. p.addr) xs q → ⊥) → (LacksAt P (λ p. p.addr) ys q → ⊥) → LacksAt P (λ p. p.addr) (xs ++ ys) q →
          ⊥
      not_both q first second lacks =
          first (λ all_x. second (λ all_y. lacks (All-append (here q) xs ys all_x all_y)))

pub insts_more : (funcs : List Func) (i : ℕ) (f : Func) → i < length funcs → f ≡ get_or funcs i f →
    insts_of (take (i + 1) funcs) ≡ insts_of (take i funcs) ++ f.insts.items
insts_more funcs i f within is =
    ap insts_of (take_more funcs i f within)
    ∙ flat_map-append (λ (g : Func). g.insts.items) (take i funcs) (get_or funcs i f ∷ [])
    ∙ ap (λ l. insts_of (take i funcs) ++ l) (append-nil (get_or funcs i f).insts.items)
    ∙ ap (λ (g : Func). insts_of (take i funcs) ++ g.insts.items) (sym is)

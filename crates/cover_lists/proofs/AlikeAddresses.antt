-- Addresses between which no range begins or ends.
use Rattle.std.proofs.Common.{◌≡◌, ◌∙◌, ◌==◌, ◌&&◌, ◌||◌, ◌∷◌, [], ℕ, not, List, All, refl, sym, ap, arith}
use Rattle.std.proofs.Common.{nat_le, nat_lt}
use Rattle.std.proofs.lemmas.Bool.Decides.{nat_tests}
use Rattle.std.proofs.lemmas.List.Elements.{All-head, All-tail}
use Rattle.cover_lists.specs.declared.cover_tree.Cover.{Cover}
use Rattle.cover_lists.specs.Bounds.{bounds_in}
use Rattle.cover_lists.specs.Groups.{group_holds}

lt_not : (a x : ℕ) → nat_lt a x ≡ not (nat_le x a)
lt_not a x = grind (arith, nat_tests)

pub alike_groups : (cs : List Cover) (a b g : ℕ) → All (λ x. nat_le x a ≡ nat_le x b) (bounds_in cs) →
    group_holds cs g a ≡ group_holds cs g b
alike_groups [] a b g same = refl
alike_groups (c ∷ cs) a b g same =
    let low : nat_le c.low a ≡ nat_le c.low b = All-head (λ x. nat_le x a ≡ nat_le x b) c.low (c.high ∷ bounds_in cs) same in
    let more : All (λ x. nat_le x a ≡ nat_le x b) (c.high ∷ bounds_in cs) = All-tail (λ x. nat_le x a ≡ nat_le x b) c.low
    (c.high ∷ bounds_in cs) same in
    let high : nat_lt a c.high ≡ nat_lt b c.high =
    lt_not a c.high ∙ ap not (All-head (λ x. nat_le x a ≡ nat_le x b) c.high (bounds_in cs) more) ∙ sym (lt_not b c.high) in
    let rest : group_holds cs g a ≡ group_holds cs g b = alike_groups cs a b g
    (All-tail (λ x. nat_le x a ≡ nat_le x b) c.high (bounds_in cs) more) in
    λ i. ((c.group == g) && (low i && high i)) || rest i

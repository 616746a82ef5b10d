-- Texts that a sink takes piece by piece.
use Rattle.std.proofs.Common.{◌≡◌, ◌<◌, ◌+◌, ◌∙◌, sym, ap, refl, ℕ, List, Option, Some, None, length, take, drop, ◌++◌, arith}
use Rattle.std.proofs.Common.{append_assoc, length-append}
use Rattle.std.proofs.lemmas.List.{take-append-le}
use Rattle.std.proofs.Math.Seq.{take-add, take-append-add}
use Rattle.std.specs.Io.KnownBytes.{append_known}
use Rattle.rb_io.specs.TakenText.{TakesAll, TakesPrefix}

pub append_known-append : (known : Option (List ℕ)) (xs ys : List ℕ) →
    append_known (append_known known xs) ys ≡ append_known known (xs ++ ys)
append_known-append None xs ys = refl
append_known-append (Some zs) xs ys = ap Some (append_assoc zs xs ys)

-- All of one text, and then all of the next.
pub TakesAll-append : (a b c : Option (List ℕ)) (xs ys : List ℕ) → TakesAll a b xs → TakesAll b c ys → TakesAll a c (xs ++ ys)
TakesAll-append a b c xs ys first next =
    next ∙ ap (λ k. append_known k ys) first ∙ append_known-append a xs ys

-- The front of a text, and n more bytes.
pub TakesAll-take-add : (a b c : Option (List ℕ)) (text : List ℕ) (i n : ℕ) → TakesAll a b (take i text) →
    TakesAll b c (take n (drop i text)) → TakesAll a c (take (i + n) text)
TakesAll-take-add a b c text i n first next =
    TakesAll-append a b c (take i text) (take n (drop i text)) first next ∙ ap (append_known a) (sym (take-add i n text))

-- All of one text, and then a prefix of the next.
pub TakesFront-append : (a b c : Option (List ℕ)) (xs ys : List ℕ) → TakesAll a b xs → TakesPrefix b c ys →
    TakesPrefix a c (xs ++ ys)
TakesFront-append a b c xs ys first next =
    let less : length xs + next.0 < length (xs ++ ys) = omega (arith, next.1, length-append xs ys) in (
      length xs + next.0,
      less,
      TakesAll-append a b c xs (take next.0 ys) first next.2
          ∙ ap (append_known a) (sym (take-append-add xs ys next.0)),
    )

-- A proper prefix of one text is one of the concatenation.
pub TakesFront-front : (a b : Option (List ℕ)) (xs ys : List ℕ) → TakesPrefix a b xs → TakesPrefix a b (xs ++ ys)
TakesFront-front a b xs ys first =
    let less : first.0 < length (xs ++ ys) = omega (arith, first.1, length-append xs ys) in
    (first.0, less, first.2 ∙ ap (append_known a) (sym (take-append-le first.0 xs ys (omega (arith, first.1)))))

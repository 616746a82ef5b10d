-- Lists side by side.
use Rattle.std.proofs.Common.{◌≡◌, ◌++◌, ◌∷◌, [], List, refl, subst, arith, ⊎_elim}
use Rattle.std.specs.Prelude.{Contains}
use Rattle.std.specs.List.{AllZip}
use Rattle.rb_bytes.proofs.Members.{Contains-nil, Contains-cons_cases, Contains-there}

pub zip_each : {X Y : Type 0} (R S : X → Y → Type 0) (xs : List X) (ys : List Y) → AllZip R xs ys → ((x : X) (y : Y) → R x y → S x y) →
    AllZip S xs ys
zip_each R S [] [] z f = tt
zip_each R S [] (y ∷ ys) z f = absurd z
zip_each R S (x ∷ xs) [] z f = absurd z
zip_each R S (x ∷ xs) (y ∷ ys) z f = (f x y z.0, zip_each R S xs ys z.1 f)

pub zip_with : {X Y : Type 0} (R S : X → Y → Type 0) (xs : List X) (ys : List Y) → AllZip R xs ys →
    ((x : X) (y : Y) → Contains xs x → Contains ys y → R x y → S x y) →
    AllZip S xs ys
zip_with R S [] [] z f = tt
zip_with R S [] (y ∷ ys) z f = absurd z
zip_with R S (x ∷ xs) [] z f = absurd z
zip_with R S (x ∷ xs) (y ∷ ys) z f = (
  f x y (0, omega arith, refl) (0, omega arith, refl) z.0,
  zip_with R S xs ys z.1
      (λ a b c d. f a b (Contains-there x xs a c) (Contains-there y ys b d)),
)

pub zip_push : {X Y : Type 0} (R : X → Y → Type 0) (xs : List X) (ys : List Y) (x : X) (y : Y) → AllZip R xs ys → R x y →
    AllZip R (xs ++ x ∷ []) (ys ++ y ∷ [])
zip_push R [] [] x y z h = (h, tt)
zip_push R [] (b ∷ ys) x y z h = absurd z
zip_push R (a ∷ xs) [] x y z h = absurd z
zip_push R (a ∷ xs) (b ∷ ys) x y z h = (z.0, zip_push R xs ys x y z.1 h)

pub zip_right : {X Y : Type 0} (R : X → Y → Type 0) (xs : List X) (ys : List Y) (y : Y) → AllZip R xs ys → Contains ys y →
    (x : X) × Contains xs x × R x y
zip_right R [] [] y z c = absurd (Contains-nil y c)
zip_right R [] (q ∷ ys) y z c = absurd z
zip_right R (x ∷ xs) [] y z c = absurd z
zip_right R (x ∷ xs) (q ∷ ys) y z c = ⊎_elim
    (λ (same : q ≡ y). (x, (0, omega arith, refl), subst (R x) same z.0))
    (λ (there : Contains ys y). let p = zip_right R xs ys y z.1 there in (p.0, Contains-there x xs p.0 p.1, p.2))
    (Contains-cons_cases q ys y c)

pub zip_left : {X Y : Type 0} (R : X → Y → Type 0) (xs : List X) (ys : List Y) (x : X) → AllZip R xs ys → Contains xs x →
    (y : Y) × Contains ys y × R x y
zip_left R [] ys x z c = absurd (Contains-nil x c)
zip_left R (q ∷ xs) [] x z c = absurd z
zip_left R (q ∷ xs) (y ∷ ys) x z c = ⊎_elim
    (λ (same : q ≡ x). (y, (0, omega arith, refl), subst (λ (a : _). R a y) same z.0))
    (λ (there : Contains xs x). let p = zip_left R xs ys x z.1 there in (p.0, Contains-there y ys p.0 p.1, p.2))
    (Contains-cons_cases q xs x c)

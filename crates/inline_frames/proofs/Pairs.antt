-- Lists and options pair by pair.
use Rattle.std.proofs.Common.{◌≡◌, Bool, true, false, List, [], ◌∷◌, ◌++◌, Option, Some, None, refl}
use Rattle.std.specs.Prelude.{option_and_then, flat_map, if◌then◌else◌}
use Rattle.std.specs.List.{AllZip, find}
use Rattle.answer_runs.specs.CarriedAnswers.{Agree}
use Rattle.answer_runs.specs.Choices.{first_of}

-- For each element of a list.
abbrev pub AllOf : {A : Type 0} → (A → Type 0) → List A → Type 0
AllOf P [] = Unit {0}
AllOf P (x ∷ xs) = P x × AllOf P xs

pub map_all : {A : Type 0} (P Q : A → Type 0) → ((x : A) → P x → Q x) → (xs : List A) → AllOf P xs → AllOf Q xs
map_all P Q to [] h = tt
map_all P Q to (x ∷ xs) h = (to x h.0, map_all P Q to xs h.1)

pub map_each : {A B : Type 0} (R S : A → B → Type 0) → ((x : A) (y : B) → R x y → S x y) → (xs : List A) (ys : List B) →
    AllZip R xs ys → AllZip S xs ys
map_each R S to [] [] h = tt
map_each R S to [] (y ∷ ys) h = absurd h
map_each R S to (x ∷ xs) [] h = absurd h
map_each R S to (x ∷ xs) (y ∷ ys) h = (to x y h.0, map_each R S to xs ys h.1)

pub append_each : {A B : Type 0} (R : A → B → Type 0) (xs : List A) (ys : List B) (zs : List A) (ws : List B) →
    AllZip R xs ys → AllZip R zs ws → AllZip R (xs ++ zs) (ys ++ ws)
append_each R [] [] zs ws h more = more
append_each R [] (y ∷ ys) zs ws h more = absurd h
append_each R (x ∷ xs) [] zs ws h more = absurd h
append_each R (x ∷ xs) (y ∷ ys) zs ws h more = (h.0, append_each R xs ys zs ws h.1 more)

pub flat_each : {A B : Type 0} (R : A → A → Type 0) (S : B → B → Type 0) (g : A → List B) →
    ((x y : A) → R x y → AllZip S (g x) (g y)) → (xs ys : List A) → AllZip R xs ys → AllZip S (flat_map g xs) (flat_map g ys)
flat_each R S g to [] [] h = tt
flat_each R S g to [] (y ∷ ys) h = absurd h
flat_each R S g to (x ∷ xs) [] h = absurd h
flat_each R S g to (x ∷ xs) (y ∷ ys) h =
    append_each S (g x) (g y) (flat_map g xs) (flat_map g ys) (to x y h.0) (flat_each R S g to xs ys h.1)

-- The results of two tests that agree.
pub find_each : {A : Type 0} (R : A → A → Type 0) (s t : A → Bool) → ((x y : A) → R x y → t y ≡ s x) → (xs ys : List A) →
    AllZip R xs ys → Agree R (find s xs) (find t ys)
find_each R s t same [] [] h = tt
find_each R s t same [] (y ∷ ys) h = absurd h
find_each R s t same (x ∷ xs) [] h = absurd h
find_each R s t same (x ∷ xs) (y ∷ ys) h = by (s x) (t y) (same x y h.0) (find_each R s t same xs ys h.1)
  where
    by : (b c : Bool) → c ≡ b → Agree R (find s xs) (find t ys) →
        Agree R (if b then Some x else find s xs) (if c then Some y else find t ys)
    by true true e more = h.0
    by false false e more = more
    by true false e more = absurd (cc)
    by false true e more = absurd (cc)

-- The results of a function on options that agree.
pub then_each : {A B : Type 0} (R : A → A → Type 0) (g k : A → Option B) → ((x y : A) → R x y → k y ≡ g x) →
    (x y : Option A) → Agree R x y → option_and_then k y ≡ option_and_then g x
then_each R g k same None None h = refl
then_each R g k same None (Some y) h = absurd h
then_each R g k same (Some x) None h = absurd h
then_each R g k same (Some x) (Some y) h = same x y h

pub with_all : {A B : Type 0} (R : A → B → Type 0) (P : A → Type 0) (Q : B → Type 0) (S : A → B → Type 0) →
    ((x : A) (y : B) → R x y → P x → Q y → S x y) → (xs : List A) (ys : List B) → AllZip R xs ys → AllOf P xs → AllOf Q ys →
    AllZip S xs ys
with_all R P Q S to [] [] h p q = tt
with_all R P Q S to [] (y ∷ ys) h p q = absurd h
with_all R P Q S to (x ∷ xs) [] h p q = absurd h
with_all R P Q S to (x ∷ xs) (y ∷ ys) h p q = (to x y h.0 p.0 q.0, with_all R P Q S to xs ys h.1 p.1 q.1)

pub first_each : {A : Type 0} (R : A → A → Type 0) (xs ys : List A) → AllZip R xs ys → Agree R (first_of xs) (first_of ys)
first_each R [] [] h = tt
first_each R [] (y ∷ ys) h = absurd h
first_each R (x ∷ xs) [] h = absurd h
first_each R (x ∷ xs) (y ∷ ys) h = h.0

pub agree_to : {A : Type 0} (R S : A → A → Type 0) → ((x y : A) → R x y → S x y) → (x y : Option A) → Agree R x y → Agree S x y
agree_to R S to None None h = tt
agree_to R S to None (Some y) h = absurd h
agree_to R S to (Some x) None h = absurd h
agree_to R S to (Some x) (Some y) h = to x y h

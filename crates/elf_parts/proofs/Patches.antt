-- What a file has after bytes were put over some of its own, or added after them.
use Rattle.std.proofs.Common.{◌≡◌, ◌∙◌, sym, ap, subst, refl, ℕ, zero, suc, ◌+◌, ◌-◌, ◌≤◌, ◌<◌, ◌⊎◌, inl, inr, List, [], ◌∷◌}
use Rattle.std.proofs.Common.{◌++◌, length, take, drop, get_or, arith}
use Rattle.std.specs.Prelude.{All, AllPairs}
use Rattle.std.proofs.lemmas.Grind.{common_steps, same_number_lists}
use Rattle.std.proofs.lemmas.List.{get_or-drop, get_or-take, get_or_append_left, get_or-append_right}
use Rattle.elf_image.proofs.NumberBytes.{little_from-same}
use Rattle.elf_image.specs.file.Header.{number_at}
use Rattle.elf_parts.specs.Patches.{put, Patch, put_all, IsBeside, AreApart, IsWithin, Stands}

pub length-put : (a : ℕ) (bytes xs : List ℕ) → a + length bytes ≤ length xs → length (put a bytes xs) ≡ length xs
length-put a bytes xs within = grind (arith, common_steps)

-- beside the new bytes
pub get_or-put_beside : (a : ℕ) (bytes xs : List ℕ) (k : ℕ) → a + length bytes ≤ length xs → (k < a) ⊎ (a + length bytes ≤ k) →
    get_or (put a bytes xs) k 0 ≡ get_or xs k 0
get_or-put_beside a bytes xs k within (inl low) =
    let front : length (take a xs) ≡ a = grind (arith, common_steps) in
    get_or_append_left (take a xs) _ 0 k (omega arith) ∙ get_or-take a xs k 0 low
get_or-put_beside a bytes xs k within (inr high) =
    let front : length (take a xs) ≡ a = grind (arith, common_steps) in
    let place : (a + length bytes) + ((k - a) - length bytes) ≡ k = omega arith in
    get_or-append_right (take a xs) _ a k 0 front (omega arith)
    ∙ get_or-append_right bytes (drop (a + length bytes) xs) (length bytes) (k - a) 0 refl (omega arith)
    ∙ get_or-drop (a + length bytes) xs ((k - a) - length bytes) 0
    ∙ ap (λ (j : ℕ). get_or xs j 0) place

-- among them
pub get_or-put_there : (a : ℕ) (bytes xs : List ℕ) (j : ℕ) → a + length bytes ≤ length xs → j < length bytes →
    get_or (put a bytes xs) (a + j) 0 ≡ get_or bytes j 0
get_or-put_there a bytes xs j within below =
    let front : length (take a xs) ≡ a = grind (arith, common_steps) in
    let place : (a + j) - a ≡ j = omega arith in
    get_or-append_right (take a xs) _ a (a + j) 0 front (omega arith)
    ∙ ap (λ (i : ℕ). get_or (bytes ++ drop (a + length bytes) xs) i 0) place
    ∙ get_or_append_left bytes _ 0 j below

pub stands-put : (a : ℕ) (bytes xs : List ℕ) → a + length bytes ≤ length xs → Stands (put a bytes xs) a bytes
stands-put a bytes xs within = record {
  within = subst (λ (n : ℕ). a + length bytes ≤ n) (sym (length-put a bytes xs within)) within;
  same = λ j below. get_or-put_there a bytes xs j within below;
}

-- other bytes are still there
pub stands-put_beside : (a : ℕ) (bytes xs : List ℕ) (o : ℕ) (ys : List ℕ) → a + length bytes ≤ length xs →
    (a + length bytes ≤ o) ⊎ (o + length ys ≤ a) → Stands xs o ys → Stands (put a bytes xs) o ys
stands-put_beside a bytes xs o ys within apart stands = record {
  within = subst (λ (n : ℕ). o + length ys ≤ n) (sym (length-put a bytes xs within)) stands.within;
  same = λ j below. get_or-put_beside a bytes xs (o + j) within (beside j below apart) ∙ stands.same j below;
}
  where
    beside : (j : ℕ) → j < length ys → (a + length bytes ≤ o) ⊎ (o + length ys ≤ a) → (o + j < a) ⊎ (a + length bytes ≤ o + j)
    beside j below (inl high) = inr (omega arith)
    beside j below (inr low) = inl (omega arith)

-- Many patches, one after the other.

pub length-put_all : (ps : List Patch) (xs : List ℕ) → All (IsWithin (length xs)) ps → length (put_all xs ps) ≡ length xs
length-put_all [] xs within = refl
length-put_all (p ∷ ps) xs within =
    let here : p.offset + length p.bytes ≤ length xs = within 0 p (omega arith) in
    let same : length (put p.offset p.bytes xs) ≡ length xs = length-put p.offset p.bytes xs here in
    let rest : All (IsWithin (length (put p.offset p.bytes xs))) ps =
    λ k d below. subst (λ (n : ℕ). IsWithin n (get_or ps k d)) (sym same) (within (suc k) d (omega arith)) in
    length-put_all ps (put p.offset p.bytes xs) rest ∙ same

pub get_or-put_all : (ps : List Patch) (xs : List ℕ) (k : ℕ) → All (IsWithin (length xs)) ps → All (IsBeside k) ps →
    get_or (put_all xs ps) k 0 ≡ get_or xs k 0
get_or-put_all [] xs k within beside = refl
get_or-put_all (p ∷ ps) xs k within beside =
    let here : p.offset + length p.bytes ≤ length xs = within 0 p (omega arith) in
    let same : length (put p.offset p.bytes xs) ≡ length xs = length-put p.offset p.bytes xs here in
    let rest : All (IsWithin (length (put p.offset p.bytes xs))) ps =
    λ j d below. subst (λ (n : ℕ). IsWithin n (get_or ps j d)) (sym same) (within (suc j) d (omega arith)) in
    get_or-put_all ps (put p.offset p.bytes xs) k rest (λ j d below. beside (suc j) d (omega arith))
    ∙ get_or-put_beside p.offset p.bytes xs k here (beside 0 p (omega arith))

-- bytes from which all patches are apart are still there
pub stands-put_all : (ps : List Patch) (xs : List ℕ) (o : ℕ) (ys : List ℕ) → All (IsWithin (length xs)) ps →
    All (λ p. (p.offset + length p.bytes ≤ o) ⊎ (o + length ys ≤ p.offset)) ps → Stands xs o ys → Stands (put_all xs ps) o ys
stands-put_all [] xs o ys within apart stands = stands
stands-put_all (p ∷ ps) xs o ys within apart stands =
    let here : p.offset + length p.bytes ≤ length xs = within 0 p (omega arith) in
    let same : length (put p.offset p.bytes xs) ≡ length xs = length-put p.offset p.bytes xs here in
    let rest : All (IsWithin (length (put p.offset p.bytes xs))) ps =
    λ j d below. subst (λ (n : ℕ). IsWithin n (get_or ps j d)) (sym same) (within (suc j) d (omega arith)) in
    stands-put_all ps (put p.offset p.bytes xs) o ys rest (λ j d below. apart (suc j) d (omega arith))
    (stands-put_beside p.offset p.bytes xs o ys here (apart 0 p (omega arith)) stands)

-- the bytes of each patch are there, if none shares a byte with another
pub stands-each : (ps : List Patch) (xs : List ℕ) → All (IsWithin (length xs)) ps → AllPairs AreApart ps →
    All (λ p. Stands (put_all xs ps) p.offset p.bytes) ps
stands-each [] xs within apart k d below = absurd (omega arith)
stands-each (p ∷ ps) xs within apart zero d below =
    let here : p.offset + length p.bytes ≤ length xs = within 0 p (omega arith) in
    let same : length (put p.offset p.bytes xs) ≡ length xs = length-put p.offset p.bytes xs here in
    let rest : All (IsWithin (length (put p.offset p.bytes xs))) ps =
    λ j e low. subst (λ (n : ℕ). IsWithin n (get_or ps j e)) (sym same) (within (suc j) e (omega arith)) in
    stands-put_all ps (put p.offset p.bytes xs) p.offset p.bytes rest
    (λ j e low. other j e (apart 0 (suc j) e (omega arith) (omega arith))) (stands-put p.offset p.bytes xs here)
  where
    other : (j : ℕ) (e : Patch) → AreApart p (get_or ps j e) →
        ((get_or ps j e).offset + length (get_or ps j e).bytes ≤ p.offset) ⊎ (p.offset + length p.bytes ≤ (get_or ps j e).offset)
    other j e (inl low) = inr low
    other j e (inr high) = inl high
stands-each (p ∷ ps) xs within apart (suc k) d below =
    let here : p.offset + length p.bytes ≤ length xs = within 0 p (omega arith) in
    let same : length (put p.offset p.bytes xs) ≡ length xs = length-put p.offset p.bytes xs here in
    let rest : All (IsWithin (length (put p.offset p.bytes xs))) ps =
    λ j e low. subst (λ (n : ℕ). IsWithin n (get_or ps j e)) (sym same) (within (suc j) e (omega arith)) in
    stands-each ps (put p.offset p.bytes xs) rest
    (λ i j e first second. apart (suc i) (suc j) e (omega arith) (omega arith)) k d (omega arith)

-- Added after.

pub stands-front : (xs ys : List ℕ) (o : ℕ) (bytes : List ℕ) → Stands xs o bytes → Stands (xs ++ ys) o bytes
stands-front xs ys o bytes stands =
    let size : length (xs ++ ys) ≡ length xs + length ys = grind (arith, common_steps) in
    record {
      within = let old : o + length bytes ≤ length xs = stands.within in omega arith;
      same = λ j below. let old : o + length bytes ≤ length xs = stands.within in
          get_or_append_left xs ys 0 (o + j) (omega arith) ∙ stands.same j below;
    }

pub stands-behind : (xs bytes : List ℕ) → Stands (xs ++ bytes) (length xs) bytes
stands-behind xs bytes =
    let size : length (xs ++ bytes) ≡ length xs + length bytes = grind (arith, common_steps) in
    record {
      within = omega arith;
      same = λ j below. get_or-append_right xs bytes (length xs) (length xs + j) 0 refl (omega arith)
          ∙ ap (λ (i : ℕ). get_or bytes i 0) (place j);
    }
  where
    place : (j : ℕ) → (length xs + j) - length xs ≡ j
    place j = omega arith

-- bytes of what is added are after the rest
pub stands-added : (xs ys : List ℕ) (o : ℕ) (bytes : List ℕ) → Stands ys o bytes → Stands (xs ++ ys) (length xs + o) bytes
stands-added xs ys o bytes stands =
    let size : length (xs ++ ys) ≡ length xs + length ys = grind (arith, common_steps) in
    let old : o + length bytes ≤ length ys = stands.within in
    record {
      within = omega arith;
      same = λ j below. get_or-append_right xs ys (length xs) (length xs + o + j) 0 refl (omega arith)
          ∙ ap (λ (i : ℕ). get_or ys i 0) (place j)
          ∙ stands.same j below;
    }
  where
    place : (j : ℕ) → (length xs + o + j) - length xs ≡ o + j
    place j = omega arith

-- Read back.

pub number_at-stands : (file : List ℕ) (o : ℕ) (bytes : List ℕ) (i n : ℕ) → Stands file o bytes → i + n ≤ length bytes →
    number_at file (o + i) n ≡ number_at bytes i n
number_at-stands file o bytes i n stands inside =
    little_from-same 0 n (drop (o + i) file) (drop i bytes)
    (λ k low high. get_or-drop (o + i) file k 0 ∙ ap (λ (j : ℕ). get_or file j 0) (place k) ∙ stands.same (i + k) (omega arith)
    ∙ sym (get_or-drop i bytes k 0))
  where
    place : (k : ℕ) → (o + i) + k ≡ o + (i + k)
    place k = omega arith

-- the bytes from there on are these
pub take-stands : (file : List ℕ) (o : ℕ) (bytes : List ℕ) → Stands file o bytes → take (length bytes) (drop o file) ≡ bytes
take-stands file o bytes stands =
    let old : o + length bytes ≤ length file = stands.within in
    let size : length (take (length bytes) (drop o file)) ≡ length bytes = grind (arith, common_steps) in
    same_number_lists _ bytes size
    (λ k below. get_or-take (length bytes) (drop o file) k 0 (omega arith) ∙ get_or-drop o file k 0 ∙ stands.same k (omega arith))

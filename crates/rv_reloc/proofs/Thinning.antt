-- Lists without some relocations: in another order, concatenated, and composed.
use Rattle.std.proofs.Common.{◌≡◌, ◌∙◌, ap, sym, subst, ℕ, ◌+◌, ◌≤◌, ◌⊎◌, inl, inr, Bool, List, [], ◌∷◌, ◌++◌}
use Rattle.std.proofs.Common.{cond, arith, ⊎_elim, append_assoc}
use Rattle.std.specs.List.{count_by, Contains, flat_map}
use Rattle.std.specs.List.Sorted.{IsPermutation}
use Rattle.std.proofs.lemmas.List.Concat.{flat_map-cons}
use Rattle.std.proofs.lemmas.List.Elements.{Contains-append_left, Contains-append_right, Contains-append_cases}
use Rattle.std.proofs.lemmas.List.Sums.{sum_by-append}
use Rattle.std.proofs.lemmas.List.Sorted.{Contains-permutation, IsPermutation-sym, IsPermutation-refl, IsPermutation-trans}
use Rattle.std.proofs.lemmas.List.Sorted.{IsPermutation-append, IsPermutation-append_comm, IsPermutation-append_left}
use Rattle.std.proofs.lemmas.List.Sorted.{IsPermutation-append_right, sum_by-IsPermutation}
use Rattle.elf_code.specs.Relocations.{Relocation}
use Rattle.rv_reloc.specs.Thinned.{for_section, IsThinned}

-- Lists in another order.

pub moved-same : {A : Type 0} (xs ys : List A) → xs ≡ ys → IsPermutation xs ys
moved-same xs ys same = subst (IsPermutation xs) same (IsPermutation-refl xs)

-- The middle two of four lists are swapped.
pub moved-middle : {A : Type 0} (a b c d : List A) → IsPermutation ((a ++ b) ++ (c ++ d)) ((a ++ c) ++ (b ++ d))
moved-middle {A} a b c d =
    subst (λ (xs : List A). IsPermutation xs ((a ++ c) ++ (b ++ d))) (sym (append_assoc a b (c ++ d)))
    (subst (λ (xs : List A). IsPermutation (a ++ (b ++ (c ++ d))) xs) (sym (append_assoc a c (b ++ d)))
    (IsPermutation-append_right a (b ++ (c ++ d)) (c ++ (b ++ d)) swapped))
  where
    swapped : IsPermutation (b ++ (c ++ d)) (c ++ (b ++ d))
    swapped =
        subst (λ (xs : List A). IsPermutation xs (c ++ (b ++ d))) (append_assoc b c d)
        (subst (λ (xs : List A). IsPermutation ((b ++ c) ++ d) xs) (append_assoc c b d)
        (IsPermutation-append_left d (b ++ c) (c ++ b) (IsPermutation-append_comm b c)))

-- Two lists for each item.
pub moved-parts : {X A : Type 0} (f g : X → List A) (xs : List X) →
    IsPermutation (flat_map (λ x. f x ++ g x) xs) (flat_map f xs ++ flat_map g xs)
moved-parts f g [] = IsPermutation-refl []
moved-parts {X} {A} f g (x ∷ xs) =
    let one = flat_map-cons (λ y. f y ++ g y) x xs in
    let two : flat_map f (x ∷ xs) ++ flat_map g (x ∷ xs) ≡ (f x ++ flat_map f xs) ++ (g x ++ flat_map g xs) =
    (λ i. flat_map-cons f x xs i ++ flat_map-cons g x xs i) in
    subst (λ (zs : List A). IsPermutation zs (flat_map f (x ∷ xs) ++ flat_map g (x ∷ xs))) (sym one)
    (subst (λ (zs : List A). IsPermutation ((f x ++ g x) ++ flat_map (λ y. f y ++ g y) xs) zs) (sym two)
    (IsPermutation-trans ((f x ++ g x) ++ flat_map (λ y. f y ++ g y) xs) ((f x ++ g x) ++ (flat_map f xs ++ flat_map g xs))
    ((f x ++ flat_map f xs) ++ (g x ++ flat_map g xs))
    (IsPermutation-append_right (f x ++ g x) (flat_map (λ y. f y ++ g y) xs) (flat_map f xs ++ flat_map g xs) (moved-parts f g xs))
    (moved-middle (f x) (g x) (flat_map f xs) (flat_map g xs))))

-- Lists without some relocations.

pub count-append : {A : Type 0} (test : A → Bool) (xs ys : List A) →
    count_by test (xs ++ ys) ≡ count_by test xs + count_by test ys
count-append test xs ys = sum_by-append (λ x. cond (test x) 1 0) xs ys

pub thinned-moved : (full kept : List Relocation) → IsPermutation full kept → IsThinned full kept
thinned-moved full kept moved = record {
  back = λ r listed. Contains-permutation kept full r (IsPermutation-sym full kept moved) listed;
  starts = λ r listed. (r.section, Contains-permutation full kept r moved listed, omega arith);
  ends = λ r listed. (r.section, Contains-permutation full kept r moved listed, omega arith);
  counts = λ test same. inl (sum_by-IsPermutation (λ r. cond (test r) 1 0) full kept moved);
}

pub thinned-all : (full : List Relocation) → IsThinned full full
thinned-all full = thinned-moved full full (IsPermutation-refl full)

-- The counts in three lists.
counts-trans : (a b c : ℕ) → (b ≡ a) ⊎ ((2 ≤ b) × (2 ≤ a)) → (c ≡ b) ⊎ ((2 ≤ c) × (2 ≤ b)) → (c ≡ a) ⊎ ((2 ≤ c) × (2 ≤ a))
counts-trans a b c (inl same) (inl same') = inl (same' ∙ same)
counts-trans a b c (inl same) (inr (two, two')) = inr (two, omega arith)
counts-trans a b c (inr (two, two')) (inl same) = inr (omega arith, two')
counts-trans a b c (inr (two, two')) (inr (more, more')) = inr (more, two')

pub thinned-trans : (a b c : List Relocation) → IsThinned a b → IsThinned b c → IsThinned a c
thinned-trans a b c first second = record {
  back = λ r listed. first.back r (second.back r listed);
  starts = λ r listed.
      let (s, in_b, up) = first.starts r listed in
      let (t, in_c, up') = second.starts (for_section s r) in_b in
      (t, in_c, omega (arith, up, up'));
  ends = λ r listed.
      let (s, in_b, down) = first.ends r listed in
      let (t, in_c, down') = second.ends (for_section s r) in_b in
      (t, in_c, omega (arith, down, down'));
  counts = λ test same.
      counts-trans (count_by test a) (count_by test b) (count_by test c) (first.counts test same) (second.counts test same);
}

-- The counts in two pairs of lists.
counts-sum : (a b c d : ℕ) → (b ≡ a) ⊎ ((2 ≤ b) × (2 ≤ a)) → (d ≡ c) ⊎ ((2 ≤ d) × (2 ≤ c)) →
    (b + d ≡ a + c) ⊎ ((2 ≤ b + d) × (2 ≤ a + c))
counts-sum a b c d (inl same) (inl same') = inl (omega arith)
counts-sum a b c d (inl same) (inr (two, two')) = inr (omega arith, omega arith)
counts-sum a b c d (inr (two, two')) other = inr (omega arith, omega arith)

pub thinned-append : (a b c d : List Relocation) → IsThinned a b → IsThinned c d → IsThinned (a ++ c) (b ++ d)
thinned-append a b c d left right = record {
  back = λ r listed. ⊎_elim
      (λ (one : Contains b r). Contains-append_left a c r (left.back r one))
      (λ (other : Contains d r). Contains-append_right a c r (right.back r other))
      (Contains-append_cases b d r listed);
  starts = λ r listed. ⊎_elim
      (λ (one : Contains a r). let (s, kept, up) = left.starts r one in (s, Contains-append_left b d (for_section s r) kept, up))
      (λ (other : Contains c r).
      let (s, kept, up) = right.starts r other in (s, Contains-append_right b d (for_section s r) kept, up))
      (Contains-append_cases a c r listed);
  ends = λ r listed. ⊎_elim
      (λ (one : Contains a r). let (s, kept, down) = left.ends r one in (s, Contains-append_left b d (for_section s r) kept, down))
      (λ (other : Contains c r).
      let (s, kept, down) = right.ends r other in (s, Contains-append_right b d (for_section s r) kept, down))
      (Contains-append_cases a c r listed);
  counts = λ test same.
      let of_full = count-append test a c in
      let of_kept = count-append test b d in
      let sum = counts-sum (count_by test a) (count_by test b) (count_by test c) (count_by test d)
      (left.counts test same) (right.counts test same) in
      subst (λ (n : ℕ). (n ≡ count_by test (a ++ c)) ⊎ ((2 ≤ n) × (2 ≤ count_by test (a ++ c)))) (sym of_kept)
      (subst (λ (n : ℕ). (count_by test b + count_by test d ≡ n) ⊎ ((2 ≤ count_by test b + count_by test d) × (2 ≤ n)))
      (sym of_full) sum);
}

-- One list of finished runs and of the rest of two sources, in place of both sources.

pub thinned-swapped : (done l r done' l' r' : List Relocation) → IsThinned (done ++ (r ++ l)) (done' ++ (r' ++ l')) →
    IsThinned (done ++ (l ++ r)) (done' ++ (l' ++ r'))
thinned-swapped done l r done' l' r' is =
    thinned-trans (done ++ (l ++ r)) (done ++ (r ++ l)) (done' ++ (l' ++ r'))
    (thinned-moved (done ++ (l ++ r)) (done ++ (r ++ l))
    (IsPermutation-append_right done (l ++ r) (r ++ l) (IsPermutation-append_comm l r)))
    (thinned-trans (done ++ (r ++ l)) (done' ++ (r' ++ l')) (done' ++ (l' ++ r')) is
    (thinned-moved (done' ++ (r' ++ l')) (done' ++ (l' ++ r'))
    (IsPermutation-append_right done' (r' ++ l') (l' ++ r') (IsPermutation-append_comm r' l'))))

-- The first run of the left source is done.
pub thinned-done : (done one l r : List Relocation) → IsThinned (done ++ ((one ++ l) ++ r)) ((done ++ one) ++ (l ++ r))
thinned-done done one l r =
    thinned-moved (done ++ ((one ++ l) ++ r)) ((done ++ one) ++ (l ++ r))
    (moved-same (done ++ ((one ++ l) ++ r)) ((done ++ one) ++ (l ++ r))
    (ap (λ (xs : List Relocation). done ++ xs) (append_assoc one l r) ∙ sym (append_assoc done one (l ++ r))))

-- The first runs of both sources have common entries: the entries before them are done, the entries after them are
-- left, and some of the common relocations are left out.
pub thinned-common : (done one l two r before common behind common' behind' kept : List Relocation) →
    IsPermutation one (before ++ (common ++ behind)) → IsPermutation two (common' ++ behind') →
    IsThinned (common ++ common') kept →
    IsThinned (done ++ ((one ++ l) ++ (two ++ r))) (((done ++ before) ++ kept) ++ ((behind ++ l) ++ (behind' ++ r)))
thinned-common done one l two r before common behind common' behind' kept parts parts' is =
    thinned-trans (done ++ ((one ++ l) ++ (two ++ r))) (((done ++ before) ++ (common ++ common')) ++ left)
    (((done ++ before) ++ kept) ++ left)
    (thinned-moved (done ++ ((one ++ l) ++ (two ++ r))) (((done ++ before) ++ (common ++ common')) ++ left) moved)
    (thinned-append ((done ++ before) ++ (common ++ common')) ((done ++ before) ++ kept) left left
    (thinned-append (done ++ before) (done ++ before) (common ++ common') kept (thinned-all (done ++ before)) is)
    (thinned-all left))
  where
    u : List Relocation
    u = behind ++ l

    v : List Relocation
    v = behind' ++ r

    left : List Relocation
    left = u ++ v

    moved_parts : IsPermutation ((one ++ l) ++ (two ++ r)) (((before ++ (common ++ behind)) ++ l) ++ ((common' ++ behind') ++ r))
    moved_parts =
        IsPermutation-append (one ++ l) ((before ++ (common ++ behind)) ++ l) (two ++ r) ((common' ++ behind') ++ r)
        (IsPermutation-append_left l one (before ++ (common ++ behind)) parts)
        (IsPermutation-append_left r two (common' ++ behind') parts')

    joined : done ++ (((before ++ (common ++ behind)) ++ l) ++ ((common' ++ behind') ++ r))
        ≡ (done ++ before) ++ ((common ++ u) ++ (common' ++ v))
    joined =
        ap (λ (xs : List Relocation). done ++ (xs ++ ((common' ++ behind') ++ r)))
        (append_assoc before (common ++ behind) l ∙ ap (λ (xs : List Relocation). before ++ xs) (append_assoc common behind l))
        ∙ ap (λ (xs : List Relocation). done ++ ((before ++ (common ++ u)) ++ xs)) (append_assoc common' behind' r)
        ∙ ap (λ (xs : List Relocation). done ++ xs) (append_assoc before (common ++ u) (common' ++ v))
        ∙ sym (append_assoc done before ((common ++ u) ++ (common' ++ v)))

    moved : IsPermutation (done ++ ((one ++ l) ++ (two ++ r))) (((done ++ before) ++ (common ++ common')) ++ left)
    moved =
        IsPermutation-trans (done ++ ((one ++ l) ++ (two ++ r))) ((done ++ before) ++ ((common ++ u) ++ (common' ++ v)))
        (((done ++ before) ++ (common ++ common')) ++ left)
        (subst (λ (xs : List Relocation). IsPermutation (done ++ ((one ++ l) ++ (two ++ r))) xs) joined
        (IsPermutation-append_right done ((one ++ l) ++ (two ++ r))
        (((before ++ (common ++ behind)) ++ l) ++ ((common' ++ behind') ++ r)) moved_parts))
        (subst (λ (xs : List Relocation). IsPermutation ((done ++ before) ++ ((common ++ u) ++ (common' ++ v))) xs)
        (sym (append_assoc (done ++ before) (common ++ common') left))
        (IsPermutation-append_right (done ++ before) ((common ++ u) ++ (common' ++ v)) ((common ++ common') ++ left)
        (moved-middle common u common' v)))

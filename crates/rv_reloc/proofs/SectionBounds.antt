-- Of the sections that some relocations apply to, the one that starts last and the one that ends first.
use Rattle.std.proofs.Common.{◌≡◌, ◌∙◌, ap, sym, refl, subst, ℕ, ◌≤◌, ◌<◌, List, [], ◌∷◌, ◌++◌, arith, Bool, if◌then◌else◌, length}
use Rattle.std.proofs.Common.{⊎_elim, ◌⊎◌, inl, inr}
use Rattle.std.specs.List.{range_with_len, Contains, count_by}
use Rattle.std.proofs.lemmas.Bool.{cases_lt, lt-ltb, le-ltb}
use Rattle.std.proofs.lemmas.List.Concat.{flat_map-cons}
use Rattle.std.proofs.lemmas.List.Elements.{Contains-append_cases, Contains-append_left, Contains-append_right}
use Rattle.rb_bytes.proofs.ListLemmas.{from_flat, in_flat, from_map, in_map, only_one}
use Rattle.rb_bytes.proofs.Members.{Contains-cons_cases}
use Rattle.elf_image.specs.declared.section.Section.{Section}
use Rattle.elf_code.specs.Relocations.{Relocation}
use Rattle.rv_reloc.specs.declared.applies_to.AppliesTo.{AppliesTo}
use Rattle.rv_reloc.specs.declared.applies_to.AppliesTo.TheVariants.{One, Several}
use Rattle.rv_reloc.specs.AppliesTo.{sections_of, last_start, first_end, end_of, later_start, sooner_end}
use Rattle.rv_reloc.specs.EntryRuns.{entry}
use Rattle.rv_reloc.specs.Thinned.{for_section, IsThinned}
use Rattle.rv_reloc.proofs.EntrySpans.{span, spans}
use Rattle.rv_reloc.proofs.Only.{count-map}
use Rattle.rv_reloc.proofs.Thinning.{count-append}

two_of : {A : Type 0} (x y z : A) (P : A → Type 0) → Contains (x ∷ y ∷ []) z → P x → P y → P z
two_of x y z P listed of_x of_y = ⊎_elim
    (λ (first : x ≡ z). subst P first of_x)
    (λ (second : Contains (y ∷ []) z). subst P (only_one y z second) of_y)
    (Contains-cons_cases x (y ∷ []) z listed)

has_last : (a : AppliesTo) → Contains (sections_of a) (last_start a)
has_last (One s) = (0, omega arith, refl)
has_last (Several last first) = (0, omega arith, refl)

has_first : (a : AppliesTo) → Contains (sections_of a) (first_end a)
has_first (One s) = (0, omega arith, refl)
has_first (Several last first) = (1, omega arith, refl)

pub has_one : (a : AppliesTo) → 1 ≤ length (sections_of a)
has_one (One s) = omega arith
has_one (Several last first) = omega arith

in_bounds : (a : AppliesTo) → (first_end a).addr ≤ (last_start a).addr → end_of (first_end a) ≤ end_of (last_start a) →
    (s : Section) → Contains (sections_of a) s → (s.addr ≤ (last_start a).addr) × (end_of (first_end a) ≤ end_of s)
in_bounds (One x) up down s listed =
    subst (λ (t : Section). (t.addr ≤ x.now.addr) × (end_of x.now ≤ end_of t)) (only_one x.now s listed) (omega arith, omega arith)
in_bounds (Several l f) up down s listed =
    two_of l.now f.now s (λ (t : Section). (t.addr ≤ l.now.addr) × (end_of f.now ≤ end_of t)) listed (omega arith, down)
    (up, omega arith)

later : (s t : Section) (P : Section → Type 0) → (s.addr < t.addr → P t) → (t.addr ≤ s.addr → P s) → P (later_start s t)
later s t P more less = ⊎_elim
    (λ (up : s.addr < t.addr). subst P (sym (ap (λ (b : Bool). if b then t else s) (lt-ltb s.addr t.addr up))) (more up))
    (λ (down : t.addr ≤ s.addr). subst P (sym (ap (λ (b : Bool). if b then t else s) (le-ltb s.addr t.addr down))) (less down))
    (cases_lt s.addr t.addr)

sooner : (s t : Section) (P : Section → Type 0) → (end_of t < end_of s → P t) → (end_of s ≤ end_of t → P s) → P (sooner_end s t)
sooner s t P less more = ⊎_elim
    (λ (down : end_of t < end_of s).
    subst P (sym (ap (λ (b : Bool). if b then t else s) (lt-ltb (end_of t) (end_of s) down))) (less down))
    (λ (up : end_of s ≤ end_of t).
    subst P (sym (ap (λ (b : Bool). if b then t else s) (le-ltb (end_of t) (end_of s) up))) (more up))
    (cases_lt (end_of t) (end_of s))

-- The two sections that are kept.
pub record AreBounds (all : List Section) (last first : Section) : Type 0 where
  pub has_last : Contains all last
  pub has_first : Contains all first
  pub starts : (s : Section) → Contains all s → s.addr ≤ last.addr
  pub ends : (s : Section) → Contains all s → end_of first ≤ end_of s

-- The order of a run's two sections.
abbrev pub AreInOrder : AppliesTo → Type 0
AreInOrder a = ((first_end a).addr ≤ (last_start a).addr) × (end_of (first_end a) ≤ end_of (last_start a))

pub joined-bounds : (a b : AppliesTo) → AreInOrder a → AreInOrder b →
    AreBounds (sections_of a ++ sections_of b) (later_start (last_start a) (last_start b)) (sooner_end (first_end a) (first_end b))
joined-bounds a b of_a of_b = record {
  has_last = later (last_start a) (last_start b) (Contains all)
      (λ up. Contains-append_right (sections_of a) (sections_of b) (last_start b) (has_last b))
      (λ down. Contains-append_left (sections_of a) (sections_of b) (last_start a) (has_last a));
  has_first = sooner (first_end a) (first_end b) (Contains all)
      (λ down. Contains-append_right (sections_of a) (sections_of b) (first_end b) (has_first b))
      (λ up. Contains-append_left (sections_of a) (sections_of b) (first_end a) (has_first a));
  starts = λ s listed. ⊎_elim
      (λ (one : Contains (sections_of a) s).
      let below = (in_bounds a of_a.0 of_a.1 s one).0 in
      later (last_start a) (last_start b) (λ (t : Section). s.addr ≤ t.addr) (λ up. omega (arith, below)) (λ down. below))
      (λ (other : Contains (sections_of b) s).
      let below = (in_bounds b of_b.0 of_b.1 s other).0 in
      later (last_start a) (last_start b) (λ (t : Section). s.addr ≤ t.addr) (λ up. below) (λ down. omega (arith, below)))
      (Contains-append_cases (sections_of a) (sections_of b) s listed);
  ends = λ s listed. ⊎_elim
      (λ (one : Contains (sections_of a) s).
      let above = (in_bounds a of_a.0 of_a.1 s one).1 in
      sooner (first_end a) (first_end b) (λ (t : Section). end_of t ≤ end_of s) (λ down. omega (arith, above)) (λ up. above))
      (λ (other : Contains (sections_of b) s).
      let above = (in_bounds b of_b.0 of_b.1 s other).1 in
      sooner (first_end a) (first_end b) (λ (t : Section). end_of t ≤ end_of s) (λ down. above) (λ up. omega (arith, above)))
      (Contains-append_cases (sections_of a) (sections_of b) s listed);
}
  where
    all : List Section
    all = sections_of a ++ sections_of b

-- The relocations for two different sections.
module _ (file : List ℕ) (phase a n : ℕ) where
  for_another : (s t : Section) (r : Relocation) → Contains (span file phase a n s) r →
      Contains (span file phase a n t) (for_section t r) × (r.section.addr ≡ s.addr) × (end_of r.section ≡ end_of s)
  for_another s t r listed =
      let (k, is_in, same) = from_map (entry file phase s) (range_with_len a n) r listed in (
        subst (λ (q : Relocation). Contains (span file phase a n t) q) (ap (for_section t) same)
            (in_map (entry file phase t) (range_with_len a n) k is_in),
        sym (ap (λ (q : Relocation). q.section.addr) same),
        sym (ap (λ (q : Relocation). end_of q.section) same),
      )

  -- A test that ignores the section passes equally often for each section.
  abbrev passing : (Relocation → Bool) → Section → ℕ
  passing test s = count_by (λ (k : ℕ). test (entry file phase s k)) (range_with_len a n)

  same_passing : (test : Relocation → Bool) → ((s : Section) (r : Relocation) → test (for_section s r) ≡ test r) →
      (s t : Section) → count_by test (span file phase a n s) ≡ passing test t
  same_passing test same s t =
      let tests : (λ (k : ℕ). test (entry file phase s k)) ≡ (λ (k : ℕ). test (entry file phase t k)) =
      λ i k. sym (same t (entry file phase s k)) i in
      count-map (entry file phase s) test (range_with_len a n)
      ∙ ap (λ (f : ℕ → Bool). count_by f (range_with_len a n)) tests

  none_pass : (test : Relocation → Bool) (c : ℕ) → ((s : Section) → count_by test (span file phase a n s) ≡ c) → c ≡ 0 →
      (sections : List Section) → count_by test (spans file sections phase a n) ≡ 0
  none_pass test c each none [] = refl
  none_pass test c each none (s ∷ ss) =
      let one = each s in
      let rest = none_pass test c each none ss in
      let sum = count-append test (span file phase a n s) (spans file ss phase a n) in
      ap (count_by test) (flat_map-cons (span file phase a n) s ss)
      ∙ (let e : count_by test (span file phase a n s ++ spans file ss phase a n) ≡ 0 = omega (arith, sum, one, rest, none) in e)

  some_pass : (test : Relocation → Bool) (c : ℕ) → ((s : Section) → count_by test (span file phase a n s) ≡ c) → 1 ≤ c →
      (sections : List Section) → length sections ≤ count_by test (spans file sections phase a n)
  some_pass test c each some [] = omega arith
  some_pass test c each some (s ∷ ss) =
      let one = each s in
      let rest = some_pass test c each some ss in
      let sum = count-append test (span file phase a n s) (spans file ss phase a n) in
      let all = ap (count_by test) (flat_map-cons (span file phase a n) s ss) in
      omega (arith, one, rest, sum, all, some)

  pub bounds-thinned : (all : List Section) (last first : Section) → AreBounds all last first → 2 ≤ length all →
      IsThinned (spans file all phase a n) (spans file (last ∷ first ∷ []) phase a n)
  bounds-thinned all last first are two = record {
    back = λ r listed.
        let (s, is_kept, there) = from_flat (span file phase a n) (last ∷ first ∷ []) r listed in
        in_flat (span file phase a n) all s r (two_of last first s (Contains all) is_kept are.has_last are.has_first) there;
    starts = λ r listed.
        let (s, is_in, there) = from_flat (span file phase a n) all r listed in
        let (kept, start, end) = for_another s last r there in
        let up = are.starts s is_in in (
          last,
          in_flat (span file phase a n) (last ∷ first ∷ []) last (for_section last r) (0, omega arith, refl) kept,
          omega (arith, up, start),
        );
    ends = λ r listed.
        let (s, is_in, there) = from_flat (span file phase a n) all r listed in
        let (kept, start, end) = for_another s first r there in
        let down = are.ends s is_in in (
          first,
          in_flat (span file phase a n) (last ∷ first ∷ []) first (for_section first r) (1, omega arith, refl) kept,
          omega (arith, down, end),
        );
    counts = λ test same.
        let c = passing test last in
        let each : (s : Section) → count_by test (span file phase a n s) ≡ c = λ s. same_passing test same s last in
        by test c each (cases_lt 0 c);
  }
    where
      by : (test : Relocation → Bool) (c : ℕ) → ((s : Section) → count_by test (span file phase a n s) ≡ c) →
          (0 < c) ⊎ (c ≤ 0) →
          (count_by test (spans file (last ∷ first ∷ []) phase a n) ≡ count_by test (spans file all phase a n))
          ⊎ ((2 ≤ count_by test (spans file (last ∷ first ∷ []) phase a n)) × (2 ≤ count_by test (spans file all phase a n)))
      by test c each (inl some) =
          let kept = some_pass test c each (omega (arith, some)) (last ∷ first ∷ []) in
          let full = some_pass test c each (omega (arith, some)) all in
          inr (omega (arith, kept), omega (arith, full, two))
      by test c each (inr none) =
          let zero_left : c ≡ 0 = omega (arith, none) in
          inl (none_pass test c each zero_left (last ∷ first ∷ []) ∙ sym (none_pass test c each zero_left all))

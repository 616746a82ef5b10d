-- Groups by the pairs that tie their members together.
use Rattle.std.proofs.Common.{subst, ℕ, ◌≡◌, ◌≢◌, ◌⊎◌, ◌<◌, ◌≤◌, ◌+◌, List, length, sym, ◌∙◌, ap, refl, arith, ⊎_elim, inl, inr}
use Rattle.std.specs.Prelude.{◌==◌, slice_index, if◌then◌else◌}
use Rattle.std.proofs.lemmas.Bool.{cases_eq}
use Rattle.std.proofs.lemmas.Grind.{common_steps}
use Rattle.func_place.specs.internal.Groups.{Grouping, IsGrouped}
use Rattle.func_place.specs.internal.TieList.{tie_at, Touch, AreTogether, same, more, Agrees}
use Rattle.func_place.proofs.GroupMoves.{IsJoined, count_new, number_new}

Touch-more : {ties : List (ℕ × ℕ)} {i f g : ℕ} → Touch ties i f g → Touch ties (i + 1) f g
Touch-more (inl t) = inl (record { by = t.by; within = omega (arith, t.within); ends = t.ends })
Touch-more (inr t) = inr (record { by = t.by; within = omega (arith, t.within); ends = t.ends })

together-more : {ties : List (ℕ × ℕ)} {i f g : ℕ} → AreTogether ties i f g → AreTogether ties (i + 1) f g
together-more same = same
together-more (more r t) = more (together-more r) (Touch-more t)

pub joined_on : {ties : List (ℕ × ℕ)} {i f g h : ℕ} → AreTogether ties i f g → AreTogether ties i g h → AreTogether ties i f h
joined_on r same = r
joined_on r (more s t) = more (joined_on r s) t

other_way : {ties : List (ℕ × ℕ)} {i f g : ℕ} → Touch ties i f g → Touch ties i g f
other_way (inl t) = inr t
other_way (inr t) = inl t

touch_ends : {ties : List (ℕ × ℕ)} {i : ℕ} {g : Grouping} → Agrees ties i g → (f h : ℕ) → Touch ties i f h →
    slice_index g.numbers f ≡ slice_index g.numbers h
touch_ends {g = g} a f h (inl t) =
    ap (slice_index g.numbers) (sym t.ends.0) ∙ a.ends t.by t.within ∙ ap (slice_index g.numbers) t.ends.1
touch_ends {g = g} a f h (inr t) =
    ap (slice_index g.numbers) (sym t.ends.1) ∙ sym (a.ends t.by t.within) ∙ ap (slice_index g.numbers) t.ends.0

pub numbers_agree : {ties : List (ℕ × ℕ)} {i f : ℕ} {g : Grouping} → Agrees ties i g → (h : ℕ) → AreTogether ties i f h →
    slice_index g.numbers f ≡ slice_index g.numbers h
numbers_agree a h same = refl
numbers_agree {g = g} a h (more {g = k} r t) = numbers_agree a k r ∙ touch_ends a k h t

pub agrees_first : (ties : List (ℕ × ℕ)) (g : Grouping) →
    ((u : ℕ) → u < length g.lists → slice_index g.numbers u ≡ u) → Agrees ties 0 g
agrees_first ties g alone = record {
  ends = λ k lt. absurd (omega arith);
  together = λ f h f_in h_in e. let s : f ≡ h = sym (alone f f_in) ∙ e ∙ alone h h_in in subst (AreTogether ties 0 f) s same;
}

-- a pair within one group
pub agrees_skip : (ties : List (ℕ × ℕ)) (i a b : ℕ) (g : Grouping) → tie_at ties i ≡ (a, b) →
    slice_index g.numbers a ≡ slice_index g.numbers b → Agrees ties i g → Agrees ties (i + 1) g
agrees_skip ties i a b g is e old =
    let here : slice_index g.numbers (tie_at ties i).0 ≡ slice_index g.numbers (tie_at ties i).1 = rw is e in
    record {
      ends = λ k lt. ⊎_elim (λ (s : k ≡ i). rw s here) (λ (ne : k ≢ i). old.ends k (omega arith)) (cases_eq k i);
      together = λ f h f_in h_in same_number. together-more (old.together f h f_in h_in same_number);
    }

-- a pair from two groups, which become one

same_new : (m n left kept : ℕ) → m ≡ n → (if m == left then kept else m) ≡ (if n == left then kept else n)
same_new m n left kept e = grind (arith, common_steps)

was_same : (m n left kept : ℕ) → (if m == left then kept else m) ≡ (if n == left then kept else n) →
    (m ≡ n) ⊎ (((m ≡ left) × (n ≡ kept)) ⊎ ((m ≡ kept) × (n ≡ left)))
was_same m n left kept e = ⊎_elim
    (λ (a : m ≡ left). ⊎_elim (λ (b : n ≡ left). inl (omega arith))
    (λ (b : n ≢ left). inr (inl (a, grind (arith, common_steps)))) (cases_eq n left))
    (λ (a : m ≢ left). ⊎_elim (λ (b : n ≡ left). inr (inr (grind (arith, common_steps), b)))
    (λ (b : n ≢ left). inl (grind (arith, common_steps))) (cases_eq n left))
    (cases_eq m left)

kept_now : (m left kept : ℕ) → (m ≡ left) ⊎ (m ≡ kept) → (if m == left then kept else m) ≡ kept
kept_now m left kept (inl e) = grind (arith, common_steps)
kept_now m left kept (inr e) = grind (arith, common_steps)

-- the numbers of both members
abbrev Meets : ℕ → ℕ → ℕ → ℕ → Type 0
Meets m n left kept = ((m ≡ left) × (n ≡ kept)) ⊎ ((m ≡ kept) × (n ≡ left))

met : (m n left kept : ℕ) → Meets m n left kept → (if m == left then kept else m) ≡ (if n == left then kept else n)
met m n left kept (inl e) = kept_now m left kept (inl e.0) ∙ sym (kept_now n left kept (inr e.1))
met m n left kept (inr e) = kept_now m left kept (inr e.0) ∙ sym (kept_now n left kept (inl e.1))

ends_meet : {old new : Grouping} {first second kept m n : ℕ} → (j : IsJoined old new first second kept) → m ≡ first →
    n ≡ second → Meets m n j.left kept
ends_meet {old} {new} {first} {second} {kept} {m} {n} j a b = ⊎_elim
    (λ (e : (j.left ≡ first) × (kept ≡ second)). inl (a ∙ sym e.0, b ∙ sym e.1))
    (λ (e : (j.left ≡ second) × (kept ≡ first)). inr (a ∙ sym e.1, b ∙ sym e.0))
    j.ends

here : (ties : List (ℕ × ℕ)) (i : ℕ) → Touch ties (i + 1) (tie_at ties i).0 (tie_at ties i).1
here ties i = inl (record { by = i; within = omega arith; ends = (refl, refl) })

through : {ties : List (ℕ × ℕ)} {i : ℕ} {g : Grouping} → Agrees ties i g → (a b f h : ℕ) → Touch ties (i + 1) a b
    → a < length g.lists → b < length g.lists → f < length g.lists → h < length g.lists
    → slice_index g.numbers f ≡ slice_index g.numbers a → slice_index g.numbers b ≡ slice_index g.numbers h
    → AreTogether ties (i + 1) f h
through old x y f h t x_in y_in f_in h_in d e =
    joined_on (more (together-more (old.together f x f_in x_in d)) t) (together-more (old.together y h y_in h_in e))

agrees_moved : (ties : List (ℕ × ℕ)) (i : ℕ) (old new : Grouping) (first second kept : ℕ) → IsGrouped old
    → IsJoined old new first second kept
    → ((k : ℕ) → k ≤ i → ((tie_at ties k).0 < length old.lists) × ((tie_at ties k).1 < length old.lists))
    → slice_index old.numbers (tie_at ties i).0 ≡ first → slice_index old.numbers (tie_at ties i).1 ≡ second → Agrees ties i old
    → Agrees ties (i + 1) new
agrees_moved ties i old new first second kept s j inside first_is second_is a =
    let len : length new.lists ≡ length old.lists = count_new j.moves in
    let left = j.left in
    let left_in = j.both.left_in in
    let x = (tie_at ties i).0 in
    let y = (tie_at ties i).1 in
    let x_in : x < length old.lists = (inside i (omega arith)).0 in
    let y_in : y < length old.lists = (inside i (omega arith)).1 in
    let meets : Meets (slice_index old.numbers x) (slice_index old.numbers y) left kept = ends_meet j first_is second_is in
    record {
      ends = λ k lt. ⊎_elim
          (λ (e : k ≡ i). rw (e, number_new s j.moves left_in x x_in, number_new s j.moves left_in y y_in)
          (met (slice_index old.numbers x) (slice_index old.numbers y) left kept meets))
          (λ (ne : k ≢ i). let within = inside k (omega arith) in
          rw (number_new s j.moves left_in (tie_at ties k).0 within.0, number_new s j.moves left_in (tie_at ties k).1 within.1)
          (same_new (slice_index old.numbers (tie_at ties k).0) (slice_index old.numbers (tie_at ties k).1) left kept
          (a.ends k (omega arith))))
          (cases_eq k i);
      together = λ f h f_lt h_lt e.
          let f_in : f < length old.lists = omega arith in
          let h_in : h < length old.lists = omega arith in
          let moved = sym (number_new s j.moves left_in f f_in) ∙ e ∙ number_new s j.moves left_in h h_in in
          ⊎_elim (λ (eq : slice_index old.numbers f ≡ slice_index old.numbers h). together-more (a.together f h f_in h_in eq))
          (λ either. ⊎_elim
          (λ (m : (slice_index old.numbers f ≡ left) × (slice_index old.numbers h ≡ kept)). ⊎_elim
          (λ (w : (slice_index old.numbers x ≡ left) × (slice_index old.numbers y ≡ kept)). through a x y f h
          (here ties i) x_in y_in f_in h_in (m.0 ∙ sym w.0) (w.1 ∙ sym m.1))
          (λ (w : (slice_index old.numbers x ≡ kept) × (slice_index old.numbers y ≡ left)). through a y x f h
          (other_way (here ties i)) y_in x_in f_in h_in (m.0 ∙ sym w.1) (w.0 ∙ sym m.1))
          meets)
          (λ (m : (slice_index old.numbers f ≡ kept) × (slice_index old.numbers h ≡ left)). ⊎_elim
          (λ (w : (slice_index old.numbers x ≡ left) × (slice_index old.numbers y ≡ kept)). through a y x f h
          (other_way (here ties i)) y_in x_in f_in h_in (m.0 ∙ sym w.1) (w.0 ∙ sym m.1))
          (λ (w : (slice_index old.numbers x ≡ kept) × (slice_index old.numbers y ≡ left)). through a x y f h
          (here ties i) x_in y_in f_in h_in (m.0 ∙ sym w.0) (w.1 ∙ sym m.1))
          meets)
          either)
          (was_same (slice_index old.numbers f) (slice_index old.numbers h) left kept moved);
    }

pub agrees_join : (ties : List (ℕ × ℕ)) (i a b : ℕ) (old new : Grouping) (kept : ℕ) → tie_at ties i ≡ (a, b) → IsGrouped old
    → IsJoined old new (slice_index old.numbers a) (slice_index old.numbers b) kept
    → ((k : ℕ) → k ≤ i → ((tie_at ties k).0 < length old.lists) × ((tie_at ties k).1 < length old.lists)) → Agrees ties i old
    → Agrees ties (i + 1) new
agrees_join ties i a b old new kept is s j inside =
    agrees_moved ties i old new (slice_index old.numbers a) (slice_index old.numbers b) kept s j inside
    (ap (λ (t : ℕ × ℕ). slice_index old.numbers t.0) is) (ap (λ (t : ℕ × ℕ). slice_index old.numbers t.1) is)

-- Groups after two of them became one.
use Rattle.std.proofs.Common.{subst, ℕ, ◌≡◌, ◌≢◌, ◌⊎◌, ◌<◌, ◌+◌, ◌||◌, Bool, true, false, List, [], ◌∷◌, ◌++◌, length, set, sym}
use Rattle.std.proofs.Common.{◌∙◌, ap, refl, arith, ⊎_elim, inl, inr, length-set, get_or-set_same, get_or-set_other}
use Rattle.std.specs.Prelude.{All, ◌==◌, slice_index, if◌then◌else◌}
use Rattle.std.proofs.Math.Bool.{or_comm}
use Rattle.std.proofs.lemmas.Bool.{cases_eq}
use Rattle.std.proofs.lemmas.List.{length_push, get_or_push, get_or_append_left}
use Rattle.std.proofs.lemmas.List.Elements.{All-append}
use Rattle.std.proofs.lemmas.List.Folds.{list_any-append}
use Rattle.std.proofs.lemmas.Grind.{common_steps}
use Rattle.func_place.specs.Clusters.{has_unit}
use Rattle.func_place.specs.internal.Groups.{Grouping, list_at, group_of, IsGrouped, Joins, MovesGroup}

-- Each number in a group of its own.

pub record IsApart (n : ℕ) (numbers : List ℕ) (lists : List (List ℕ)) : Type 0 where
  pub numbers_len : length numbers ≡ n
  pub lists_len : length lists ≡ n
  pub number : (k : ℕ) → k < n → slice_index numbers k ≡ k
  pub list : (k : ℕ) → k < n → list_at lists k ≡ k ∷ []

pub apart_more : {n : ℕ} {numbers : List ℕ} {lists : List (List ℕ)} → IsApart n numbers lists →
    IsApart (n + 1) (numbers ++ n ∷ []) (lists ++ (n ∷ []) ∷ [])
apart_more {n} {numbers} {lists} a =
    let nl = a.numbers_len in let ll = a.lists_len in
    record {
      numbers_len = length_push numbers n ∙ omega arith;
      lists_len = length_push lists (n ∷ []) ∙ omega arith;
      number = λ k k_lt. ⊎_elim (λ (e : k ≡ n). rw e (get_or_push numbers n 0 n nl))
          (λ (ne : k ≢ n). get_or_append_left numbers (n ∷ []) 0 k (omega arith) ∙ a.number k (omega arith)) (cases_eq k n);
      list = λ k k_lt. ⊎_elim (λ (e : k ≡ n). rw e (get_or_push lists (n ∷ []) [] n ll))
          (λ (ne : k ≢ n). get_or_append_left lists ((n ∷ []) ∷ []) [] k (omega arith) ∙ a.list k (omega arith)) (cases_eq k n);
    }

-- Two groups become one.

-- the conditions on the list of the joined group
pub record IsBoth (g : Grouping) (left kept : ℕ) (both : List ℕ) : Type 0 where
  pub apart : left ≢ kept
  pub left_in : left < length g.lists
  pub kept_in : kept < length g.lists
  pub units : (u : ℕ) → has_unit both u ≡ (has_unit (list_at g.lists left) u || has_unit (list_at g.lists kept) u)
  pub units_in : All (λ u. u < length g.lists) both

pub stay_kept : (m left kept : ℕ) → ((m == left) || (m == kept)) ≡ ((if m == left then kept else m) == kept)
stay_kept m left kept = grind (arith, common_steps)

stay_left : (m left kept : ℕ) → left ≢ kept → false ≡ ((if m == left then kept else m) == left)
stay_left m left kept apart = grind (arith, common_steps)

stay_other : (m left kept q : ℕ) → q ≢ left → q ≢ kept → (m == q) ≡ ((if m == left then kept else m) == q)
stay_other m left kept q a b = grind (arith, common_steps)

pub list_kept : (ls : List (List ℕ)) (left kept : ℕ) (both : List ℕ) → kept < length ls →
    list_at (set (set ls left []) kept both) kept ≡ both
list_kept ls left kept both lt = get_or-set_same (set ls left []) kept both [] (rw (length-set ls left []) lt)

list_left : (ls : List (List ℕ)) (left kept : ℕ) (both : List ℕ) → left ≢ kept → left < length ls →
    list_at (set (set ls left []) kept both) left ≡ []
list_left ls left kept both ne lt = get_or-set_other (set ls left []) kept left both [] ne ∙ get_or-set_same ls left [] [] lt

pub list_other : (ls : List (List ℕ)) (left kept q : ℕ) (both : List ℕ) → q ≢ left → q ≢ kept →
    list_at (set (set ls left []) kept both) q ≡ list_at ls q
list_other ls left kept q both a b = get_or-set_other (set ls left []) kept q both [] b ∙ get_or-set_other ls left q [] [] a

pub count_new : {old new : Grouping} {left kept : ℕ} {both : List ℕ} → MovesGroup old new left kept both →
    length new.lists ≡ length old.lists
count_new {old} {new} {left} {kept} {both} m =
    ap length m.lists ∙ length-set (set old.lists left []) kept both ∙ length-set old.lists left []

-- a member's new number, by its old one
pub number_new : {old new : Grouping} {left kept : ℕ} {both : List ℕ} → IsGrouped old → MovesGroup old new left kept both →
    left < length old.lists → (u : ℕ) → u < length old.lists →
    slice_index new.numbers u ≡ (if slice_index old.numbers u == left then kept else slice_index old.numbers u)
number_new {old} {new} {left} {kept} s m lt u u_in = m.numbers u (rw s.numbers_len u_in)
    ∙ ap (λ (b : Bool). if b then kept else slice_index old.numbers u) (s.stands u left u_in lt)

grouped_moves : {old new : Grouping} {left kept : ℕ} {both : List ℕ} → IsGrouped old → MovesGroup old new left kept both →
    IsBoth old left kept both → IsGrouped new
grouped_moves {old} {new} {left} {kept} {both} s m b =
    let len : length new.lists ≡ length old.lists = count_new m in
    record {
      numbers_len = m.numbers_len ∙ s.numbers_len ∙ sym len;
      number_in = λ u lt. let u_in : u < length old.lists = omega arith in
          let is = number_new s m b.left_in u u_in in
          let was = s.number_in u u_in in
          let k = b.kept_in in
          grind (arith, common_steps);
      members_in = λ q lt. let q_in : q < length old.lists = omega arith in rw (len, m.lists) (
          ⊎_elim (λ (e : q ≡ kept). rw (e, list_kept old.lists left kept both b.kept_in) b.units_in)
          (λ (ne : q ≢ kept). ⊎_elim
          (λ (e : q ≡ left). rw (e, list_left old.lists left kept both b.apart b.left_in) (λ k d none. absurd (omega arith)))
          (λ (other : q ≢ left). rw (list_other old.lists left kept q both other ne) (s.members_in q q_in)) (cases_eq q left))
          (cases_eq q kept));
      stands = λ u q lt q_lt. let u_in : u < length old.lists = omega arith in let q_in : q < length old.lists = omega arith in
          rw (m.lists, number_new s m b.left_in u u_in) (
          ⊎_elim (λ (e : q ≡ kept). rw (e, list_kept old.lists left kept both b.kept_in) (b.units u ∙ rw
          (s.stands u left u_in b.left_in, s.stands u kept u_in b.kept_in) (stay_kept (slice_index old.numbers u) left kept)))
          (λ (ne : q ≢ kept). ⊎_elim (λ (e : q ≡ left). rw (e, list_left old.lists left kept both b.apart b.left_in)
          (stay_left (slice_index old.numbers u) left kept b.apart))
          (λ (other : q ≢ left). rw (list_other old.lists left kept q both other ne)
          (s.stands u q u_in q_in ∙ stay_other (slice_index old.numbers u) left kept q other ne)) (cases_eq q left))
          (cases_eq q kept));
    }

-- The members of one group moved to the other, with the second group's members after the first's.
pub record IsJoined (old new : Grouping) (first second kept : ℕ) : Type 0 where
  pub left : ℕ
  pub moves : MovesGroup old new left kept (list_at old.lists first ++ list_at old.lists second)
  pub both : IsBoth old left kept (list_at old.lists first ++ list_at old.lists second)
  pub ends : ((left ≡ first) × (kept ≡ second)) ⊎ ((left ≡ second) × (kept ≡ first))

units_of_both : (a b : List ℕ) (u : ℕ) → has_unit (a ++ b) u ≡ (has_unit a u || has_unit b u)
units_of_both a b u = list_any-append (λ v. v == u) a b

pub joined_from : {old new : Grouping} {first second kept : ℕ} → IsGrouped old → first ≢ second → first < length old.lists →
    second < length old.lists → Joins old new first second kept → IsJoined old new first second kept
joined_from {old} {new} {first} {second} {kept} s apart first_in second_in (inl (is, m)) = record {
  left = first;
  moves = subst (λ (k : ℕ). MovesGroup old new first k (list_at old.lists first ++ list_at old.lists second)) (sym is) m;
  both = subst (λ (k : ℕ). IsBoth old first k (list_at old.lists first ++ list_at old.lists second)) (sym is) (record {
    apart = apart;
    left_in = first_in;
    kept_in = second_in;
    units = units_of_both (list_at old.lists first) (list_at old.lists second);
    units_in = All-append (λ w. w < length old.lists) (list_at old.lists first) (list_at old.lists second)
        (s.members_in first first_in) (s.members_in second second_in);
  });
  ends = inl (refl, is);
}
joined_from {old} {new} {first} {second} {kept} s apart first_in second_in (inr (is, m)) = record {
  left = second;
  moves = subst (λ (k : ℕ). MovesGroup old new second k (list_at old.lists first ++ list_at old.lists second)) (sym is) m;
  both = subst (λ (k : ℕ). IsBoth old second k (list_at old.lists first ++ list_at old.lists second)) (sym is) (record {
    apart = λ e. apart (sym e);
    left_in = second_in;
    kept_in = first_in;
    units = λ u. units_of_both (list_at old.lists first) (list_at old.lists second) u
        ∙ or_comm (has_unit (list_at old.lists first) u) (has_unit (list_at old.lists second) u);
    units_in = All-append (λ w. w < length old.lists) (list_at old.lists first) (list_at old.lists second)
        (s.members_in first first_in) (s.members_in second second_in);
  });
  ends = inr (refl, is);
}

pub grouped_joined : {old new : Grouping} {first second kept : ℕ} → IsGrouped old →
    IsJoined old new first second kept → IsGrouped new
grouped_joined s j = grouped_moves s j.moves j.both

-- a member of the joined group has its number, and any other member keeps its own
in_both : (m left kept : ℕ) (b : Bool) → b ≡ ((m == left) || (m == kept)) → b ≡ true → (if m == left then kept else m) ≡ kept
in_both m left kept b is h = grind (arith, common_steps)

out_of_both : (m left kept : ℕ) (b : Bool) → b ≡ ((m == left) || (m == kept)) → b ≡ false →
    ((if m == left then kept else m) ≡ m) × (m ≢ left) × (m ≢ kept)
out_of_both m left kept b is h = (grind (arith, common_steps), grind (arith, common_steps), grind (arith, common_steps))

among_both : {old : Grouping} {left kept : ℕ} {both : List ℕ} → IsGrouped old → IsBoth old left kept both → (u : ℕ) →
    u < length old.lists → has_unit both u ≡ ((slice_index old.numbers u == left) || (slice_index old.numbers u == kept))
among_both s b u u_in = b.units u ∙ rw (s.stands u _ u_in b.left_in, s.stands u _ u_in b.kept_in) refl

pub number_among : {old new : Grouping} {first second kept : ℕ} → IsGrouped old → IsJoined old new first second kept → (u : ℕ) →
    u < length old.lists → has_unit (list_at old.lists first ++ list_at old.lists second) u ≡ true →
    slice_index new.numbers u ≡ kept
number_among {old} {new} {first} {second} {kept} s j u u_in among =
    number_new s j.moves j.both.left_in u u_in ∙ in_both (slice_index old.numbers u) j.left kept
    (has_unit (list_at old.lists first ++ list_at old.lists second) u) (among_both s j.both u u_in) among

-- a member of another group
pub record IsElsewhere (old new : Grouping) (first second kept u : ℕ) : Type 0 where
  pub number : slice_index new.numbers u ≡ slice_index old.numbers u
  pub not_first : slice_index old.numbers u ≢ first
  pub not_second : slice_index old.numbers u ≢ second
  pub not_kept : slice_index old.numbers u ≢ kept

pub number_elsewhere : {old new : Grouping} {first second kept : ℕ} → IsGrouped old → IsJoined old new first second kept →
    (u : ℕ) → u < length old.lists → has_unit (list_at old.lists first ++ list_at old.lists second) u ≡ false →
    IsElsewhere old new first second kept u
number_elsewhere {old} {new} {first} {second} {kept} s j u u_in apart =
    let out = out_of_both (slice_index old.numbers u) j.left kept
    (has_unit (list_at old.lists first ++ list_at old.lists second) u)
    (among_both s j.both u u_in) apart in
    let is = number_new s j.moves j.both.left_in u u_in ∙ out.0 in
    ⊎_elim
    (λ (e : (j.left ≡ first) × (kept ≡ second)). record {
      number = is;
      not_first = λ f. out.1 (f ∙ sym e.0);
      not_second = λ f. out.2 (f ∙ sym e.1);
      not_kept = out.2;
    })
    (λ (e : (j.left ≡ second) × (kept ≡ first)). record {
      number = is;
      not_first = λ f. out.2 (f ∙ sym e.1);
      not_second = λ f. out.1 (f ∙ sym e.0);
      not_kept = out.2;
    })
    j.ends

pub group_among : {old new : Grouping} {first second kept : ℕ} → IsGrouped old → IsJoined old new first second kept → (u : ℕ) →
    u < length old.lists → has_unit (list_at old.lists first ++ list_at old.lists second) u ≡ true →
    group_of new u ≡ list_at old.lists first ++ list_at old.lists second
group_among {old} {new} {first} {second} {kept} s j u u_in among =
    ap (list_at new.lists) (number_among s j u u_in among) ∙ ap (λ (ls : List (List ℕ)). list_at ls kept) j.moves.lists
    ∙ list_kept old.lists j.left kept (list_at old.lists first ++ list_at old.lists second) j.both.kept_in

pub group_elsewhere : {old new : Grouping} {first second kept : ℕ} → IsGrouped old → IsJoined old new first second kept →
    (u : ℕ) → u < length old.lists → has_unit (list_at old.lists first ++ list_at old.lists second) u ≡ false →
    group_of new u ≡ group_of old u
group_elsewhere {old} {new} {first} {second} {kept} s j u u_in apart =
    let out = number_elsewhere s j u u_in apart in
    let not_left : slice_index old.numbers u ≢ j.left =
    ⊎_elim (λ (e : (j.left ≡ first) × (kept ≡ second)) f. out.not_first (f ∙ e.0))
    (λ (e : (j.left ≡ second) × (kept ≡ first)) f. out.not_second (f ∙ e.0)) j.ends in
    ap (list_at new.lists) out.number ∙ ap (λ (ls : List (List ℕ)). list_at ls (slice_index old.numbers u)) j.moves.lists
    ∙ list_other old.lists j.left kept (slice_index old.numbers u)
    (list_at old.lists first ++ list_at old.lists second) not_left out.not_kept

-- Clusters after two of them became one.
use Rattle.std.proofs.Common.{take, Option, Some, None, inl, inr, subst, ℕ, ◌≡◌, ◌≢◌, ◌⊎◌, ◌<◌, ◌≤◌, ◌+◌, ◌&&◌, not, Bool, true}
use Rattle.std.proofs.Common.{false, List, [], ◌∷◌, ◌++◌, length, get_or, set, sym, ◌∙◌, ap, refl, arith, ⊎_elim, length-set}
use Rattle.std.proofs.Common.{get_or-set_same, get_or-set_other}
use Rattle.std.specs.Prelude.{sum, ◌==◌, slice_index, if◌then◌else◌, nat_le}
use Rattle.std.proofs.lemmas.Bool.{cases_eq, cases_Bool}
use Rattle.std.proofs.lemmas.List.Sums.{sum_by-append, sum_by-cons, sum_by-set, fold_more}
use Rattle.std.proofs.lemmas.Grind.{common_steps}
use Rattle.rv_code.specs.layout.WorstSizes.{near_limit}
use Rattle.func_place.specs.Clusters.{total, alone, joined_clusters, appended, take_unit, clusters_of, has_unit}
use Rattle.func_place.specs.internal.Groups.{Grouping, list_at, group_of, IsGrouped}
use Rattle.func_place.specs.internal.ClusterState.{count_of, size_at, heat_at, Merges, Keeps, IsValidState, ClusterState}
use Rattle.func_place.proofs.GroupMoves.{IsJoined, count_new, joined_from, grouped_joined, number_among, number_elsewhere}
use Rattle.func_place.proofs.GroupMoves.{group_among, group_elsewhere}

-- The heats after a merge: 0 for both, and then the sum for the one that is kept.

abbrev pub merged : List ℕ → ℕ → ℕ → ℕ → ℕ → List ℕ
merged hs first second kept sum = set (set (set hs first 0) second 0) kept sum

length-zeros : (hs : List ℕ) (first second : ℕ) → length (set (set hs first 0) second 0) ≡ length hs
length-zeros hs first second = length-set (set hs first 0) second 0 ∙ length-set hs first 0

length-merged : (hs : List ℕ) (first second kept sum : ℕ) → length (merged hs first second kept sum) ≡ length hs
length-merged hs first second kept sum = length-set (set (set hs first 0) second 0) kept sum ∙ length-zeros hs first second

merged_kept : (hs : List ℕ) (first second kept sum : ℕ) → kept < length hs →
    slice_index (merged hs first second kept sum) kept ≡ sum
merged_kept hs first second kept sum lt =
    get_or-set_same (set (set hs first 0) second 0) kept sum 0 (rw (length-zeros hs first second) lt)

merged_elsewhere : (hs : List ℕ) (first second kept sum q : ℕ) → q ≢ first → q ≢ second → q ≢ kept →
    slice_index (merged hs first second kept sum) q ≡ slice_index hs q
merged_elsewhere hs first second kept sum q a b c = get_or-set_other (set (set hs first 0) second 0) kept q sum 0 c
    ∙ get_or-set_other (set hs first 0) second q 0 0 b ∙ get_or-set_other hs first q 0 0 a

merged_le : (hs : List ℕ) (first second kept sum q : ℕ) → q < length hs → q ≢ kept →
    slice_index (merged hs first second kept sum) q ≤ slice_index hs q
merged_le hs first second kept sum q lt c =
    rw (get_or-set_other (set (set hs first 0) second 0) kept q sum 0 c) (⊎_elim
    (λ (e : q ≡ second).
    let second_in : second < length (set hs first 0) = rw (length-set hs first 0) (rw e at lt) in
    rw (e, get_or-set_same (set hs first 0) second 0 0 second_in) (omega arith))
    (λ (b : q ≢ second). rw (get_or-set_other (set hs first 0) second q 0 0 b) (⊎_elim
    (λ (e : q ≡ first).
    let first_in : first < length hs = rw e at lt in
    rw (e, get_or-set_same hs first 0 0 first_in) (omega arith))
    (λ (a : q ≢ first). rw (get_or-set_other hs first q 0 0 a) (omega arith))
    (cases_eq q first)))
    (cases_eq q second))

zero_at_ends : (hs : List ℕ) (first second kept : ℕ) → first < length hs → second < length hs → first ≢ second →
    (kept ≡ first) ⊎ (kept ≡ second) → slice_index (set (set hs first 0) second 0) kept ≡ 0
zero_at_ends hs first second kept first_in second_in apart (inl e) =
    rw e (get_or-set_other (set hs first 0) second first 0 0 apart ∙ get_or-set_same hs first 0 0 first_in)
zero_at_ends hs first second kept first_in second_in apart (inr e) =
    rw e (get_or-set_same (set hs first 0) second 0 0 (rw (length-set hs first 0) second_in))

end_in : (first second kept n : ℕ) → first < n → second < n → (kept ≡ first) ⊎ (kept ≡ second) → kept < n
end_in first second kept n a b (inl e) = omega arith
end_in first second kept n a b (inr e) = omega arith

sum-merged : (hs : List ℕ) (first second kept : ℕ) → first < length hs → second < length hs → first ≢ second →
    (kept ≡ first) ⊎ (kept ≡ second) → sum (merged hs first second kept (slice_index hs first + slice_index hs second)) ≡ sum hs
sum-merged hs first second kept first_in second_in apart ends =
    let one = sum_by-set (λ x. x) hs first 0 0 first_in in
    let two = sum_by-set (λ x. x) (set hs first 0) second 0 0 (rw (length-set hs first 0) second_in) in
    let same : slice_index (set hs first 0) second ≡ slice_index hs second =
    get_or-set_other hs first second 0 0 (λ e. apart (sym e)) in
    let three = sum_by-set (λ x. x) (set (set hs first 0) second 0) kept (slice_index hs first + slice_index hs second) 0
    (rw (length-zeros hs first second) (end_in first second kept (length hs) first_in second_in ends)) in
    let none = zero_at_ends hs first second kept first_in second_in apart ends in
    omega arith

-- A unit's cluster is appended to its caller's.

pub record CanJoin (state : ClusterState) (v u : ℕ) : Type 0 where
  pub v_in : v < count_of state
  pub u_in : u < count_of state
  pub apart : slice_index state.grouping.numbers v ≢ slice_index state.grouping.numbers u
  pub low : size_at state v + size_at state u ≤ near_limit

-- two clusters became one
record IsMerged (old new : ClusterState) (first second kept : ℕ) : Type 0 where
  first_in : first < count_of old
  second_in : second < count_of old
  apart : first ≢ second
  joined_is : IsJoined old.grouping new.grouping first second kept
  ends : (kept ≡ first) ⊎ (kept ≡ second)
  count : count_of new ≡ count_of old
  totals : new.totals ≡ set old.totals kept (slice_index old.totals first + slice_index old.totals second)
  heats : new.heats ≡ merged old.heats first second kept (slice_index old.heats first + slice_index old.heats second)

kept_end : {old new : Grouping} {first second kept : ℕ} → IsJoined old new first second kept → (kept ≡ first) ⊎ (kept ≡ second)
kept_end {old} {new} {first} {second} {kept} j =
    ⊎_elim (λ (e : (j.left ≡ first) × (kept ≡ second)). inr e.1) (λ (e : (j.left ≡ second) × (kept ≡ first)). inl e.1) j.ends

merged_from : {old new : ClusterState} {v u kept : ℕ} → IsValidState old → CanJoin old v u →
    Merges old new (slice_index old.grouping.numbers v) (slice_index old.grouping.numbers u) kept →
    IsMerged old new (slice_index old.grouping.numbers v) (slice_index old.grouping.numbers u) kept
merged_from {old} {new} {v} {u} {kept} s c m =
    let first_in = s.grouped.number_in v c.v_in in
    let second_in = s.grouped.number_in u c.u_in in
    let j = joined_from s.grouped c.apart first_in second_in m.joins in
    record {
      first_in = first_in;
      second_in = second_in;
      apart = c.apart;
      joined_is = j;
      ends = kept_end j;
      count = count_new j.moves;
      totals = m.totals;
      heats = m.heats;
    }

sound_merged : {old new : ClusterState} {first second kept : ℕ} → IsValidState old → IsMerged old new first second kept →
    slice_index old.totals first + slice_index old.totals second ≤ near_limit → IsValidState new
sound_merged {old} {new} {first} {second} {kept} s m low =
    let kept_in : kept < count_of old = end_in first second kept (count_of old) m.first_in m.second_in m.ends in
    let totals_in : kept < length old.totals = rw s.totals_len kept_in in
    let heats_in : kept < length old.heats = rw s.heats_len kept_in in
    let both = slice_index old.totals first + slice_index old.totals second in
    let warm = slice_index old.heats first + slice_index old.heats second in
    record {
      grouped = grouped_joined s.grouped m.joined_is;
      totals_len = ap length m.totals ∙ length-set old.totals kept both ∙ s.totals_len ∙ sym m.count;
      heats_len = ap length m.heats ∙ length-merged old.heats first second kept warm ∙ s.heats_len ∙ sym m.count;
      low = λ q lt. rw m.totals (
          ⊎_elim (λ (e : q ≡ kept). rw (e, get_or-set_same old.totals kept both 0 totals_in) low)
          (λ (ne : q ≢ kept). rw (get_or-set_other old.totals kept q both 0 ne) (s.low q (rw (← m.count) lt)))
          (cases_eq q kept));
      some = λ q lt hot. let q_in : q < count_of old = rw (← m.count) lt in rw m.totals (
          ⊎_elim (λ (e : q ≡ kept). rw (e, get_or-set_same old.totals kept both 0 totals_in) (
          let now : 0 < warm = rw (m.heats, e, merged_kept old.heats first second kept warm heats_in) at hot in
          let one = s.some first m.first_in in
          let two = s.some second m.second_in in
          some_of (slice_index old.heats first) (slice_index old.heats second) (slice_index old.totals first)
          (slice_index old.totals second) now one two))
          (λ (ne : q ≢ kept). rw (get_or-set_other old.totals kept q both 0 ne) (
          let now : 0 < slice_index (merged old.heats first second kept warm) q = rw m.heats at hot in
          let le = merged_le old.heats first second kept warm q (rw s.heats_len q_in) ne in
          s.some q q_in (omega arith)))
          (cases_eq q kept));
      room = rw (
        m.heats,
        sum-merged old.heats first second kept (rw s.heats_len m.first_in) (rw s.heats_len m.second_in) m.apart m.ends,
      ) s.room;
    }
  where
    some_of : (h i s t : ℕ) → 0 < h + i → (0 < h → 0 < s) → (0 < i → 0 < t) → 0 < s + t
    some_of h i s t sum one two = ⊎_elim
        (λ (none : h ≡ 0). let second = two (omega arith) in omega arith)
        (λ (some : h ≢ 0). let first = one (omega arith) in omega arith)
        (cases_eq h 0)

keeps_merged : {sizes heats : List ℕ} {cluster : ℕ → List ℕ} {old new : ClusterState} {first second kept : ℕ} → IsValidState old
    → IsMerged old new first second kept → let both = list_at old.grouping.lists first ++ list_at old.grouping.lists second in
    total sizes both ≡ slice_index old.totals first + slice_index old.totals second
    → total heats both ≡ slice_index old.heats first + slice_index old.heats second → Keeps sizes heats cluster old
    → Keeps sizes heats (λ w. if has_unit both w then both else cluster w) new
keeps_merged {sizes} {heats} {cluster} {old} {new} {first} {second} {kept} s m size_is heat_is k =
    let both = list_at old.grouping.lists first ++ list_at old.grouping.lists second in
    let kept_in : kept < count_of old = end_in first second kept (count_of old) m.first_in m.second_in m.ends in
    let totals_in : kept < length old.totals = rw s.totals_len kept_in in
    let heats_in : kept < length old.heats = rw s.heats_len kept_in in
    let sum = slice_index old.totals first + slice_index old.totals second in
    let warm = slice_index old.heats first + slice_index old.heats second in
    record {
      list = λ w lt. let w_in : w < count_of old = rw (← m.count) lt in ⊎_elim
          (λ (among : has_unit both w ≡ true). rw among (group_among s.grouped m.joined_is w w_in among))
          (λ (apart : has_unit both w ≡ false). rw apart (group_elsewhere s.grouped m.joined_is w w_in apart ∙ k.list w w_in))
          (cases_Bool (has_unit both w));
      size = λ w lt. let w_in : w < count_of old = rw (← m.count) lt in ⊎_elim
          (λ (among : has_unit both w ≡ true). rw (among, number_among s.grouped m.joined_is w w_in among, m.totals)
          (get_or-set_same old.totals kept sum 0 totals_in ∙ sym size_is))
          (λ (apart : has_unit both w ≡ false). let out = number_elsewhere s.grouped m.joined_is w w_in apart in
          rw (apart, out.number, m.totals)
          (get_or-set_other old.totals kept (slice_index old.grouping.numbers w) sum 0 out.not_kept ∙ k.size w w_in))
          (cases_Bool (has_unit both w));
      heat = λ w lt. let w_in : w < count_of old = rw (← m.count) lt in ⊎_elim
          (λ (among : has_unit both w ≡ true). rw (among, number_among s.grouped m.joined_is w w_in among, m.heats)
          (merged_kept old.heats first second kept warm heats_in ∙ sym heat_is))
          (λ (apart : has_unit both w ≡ false). let out = number_elsewhere s.grouped m.joined_is w w_in apart in
          rw (apart, out.number, m.heats) (merged_elsewhere old.heats first second kept warm
          (slice_index old.grouping.numbers w) out.not_first out.not_second out.not_kept ∙ k.heat w w_in))
          (cases_Bool (has_unit both w));
    }

pub sound_join : {old new : ClusterState} {v u kept : ℕ} → IsValidState old → CanJoin old v u →
    Merges old new (slice_index old.grouping.numbers v) (slice_index old.grouping.numbers u) kept → IsValidState new
sound_join s c m = sound_merged s (merged_from s c m) c.low

pub count_join : {old new : ClusterState} {v u kept : ℕ} → IsValidState old → CanJoin old v u →
    Merges old new (slice_index old.grouping.numbers v) (slice_index old.grouping.numbers u) kept → count_of new ≡ count_of old
count_join s c m = (merged_from s c m).count

keeps_join : {sizes heats : List ℕ} {cluster : ℕ → List ℕ} {old new : ClusterState} {v u kept : ℕ} → IsValidState old →
    CanJoin old v u →
    Merges old new (slice_index old.grouping.numbers v) (slice_index old.grouping.numbers u) kept →
    Keeps sizes heats cluster old → Keeps sizes heats (joined_clusters (cluster v) (cluster u) cluster) new
keeps_join {sizes} {heats} {cluster} {old} {new} {v} {u} {kept} s c m k =
    let a = group_of old.grouping v in
    let b = group_of old.grouping u in
    let size_is : total sizes (a ++ b) ≡ size_at old v + size_at old u =
    sum_by-append (λ w. slice_index sizes w) a b ∙ rw (k.list v c.v_in, k.list u c.u_in, k.size v c.v_in, k.size u c.u_in) refl in
    let heat_is : total heats (a ++ b) ≡ heat_at old v + heat_at old u =
    sum_by-append (λ w. slice_index heats w) a b ∙ rw (k.list v c.v_in, k.list u c.u_in, k.heat v c.v_in, k.heat u c.u_in) refl in
    let is : a ++ b ≡ cluster v ++ cluster u = rw (k.list v c.v_in, k.list u c.u_in) refl in
    let P : List ℕ → Type 0 = λ both. Keeps sizes heats (λ w. if has_unit both w then both else cluster w) new in
    subst P is (keeps_merged s (merged_from s c m) size_is heat_is k)

other_cluster : (m n : ℕ) → m ≢ n → (n == m) ≡ false
other_cluster m n ne = grind (arith, common_steps)

fits : (a b : ℕ) → a + b ≤ near_limit → nat_le (a + b) near_limit ≡ true
fits a b le = grind (arith, common_steps)

pub append_step : {old new : ClusterState} {v u kept : ℕ} → IsValidState old → CanJoin old v u →
    Merges old new (slice_index old.grouping.numbers v) (slice_index old.grouping.numbers u) kept →
    (sizes heats : List ℕ) (cluster : ℕ → List ℕ) → Keeps sizes heats cluster old →
    Keeps sizes heats (appended sizes (cluster v) (cluster u) u cluster) new
append_step {old} {new} {v} {u} s c m sizes heats cluster k =
    let first = slice_index old.grouping.numbers v in let second = slice_index old.grouping.numbers u in
    let other : has_unit (cluster v) u ≡ false = rw (← k.list v c.v_in)
    (s.grouped.stands u first c.u_in (s.grouped.number_in v c.v_in) ∙ other_cluster first second c.apart) in
    let both : nat_le (total sizes (cluster v) + total sizes (cluster u)) near_limit ≡ true =
    rw (← k.size v c.v_in, ← k.size u c.u_in) (fits (size_at old v) (size_at old u) c.low) in
    rw (other, both) (keeps_join s c m k)

-- Each unit in a cluster of its own.

pub record IsAlone (g : Grouping) (n : ℕ) : Type 0 where
  pub count : length g.lists ≡ n
  pub grouped : IsGrouped g
  pub number : (u : ℕ) → u < n → slice_index g.numbers u ≡ u
  pub list : (u : ℕ) → u < n → list_at g.lists u ≡ u ∷ []

-- One more unit is taken: it has no caller, or its cluster is appended to its caller's.

pub stays_more : (sizes heats : List ℕ) (caller : ℕ → Option ℕ) (taken : List ℕ) (i : ℕ) (state : ClusterState) →
    i < length taken →
    caller (get_or taken i 0) ≡ None → Keeps sizes heats (clusters_of sizes caller (take i taken)) state →
    Keeps sizes heats (clusters_of sizes caller (take (i + 1) taken)) state
stays_more sizes heats caller taken i state lt none k = rw (fold_more (take_unit sizes caller) alone taken i 0 lt, none) k

pub appends_more : (sizes heats : List ℕ) (caller : ℕ → Option ℕ) (taken : List ℕ) (i v : ℕ) (state : ClusterState) →
    i < length taken →
    caller (get_or taken i 0) ≡ Some v → let cluster = clusters_of sizes caller (take i taken) in
    let u = get_or taken i 0 in
    Keeps sizes heats (appended sizes (cluster v) (cluster u) u cluster) state →
    Keeps sizes heats (clusters_of sizes caller (take (i + 1) taken)) state
appends_more sizes heats caller taken i v state lt some k = rw (fold_more (take_unit sizes caller) alone taken i 0 lt, some) k

-- A hot unit's cluster is hot.

none_has : (u : ℕ) → has_unit [] u ≡ true → ⊥
none_has u h = absurd (grind (arith, common_steps))

later_has : (x u : ℕ) (xs : List ℕ) → has_unit (x ∷ xs) u ≡ true → x ≢ u → has_unit xs u ≡ true
later_has x u xs h ne = grind (arith, common_steps)

le_total : (heats xs : List ℕ) (u : ℕ) → has_unit xs u ≡ true → slice_index heats u ≤ total heats xs
le_total heats [] u h = absurd (none_has u h)
le_total heats (x ∷ xs) u h =
    let sum = sum_by-cons (λ w. slice_index heats w) x xs in
    ⊎_elim
    (λ (e : x ≡ u). let first : slice_index heats x ≡ slice_index heats u = ap (slice_index heats) e in omega arith)
    (λ (ne : x ≢ u). let rest = le_total heats xs u (later_has x u xs h ne) in omega arith)
    (cases_eq x u)

itself : (n : ℕ) → (n == n) ≡ true
itself n = grind (arith, common_steps)

pub hot_cluster : {sizes heats : List ℕ} {cluster : ℕ → List ℕ} {state : ClusterState} → IsValidState state →
    Keeps sizes heats cluster state → (u : ℕ) → u < count_of state → 0 < slice_index heats u → 0 < heat_at state u
hot_cluster {sizes} {heats} {cluster} {state} s k u u_in hot =
    let number = slice_index state.grouping.numbers u in
    let stands : has_unit (cluster u) u ≡ true =
    rw (← k.list u u_in) (s.grouped.stands u number u_in (s.grouped.number_in u u_in) ∙ itself number) in
    let le = le_total heats (cluster u) u stands in
    let is = k.heat u u_in in
    omega arith

-- A unit's cluster doesn't move: it is its caller's, or both together are too large.

no_more : (b : Bool) → (b && false) ≡ false
no_more true = refl
no_more false = refl

too_large : (n : ℕ) → near_limit < n → nat_le n near_limit ≡ false
too_large n lt = grind (arith, common_steps)

pub stays_large : {state : ClusterState} → IsValidState state → (v u : ℕ) → v < count_of state → u < count_of state →
    near_limit < size_at state v + size_at state u → (sizes heats : List ℕ) (cluster : ℕ → List ℕ) →
    Keeps sizes heats cluster state →
    Keeps sizes heats (appended sizes (cluster v) (cluster u) u cluster) state
stays_large {state} s v u v_in u_in large sizes heats cluster k =
    let over : nat_le (total sizes (cluster v) + total sizes (cluster u)) near_limit ≡ false =
    rw (← k.size v v_in, ← k.size u u_in) (too_large (size_at state v + size_at state u) large) in
    rw (over, no_more (not (has_unit (cluster v) u))) k

pub stays_same : {state : ClusterState} → IsValidState state → (v u : ℕ) → v < count_of state → u < count_of state →
    slice_index state.grouping.numbers v ≡ slice_index state.grouping.numbers u → (sizes heats : List ℕ) (cluster : ℕ → List ℕ) →
    Keeps sizes heats cluster state → Keeps sizes heats (appended sizes (cluster v) (cluster u) u cluster) state
stays_same {state} s v u v_in u_in same sizes heats cluster k =
    let first = slice_index state.grouping.numbers v in
    let inside : has_unit (cluster v) u ≡ true =
    rw (← k.list v v_in) (s.grouped.stands u first u_in (s.grouped.number_in v v_in) ∙ rw (← same) (itself first)) in
    rw inside k

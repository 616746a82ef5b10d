-- Sums over the blocks of units, and the blocks of their functions, for the items read so far.
use Rattle.std.proofs.Common.{ℕ, ◌≡◌, ◌≢◌, ◌<◌, ◌≤◌, ◌+◌, ◌==◌, Bool, true, false, List, [], ◌∷◌, ◌++◌, length, take}
use Rattle.std.proofs.Common.{map, get_or, set, sym, ◌∙◌, ap, refl, arith, ⊎_elim, length-set, get_or-set_same, get_or-set_other}
use Rattle.std.specs.Prelude.{if◌then◌else◌, filter, sum, slice_index}
use Rattle.std.specs.List.{range_with_len, flat_map}
use Rattle.std.proofs.lemmas.Bool.{cases_eq}
use Rattle.std.proofs.lemmas.Grind.{common_steps}
use Rattle.std.proofs.lemmas.List.{get_or-map, take_all, append-nil, flat_map_more}
use Rattle.std.proofs.lemmas.List.FromFn.{fill_by_all}
use Rattle.std.proofs.lemmas.List.Sums.{sum_by_more, sum_by_more_le, sum_by-set}
use Rattle.rv_code.specs.declared.placed.Block.{Block}
use Rattle.func_place.specs.Units.{unit_sum, by_unit}
use Rattle.func_place.specs.internal.Groups.{list_at}
use Rattle.func_place.proofs.Ranking.{filter_more}

abbrev pub no_block : Block
no_block = record { func = 0; first = 0; last = 0 }

-- the sums over the first blocks
pub record AreSums (units : List ℕ) (blocks : List Block) (numbers : List ℕ) (i : ℕ) (sums : List ℕ) : Type 0 where
  pub len : length sums ≡ length units
  pub bound : (u : ℕ) → slice_index sums u ≤ sum (take i numbers)
  pub total : sum sums ≡ sum (take i numbers)
  pub is : (number : Block → ℕ) → numbers ≡ map number blocks → (u : ℕ) → u < length units →
      slice_index sums u ≡ unit_sum units number (take i blocks) u

yes_if : (m u n : ℕ) → m ≡ u → (if m == u then n else 0) ≡ n
yes_if m u n e = grind (arith, common_steps)

pub no_if : (m u n : ℕ) → m ≢ u → (if m == u then n else 0) ≡ 0
no_if m u n ne = grind (arith, common_steps)

pub sums_next : (units : List ℕ) (blocks : List Block) (numbers : List ℕ) (i : ℕ) (sums : List ℕ) (d : Block) (unit n : ℕ)
    → i < length blocks → length numbers ≡ length blocks → unit ≡ slice_index units (get_or blocks i d).func → unit < length sums
    → n ≡ slice_index sums unit + slice_index numbers i → AreSums units blocks numbers i sums
    → AreSums units blocks numbers (i + 1) (set sums unit n)
sums_next units blocks numbers i sums d unit n lt same_len unit_is unit_in n_is a =
    let grown = sum_by_more (λ (x : ℕ). x) numbers i 0 (omega arith) in
    record {
      len = length-set sums unit n ∙ a.len;
      bound = λ u. ⊎_elim
          (λ (e : u ≡ unit). rw (e, get_or-set_same sums unit n 0 unit_in) (let le = a.bound unit in omega arith))
          (λ (ne : u ≢ unit). rw (get_or-set_other sums unit u n 0 ne) (let le = a.bound u in omega arith))
          (cases_eq u unit);
      total = let t = sum_by-set (λ (x : ℕ). x) sums unit n 0 unit_in in let was = a.total in omega arith;
      is = λ number is u u_in.
          let more = sum_by_more (λ (b : Block). if slice_index units b.func == u then number b else 0) blocks i d lt in
          let here : slice_index numbers i ≡ number (get_or blocks i d) =
          ap (λ (ns : List ℕ). slice_index ns i) is ∙ get_or-map number blocks i d 0 lt in
          ⊎_elim
          (λ (e : u ≡ unit).
          let add = yes_if (slice_index units (get_or blocks i d).func) u (number (get_or blocks i d)) (sym unit_is ∙ sym e) in
          let was = a.is number is u u_in in
          let old : slice_index sums u ≡ slice_index sums unit = ap (slice_index sums) e in
          let now : slice_index (set sums unit n) u ≡ n =
          ap (slice_index (set sums unit n)) e ∙ get_or-set_same sums unit n 0 unit_in in
          omega arith)
          (λ (ne : u ≢ unit).
          let add =
          no_if (slice_index units (get_or blocks i d).func) u (number (get_or blocks i d)) (λ h. ne (sym h ∙ sym unit_is)) in
          let was = a.is number is u u_in in
          let now : slice_index (set sums unit n) u ≡ slice_index sums u = get_or-set_other sums unit u n 0 ne in
          omega arith)
          (cases_eq u unit);
    }

pub sum_fits : (units : List ℕ) (blocks : List Block) (numbers : List ℕ) (i : ℕ) (sums : List ℕ) (u : ℕ) → i < length numbers →
    AreSums units blocks numbers i sums → slice_index sums u + slice_index numbers i ≤ sum numbers
sum_fits units blocks numbers i sums u lt a =
    let le = a.bound u in
    let all = sum_by_more_le (λ (x : ℕ). x) numbers i 0 lt in
    omega arith

pub sums_are : (units : List ℕ) (blocks : List Block) (numbers : List ℕ) (i : ℕ) (sums : List ℕ) → i ≡ length blocks →
    AreSums units blocks numbers i sums → (number : Block → ℕ) → numbers ≡ map number blocks →
    sums ≡ by_unit (unit_sum units number blocks) units
sums_are units blocks numbers i sums end a number is =
    let all : take i blocks ≡ blocks = take_all i blocks (omega arith) in
    fill_by_all (unit_sum units number blocks) sums (length units) 0 a.len
    (λ k k_in. a.is number is k k_in ∙ ap (λ (bs : List Block). unit_sum units number bs k) all)

pub sums_within : (units : List ℕ) (blocks : List Block) (numbers : List ℕ) (i : ℕ) (sums : List ℕ) → i ≡ length blocks →
    length numbers ≡ length blocks → AreSums units blocks numbers i sums → sum sums ≤ sum numbers
sums_within units blocks numbers i sums end len a =
    let t = a.total in
    let all : sum (take i numbers) ≡ sum numbers = ap sum (take_all i numbers (omega arith)) in omega arith

-- The blocks of the first functions, for each unit.

pub record AreParts (units : List ℕ) (part : ℕ → List ℕ) (i : ℕ) (own : List (List ℕ)) : Type 0 where
  pub len : length own ≡ length units
  pub is : (u : ℕ) → list_at own u ≡ flat_map part (filter (λ f. slice_index units f == u) (range_with_len 0 i))

passes : (m u : ℕ) → m ≡ u → (m == u) ≡ true
passes m u e = grind (arith, common_steps)

fails : (m u : ℕ) → m ≢ u → (m == u) ≡ false
fails m u ne = grind (arith, common_steps)

pub parts_next : (units : List ℕ) (part : ℕ → List ℕ) (i unit : ℕ) (own : List (List ℕ)) (more : List ℕ) →
    unit ≡ slice_index units i → unit < length own → more ≡ list_at own unit ++ part i → AreParts units part i own →
    AreParts units part (i + 1) (set own unit more)
parts_next units part i unit own more unit_is unit_in more_is a = record {
  len = length-set own unit more ∙ a.len;
  is = λ u.
      let p : ℕ → Bool = λ f. slice_index units f == u in
      ⊎_elim
      (λ (e : u ≡ unit).
      let here : list_at (set own unit more) u ≡ more =
      ap (list_at (set own unit more)) e ∙ get_or-set_same own unit more [] unit_in in
      let was : list_at own unit ≡ flat_map part (filter p (range_with_len 0 i)) = ap (list_at own) (sym e) ∙ a.is u in
      let grown : filter p (range_with_len 0 (i + 1)) ≡ filter p (range_with_len 0 i) ++ i ∷ [] =
      filter_more p i ∙ rw (passes (slice_index units i) u (sym unit_is ∙ sym e)) refl in
      here ∙ more_is ∙ ap (λ (xs : List ℕ). xs ++ part i) was ∙ flat_map_more part [] (filter p (range_with_len 0 i)) i
      ∙ ap (flat_map part) (sym grown))
      (λ (ne : u ≢ unit).
      let grown : filter p (range_with_len 0 (i + 1)) ≡ filter p (range_with_len 0 i) = filter_more p i
      ∙ rw (fails (slice_index units i) u (λ h. ne (sym h ∙ sym unit_is))) (append-nil (filter p (range_with_len 0 i))) in
      get_or-set_other own unit u more [] ne ∙ a.is u ∙ ap (flat_map part) (sym grown))
      (cases_eq u unit);
}

pub record AreEmpty (n : ℕ) (own : List (List ℕ)) : Type 0 where
  pub len : length own ≡ n
  pub empty : (u : ℕ) → list_at own u ≡ []

-- the list of one item, in a list of items
pub list_of : {X : Type 0} (f : X → List ℕ) (xs : List X) (q : ℕ) (d : X) → q < length xs → d ≡ get_or xs q d →
    f d ≡ list_at (map f xs) q
list_of f xs q d lt is = ap f is ∙ sym (get_or-map f xs q d [] lt)

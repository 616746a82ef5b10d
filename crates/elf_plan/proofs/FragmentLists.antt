-- Fragments of new code, and the rest of one.
use Rattle.std.proofs.Common.{◌≡◌, ◌≢◌, sym, ap, subst, ℕ, ◌+◌, ◌-◌, ◌<◌, ◌≤◌, ⊎_elim, inl, inr, ◌⊎◌, Some, List, [], ◌∷◌, ◌++◌, true}
use Rattle.std.proofs.Common.{length, get_or, take, arith, ◌∙◌, refl}
use Rattle.std.specs.Prelude.{All, AllPairs, Contains, slice_get}
use Rattle.std.specs.List.Sorted.{IsNonDecreasingBy}
use Rattle.std.proofs.lemmas.Bool.{cases_eq, cases_lt}
use Rattle.std.proofs.lemmas.List.{get_or_append_left, get_or_default, length-append, take_more}
use Rattle.std.proofs.lemmas.List.Elements.{All-push, Contains-push, Contains-append_left, Contains-push_cases}
use Rattle.std.proofs.lemmas.List.Quantifiers.{all_pairs_push}
use Rattle.std.proofs.lemmas.Option.{get_or_from_slice_get, slice_get_within}
use Rattle.addr_map.specs.declared.span.Span.{Span}
use Rattle.rv_code.specs.declared.placed.Func.{Func}
use Rattle.elf_plan.specs.declared.fragments.Fragment.{Fragment}
use Rattle.elf_plan.specs.FragmentLists.{Apart, AreFragments, AreSorted, Grows, HasBytes, HasSpan}
use Rattle.rv_code.specs.layout.FunctionLists.{AreLaidOut}
use Rattle.rv_code.specs.layout.FunctionMembers.{function_at, func_holds}
use Rattle.rv_code.proofs.lists.FunctionAt.{ends_rise, function_at-found, held_bounds}
use Rattle.elf_plan.specs.Fragments.{HasByte, IsFragment}

-- The function that contains an address is the one found.
pub function_held : (funcs : List Func) (a k : ℕ) (d : Func) → AreLaidOut funcs → k < length funcs →
    func_holds a (get_or funcs k d) ≡ true → function_at funcs a ≡ Some k
function_held funcs a k d are inside holds =
    let bounds = held_bounds a (get_or funcs k d).start (get_or funcs k d).end holds in
    let same : (e : Func) → get_or funcs k e ≡ get_or funcs k d = λ e. get_or_default funcs k e d inside in
    function_at-found funcs a k d
    (record {
      within = omega arith;
      low = λ j e less.
          let apart = are.apart j k e less inside in
          let start = ap (λ (f : Func). f.start) (same e) in
          omega arith;
      high = λ j e from within.
          let up = ends_rise funcs are k j e from within in
          let end = ap (λ (f : Func). f.end) (same e) in
          omega arith;
    })
    inside bounds.0

-- A list without its last element.

last-is : {X : Type 0} (xs : List X) (y d : X) → get_or (xs ++ y ∷ []) (length xs) d ≡ y
last-is [] y d = refl
last-is (x ∷ xs) y d = last-is xs y d

before-last : {X : Type 0} (P : X → Type 0) (xs : List X) (y : X) → All P (xs ++ y ∷ []) → All P xs
before-last P xs y all k d within =
    let size : length (xs ++ y ∷ []) ≡ length xs + 1 = length-append xs (y ∷ []) in
    subst P (get_or_append_left xs (y ∷ []) d k within) (all k d (omega arith))

pairs-before : {X : Type 0} (R : X → X → Type 0) (xs : List X) (y : X) → AllPairs R (xs ++ y ∷ []) → AllPairs R xs
pairs-before R xs y all i j d less within =
    let size : length (xs ++ y ∷ []) ≡ length xs + 1 = length-append xs (y ∷ []) in
    subst (λ v. R v (get_or xs j d)) (get_or_append_left xs (y ∷ []) d i (omega arith))
    (subst (λ v. R (get_or (xs ++ y ∷ []) i d) v) (get_or_append_left xs (y ∷ []) d j within) (all i j d less (omega arith)))

pairs-last : {X : Type 0} (R : X → X → Type 0) (xs : List X) (y : X) → AllPairs R (xs ++ y ∷ []) → (k : ℕ) (d : X) →
    k < length xs → R (get_or xs k d) y
pairs-last R xs y all k d within =
    let size : length (xs ++ y ∷ []) ≡ length xs + 1 = length-append xs (y ∷ []) in
    subst (λ v. R v y) (get_or_append_left xs (y ∷ []) d k within)
    (subst (λ v. R (get_or (xs ++ y ∷ []) k d) v) (last-is xs y d) (all k (length xs) d within (omega arith)))

last-there : {X : Type 0} (P : X → Type 0) (xs : List X) (y : X) → All P (xs ++ y ∷ []) → P y
last-there P xs y all =
    let size : length (xs ++ y ∷ []) ≡ length xs + 1 = length-append xs (y ∷ []) in
    subst P (last-is xs y y) (all (length xs) y (omega arith))

-- One more fragment.

-- A byte of a fragment that stays, or of the fragment that was added.
old_byte : (old : List Fragment) (fragment q r : Fragment) (b : ℕ) → Contains old q → q.func ≡ r.func → q.start ≤ b → b < q.end →
    HasBytes old r.func b (b + 1) ⊎ ((fragment.func ≡ r.func) × (fragment.start ≤ b) × (b < fragment.end))
old_byte old fragment q r b there func low high =
    inl (record { fragment = q; there = there; func = func; low = low; high = omega arith })

new_byte : (old : List Fragment) (fragment q r : Fragment) (b : ℕ) →
    fragment.func ≡ q.func → q ≡ r → fragment.start ≤ b → fragment.end ≡ q.end → b < r.end →
    HasBytes old r.func b (b + 1) ⊎ ((fragment.func ≡ r.func) × (fragment.start ≤ b) × (b < fragment.end))
new_byte old fragment q r b func is low end high =
    let same : q.end ≡ r.end = ap (λ (x : Fragment). x.end) is in
    inr (func ∙ ap (λ (x : Fragment). x.func) is, low, omega arith)

pub grows-added : (front : List Fragment) (last fragment : Fragment) → fragment.start < fragment.end →
    last.end ≤ fragment.start → (last.func ≡ fragment.func → last.end ≡ fragment.start → ⊥) →
    Grows (front ++ last ∷ []) fragment ((front ++ last ∷ []) ++ fragment ∷ [])
grows-added front last fragment some order gap = record {
  sorted = λ old. record {
    some = All-push (λ (r : Fragment). r.start < r.end) (front ++ last ∷ []) fragment old.some some;
    apart = all_pairs_push Apart (front ++ last ∷ []) fragment old.apart (λ k d within. behind old meets k d within);
  };
  keeps = λ f start end has. record {
    fragment = has.fragment;
    there = Contains-append_left (front ++ last ∷ []) (fragment ∷ []) has.fragment has.there;
    func = has.func;
    low = has.low;
    high = has.high;
  };
  has = λ _. record {
    fragment = fragment;
    there = Contains-push (front ++ last ∷ []) fragment;
    func = refl;
    low = omega arith;
    high = omega arith;
  };
  only = λ r there b low high. ⊎_elim
      (λ (old : Contains (front ++ last ∷ []) r). old_byte (front ++ last ∷ []) fragment r r b old refl low high)
      (λ (is : fragment ≡ r).
      let start : fragment.start ≡ r.start = ap (λ (x : Fragment). x.start) is in
      new_byte (front ++ last ∷ []) fragment fragment r b refl is (omega arith) refl high)
      (Contains-push_cases (front ++ last ∷ []) fragment r there);
}
  where
    behind : AreSorted (front ++ last ∷ []) → (last.func ≡ fragment.func → last.end < fragment.start) → (k : ℕ) (d : Fragment) →
        k < length (front ++ last ∷ []) → Apart (get_or (front ++ last ∷ []) k d) fragment
    behind old far k d within =
        let size : length (front ++ last ∷ []) ≡ length front + 1 = length-append front (last ∷ []) in
        let whole : last.start < last.end = last-there (λ (r : Fragment). r.start < r.end) front last old.some in
        ⊎_elim
        (λ (less : k < length front).
        let apart = pairs-last Apart front last old.apart k d less in
        let first : (get_or front k d).end ≤ last.start = apart.before in
        subst (λ (r : Fragment). Apart r fragment) (sym (get_or_append_left front (last ∷ []) d k less))
        (record { before = omega arith; gap = λ _. omega arith }))
        (λ (more : length front ≤ k).
        let same : k ≡ length front = omega arith in
        subst (λ (r : Fragment). Apart r fragment)
        (sym (ap (λ (i : ℕ). get_or (front ++ last ∷ []) i d) same ∙ last-is front last d))
        (record { before = order; gap = λ one. far one }))
        (cases_lt k (length front))

    meets : last.func ≡ fragment.func → last.end < fragment.start
    meets one = ⊎_elim
        (λ (e : last.end ≡ fragment.start). absurd (gap one e))
        (λ (ne : last.end ≢ fragment.start). omega arith)
        (cases_eq last.end fragment.start)

pub grows-joined : (front : List Fragment) (last fragment : Fragment) → fragment.start < fragment.end →
    last.func ≡ fragment.func → last.end ≡ fragment.start →
    Grows (front ++ last ∷ []) fragment (front ++ (record last { end = fragment.end }) ∷ [])
grows-joined front last fragment some one meets = record {
  sorted = λ old.
      let whole : last.start < last.end = last-there (λ (r : Fragment). r.start < r.end) front last old.some in
      record {
        some = All-push (λ (r : Fragment). r.start < r.end) front longer (before-last (λ
            (r : Fragment). r.start < r.end) front last old.some) (omega arith);
        apart = all_pairs_push Apart front longer (pairs-before Apart front last old.apart) (λ k d within.
            let apart = pairs-last Apart front last old.apart k d within in
            record { before = apart.before; gap = apart.gap });
      };
  keeps = λ f start end has. ⊎_elim
      (λ (old : Contains front has.fragment). record {
        fragment = has.fragment;
        there = Contains-append_left front (longer ∷ []) has.fragment old;
        func = has.func;
        low = has.low;
        high = has.high;
      })
      (λ (is : last ≡ has.fragment).
      let at : last.start ≡ has.fragment.start = ap (λ (r : Fragment). r.start) is in
      let to : last.end ≡ has.fragment.end = ap (λ (r : Fragment). r.end) is in
      let low = has.low in
      let high = has.high in
      record {
        fragment = longer;
        there = Contains-push front longer;
        func = ap (λ (r : Fragment). r.func) is ∙ has.func;
        low = omega arith;
        high = omega arith;
      })
      (Contains-push_cases front last has.fragment has.there);
  has = λ old.
      let whole : last.start < last.end = last-there (λ (r : Fragment). r.start < r.end) front last old.some in
      record { fragment = longer; there = Contains-push front longer; func = one; low = omega arith; high = omega arith };
  only = λ r there b low high. ⊎_elim
      (λ (old : Contains front r).
      old_byte (front ++ last ∷ []) fragment r r b (Contains-append_left front (last ∷ []) r old) refl low high)
      (λ (is : longer ≡ r).
      let start : last.start ≡ r.start = ap (λ (x : Fragment). x.start) is in
      ⊎_elim
      (λ (less : b < last.end).
      old_byte (front ++ last ∷ []) fragment last r b (Contains-push front last)
      (ap (λ (x : Fragment). x.func) is) (omega arith) less)
      (λ (more : last.end ≤ b). new_byte (front ++ last ∷ []) fragment longer r b (sym one) is (omega arith) refl high)
      (cases_lt b last.end))
      (Contains-push_cases front longer r there);
}
  where
    longer : Fragment
    longer = record last { end = fragment.end }

-- The bytes of two adjacent fragments are the bytes of one.

apart-fragments : (fragments : List Fragment) → AreSorted fragments → (r q : Fragment) →
    Contains fragments r → Contains fragments q →
    (r ≡ q) ⊎ (Apart r q ⊎ Apart q r)
apart-fragments fragments sorted r q (i, i_in, i_is) (j, j_in, j_is) =
    let at_r = get_or_default fragments i r q i_in in
    ⊎_elim
    (λ (less : i < j). inr (inl (subst (λ (x : Fragment). Apart x q) (sym at_r
    ∙ i_is) (subst (λ (x : Fragment). Apart (get_or fragments i q) x) j_is (sorted.apart i j q less j_in)))))
    (λ (more : j ≤ i). ⊎_elim
    (λ (e : j ≡ i). inl (sym (at_r' at_r) ∙ ap (λ (k : ℕ). get_or fragments k q) (sym e) ∙ j_is))
    (λ (ne : j ≢ i). inr (inr (subst (λ (x : Fragment). Apart x r) j_is (subst (λ (x : Fragment). Apart (get_or fragments j q) x)
    (sym at_r ∙ i_is) (sorted.apart j i q (omega arith) i_in)))))
    (cases_eq j i))
    (cases_lt i j)
  where
    at_r' : get_or fragments i r ≡ get_or fragments i q → get_or fragments i q ≡ r
    at_r' e = sym e ∙ i_is

-- The rest of a fragment from an address on.
pub fragment-left : (funcs : List Func) (spans : List Span) (fragments : List Fragment) (r : Fragment) (f to : ℕ) →
    AreFragments funcs spans fragments →
    Contains fragments r →
    r.func ≡ f → r.start ≤ to → to < r.end → IsFragment funcs spans f to (r.end - to)
fragment-left funcs spans fragments r f to are there is low high = record {
  own = λ k d within some from below.
      let s = get_or spans k d in
      let has = are.held k d within some in
      let q = has.bytes.fragment in
      let q_low : q.start ≤ s.out = has.bytes.low in
      let q_high : s.out + s.len ≤ q.end = has.bytes.high in
      ⊎_elim
      (λ (same : r ≡ q).
      let end : r.end ≡ q.end = ap (λ (x : Fragment). x.end) same in
      (has.is_func ∙ ap Some (sym has.bytes.func ∙ sym (ap (λ (x : Fragment). x.func) same) ∙ is), omega arith))
      (λ (other : Apart r q ⊎ Apart q r). ⊎_elim
      (λ (a : Apart r q). let b : r.end ≤ q.start = a.before in absurd (omega arith))
      (λ (a : Apart q r). let b : q.end ≤ r.start = a.before in absurd (omega arith))
      other)
      (apart-fragments fragments are.sorted r q there has.bytes.there);
  filled = λ b from below. subst (λ (g : ℕ). HasByte funcs spans g b) is (are.filled r there b (omega arith) (omega arith));
  ends = λ k d within some at of.
      let s = get_or spans k d in
      let has = are.held k d within some in
      let q = has.bytes.fragment in
      let q_low : q.start ≤ s.out = has.bytes.low in
      let q_high : s.out + s.len ≤ q.end = has.bytes.high in
      let one : r.func ≡ q.func = is ∙ same_some f has.func (sym of ∙ has.is_func) ∙ sym has.bytes.func in
      ⊎_elim
      (λ (same : r ≡ q). let end : r.end ≡ q.end = ap (λ (x : Fragment). x.end) same in absurd (omega arith))
      (λ (other : Apart r q ⊎ Apart q r). ⊎_elim
      (λ (a : Apart r q). let b : r.end < q.start = a.gap one in absurd (omega arith))
      (λ (a : Apart q r). let b : q.end ≤ r.start = a.before in absurd (omega arith))
      other)
      (apart-fragments fragments are.sorted r q there has.bytes.there);
}
  where
    same_some : (a b : ℕ) → Some a ≡ Some b → a ≡ b
    same_some a b e = cc

-- If no fragment of the function contains the address, none of its bytes is there.
pub fragment-none : (funcs : List Func) (spans : List Span) (fragments : List Fragment) (f to : ℕ) →
    AreFragments funcs spans fragments →
    ((r : Fragment) → Contains fragments r → r.func ≡ f → r.start ≤ to → to < r.end → ⊥) → IsFragment funcs spans f to 0
fragment-none funcs spans fragments f to are none = record {
  own = λ k d within some from below. absurd (omega arith);
  filled = λ b from below. absurd (omega arith);
  ends = λ k d within some at of.
      let s = get_or spans k d in
      let has = are.held k d within some in
      let q = has.bytes.fragment in
      let q_low : q.start ≤ s.out = has.bytes.low in
      let q_high : s.out + s.len ≤ q.end = has.bytes.high in
      none q has.bytes.there (has.bytes.func ∙ sym (same_some f has.func (sym of ∙ has.is_func))) (omega arith) (omega arith);
}
  where
    same_some : (a b : ℕ) → Some a ≡ Some b → a ≡ b
    same_some a b e = cc

-- Only the last fragment that starts at or below an address can contain it.
pub only-fragment : (fragments : List Fragment) (to n : ℕ) (d : Fragment) → AreSorted fragments → n < length fragments →
    ((k : ℕ) (d : Fragment) → n + 1 ≤ k → k < length fragments → to < (get_or fragments k d).start) →
    (get_or fragments n d).start ≤ to →
    (r : Fragment) → Contains fragments r → r.start ≤ to → to < r.end → get_or fragments n d ≡ r
only-fragment fragments to n d sorted within above from r (j, j_in, j_is) low high =
    let at_j : get_or fragments j d ≡ r = get_or_default fragments j d r j_in ∙ j_is in
    let start : (get_or fragments j d).start ≡ r.start = ap (λ (x : Fragment). x.start) at_j in
    let end : (get_or fragments j d).end ≡ r.end = ap (λ (x : Fragment). x.end) at_j in
    ⊎_elim
    (λ (less : j < n). let b : (get_or fragments j d).end ≤ (get_or fragments n d).start =
    (sorted.apart j n d less within).before in absurd (omega arith))
    (λ (more : n ≤ j). ⊎_elim
    (λ (e : n ≡ j). ap (λ (k : ℕ). get_or fragments k d) e ∙ at_j)
    (λ (ne : n ≢ j). let b : to < (get_or fragments j d).start = above j d (omega arith) j_in in absurd (omega arith))
    (cases_eq n j))
    (cases_lt j n)

-- One more span.

-- A byte that belongs to a function still does.
one_more : (funcs : List Func) (spans : List Span) (s : Span) (f b : ℕ) → HasByte funcs spans f b →
    HasByte funcs (spans ++ s ∷ []) f b
one_more funcs spans s f b has = record {
  span = has.span;
  there = Contains-append_left spans (s ∷ []) has.span has.there;
  func = has.func;
  low = has.low;
  high = has.high;
}

pub fragments-skipped : (funcs : List Func) (spans : List Span) (s : Span) (fragments : List Fragment) → s.len ≡ 0 →
    AreFragments funcs spans fragments → AreFragments funcs (spans ++ s ∷ []) fragments
fragments-skipped funcs spans s fragments none are = record {
  sorted = are.sorted;
  held = All-push (λ (x : Span). 0 < x.len → HasSpan funcs fragments x) spans s are.held (λ some. absurd (omega arith));
  filled = λ r there b low high. one_more funcs spans s r.func b (are.filled r there b low high);
}

pub fragments-more : (funcs : List Func) (spans : List Span) (s : Span) (old new : List Fragment) (fragment : Fragment) →
    function_at funcs s.input ≡ Some fragment.func →
    fragment.start ≡ s.out → fragment.end ≡ s.out + s.len → Grows old fragment new → AreFragments funcs spans old →
    AreFragments funcs (spans ++ s ∷ []) new
fragments-more funcs spans s old new fragment is start end grows are = record {
  sorted = grows.sorted are.sorted;
  held = All-push (λ (x : Span). 0 < x.len → HasSpan funcs new x) spans s
      (λ k d within some.
      let has = are.held k d within some in
      record { func = has.func; is_func = has.is_func; bytes = grows.keeps has.func _ _ has.bytes })
      (λ some.
      let has = grows.has are.sorted in
      let low = has.low in
      let high = has.high in
      record {
        func = fragment.func;
        is_func = is;
        bytes = record {
          fragment = has.fragment;
          there = has.there;
          func = has.func;
          low = omega arith;
          high = omega arith;
        };
      });
  filled = λ r there b low high. ⊎_elim
      (λ (has : HasBytes old r.func b (b + 1)).
      let from = has.low in
      let to = has.high in
      one_more funcs spans s r.func b (subst (λ (g : ℕ). HasByte funcs spans g b) has.func
      (are.filled has.fragment has.there b (omega arith) (omega arith))))
      (λ (it : (fragment.func ≡ r.func) × (fragment.start ≤ b) × (b < fragment.end)).
      let from = it.1 in
      let to = it.2 in
      record {
        span = s;
        there = Contains-push spans s;
        func = is ∙ ap Some it.0;
        low = omega arith;
        high = omega arith;
      })
      (grows.only r there b low high);
}

pub starts_rise : (fragments : List Fragment) → AreSorted fragments → IsNonDecreasingBy (λ r. r.start) fragments
starts_rise fragments sorted i j d le lt = ⊎_elim
    (λ (less : i < j).
    let apart : (get_or fragments i d).end ≤ (get_or fragments j d).start = (sorted.apart i j d less lt).before in
    let some : (get_or fragments i d).start < (get_or fragments i d).end = sorted.some i d (omega arith) in
    omega arith)
    (λ (more : j ≤ i). let e : i ≡ j = omega arith in let s = ap (λ (k : ℕ). (get_or fragments k d).start) e in omega arith)
    (cases_lt i j)

-- One more element of a list.
pub taken : {X : Type 0} (xs : List X) (i : ℕ) (x : X) → slice_get xs i ≡ Some x → take (i + 1) xs ≡ take i xs ++ x ∷ []
taken xs i x is =
    take_more xs i x (slice_get_within xs i x is) ∙ ap (λ y. take i xs ++ y ∷ []) (get_or_from_slice_get xs i x x is)

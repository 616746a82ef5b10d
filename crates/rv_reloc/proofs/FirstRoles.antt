-- The first claim for each address.
use Rattle.std.proofs.Common.{◌≡◌, ◌≢◌, ◌∙◌, sym, subst, ap, refl, ℕ, zero, suc, ◌+◌, ◌-◌, ◌<◌, ◌≤◌, ◌⊎◌, inl, inr, ⊎_elim, List}
use Rattle.std.proofs.Common.{[], ◌∷◌, ◌++◌, length, slice_index_or, IsTrue, ◌↔◌, nat_lt, arith}
use Rattle.std.specs.List.{Contains, AllPairs}
use Rattle.std.proofs.lemmas.Bool.{cases_lt, cases_eq, lt-ltb, ltb-true}
use Rattle.std.proofs.lemmas.List.{get_or_default}
use Rattle.std.proofs.lemmas.List.Elements.{Contains-append_left, Contains-push, Contains-push_cases}
use Rattle.std.proofs.lemmas.List.Quantifiers.{all_pairs_push}
use Rattle.rv_code.specs.declared.placed.Role.{Role}
use Rattle.rv_code.specs.declared.placed.Role.TheVariants.{Plain}
use Rattle.rv_code.specs.layout.Lists.{ListsAll}
use Rattle.elf_image.specs.declared.elf.Elf.{Elf}
use Rattle.elf_code.specs.Roles.{Claims, HasRole}
use Rattle.elf_code.specs.FileCode.{AreRoles}
use Rattle.rv_reloc.specs.declared.roles.Claim.{Claim}
use Rattle.rv_reloc.specs.Claims.{IsUpTo, IsClaimUpTo, IsClaim, AreClaims, IsFirstClaim}

not_above : (c d : Claim) → IsClaimUpTo c d → c.at ≤ d.at
not_above c d (inl less) = omega arith
not_above c d (inr (same, rest)) = omega arith

up_to_trans : (k1 y1 k2 y2 k3 y3 : ℕ) → IsUpTo k1 y1 k2 y2 → IsUpTo k2 y2 k3 y3 → IsUpTo k1 y1 k3 y3
up_to_trans k1 y1 k2 y2 k3 y3 (inl a) (inl b) = inl (omega arith)
up_to_trans k1 y1 k2 y2 k3 y3 (inl a) (inr (e, b)) = inl (omega arith)
up_to_trans k1 y1 k2 y2 k3 y3 (inr (e, a)) (inl b) = inl (omega arith)
up_to_trans k1 y1 k2 y2 k3 y3 (inr (e, a)) (inr (f, b)) = inr (e ∙ f, omega arith)

up_to_same : (k1 y1 k2 y2 : ℕ) → IsUpTo k1 y1 k2 y2 → IsUpTo k2 y2 k1 y1 → (k1 ≡ k2) × (y1 ≡ y2)
up_to_same k1 y1 k2 y2 (inl a) (inl b) = absurd (omega arith)
up_to_same k1 y1 k2 y2 (inl a) (inr (e, b)) = absurd (omega arith)
up_to_same k1 y1 k2 y2 (inr (e, a)) (inl b) = absurd (omega arith)
up_to_same k1 y1 k2 y2 (inr (e, a)) (inr (f, b)) = (e, omega arith)

-- The first claim, by its neighbour.
pub first_zero : (claims : List Claim) (k : ℕ) → k ≡ 0 → IsFirstClaim claims k
first_zero claims k none j d less = absurd (omega arith)

pub first_above : (claims : List Claim) (k : ℕ) → AllPairs IsClaimUpTo claims → k < length claims →
    ((d : Claim) → (slice_index_or claims (k - 1) d).at < (slice_index_or claims k d).at) → IsFirstClaim claims k
first_above claims k ordered within rises j d less =
    let here = rises d in
    ⊎_elim
    (λ (before : j < k - 1). let low = not_above (slice_index_or claims j d) (slice_index_or claims (k - 1) d)
    (ordered j (k - 1) d before (omega arith)) in omega arith)
    (λ (beside : k - 1 ≤ j). let e : j ≡ k - 1 = omega arith in
    subst (λ (i : ℕ). (slice_index_or claims i d).at < (slice_index_or claims k d).at) (sym e) here)
    (cases_lt j (k - 1))

-- Roles, claim by claim.

abbrev pub IsFirstBelow : List Claim → ℕ → ℕ × Role → Type 0
IsFirstBelow claims i r =
    (k : ℕ) × (k < i) × IsFirstClaim claims k
    × ((d : Claim) → ((slice_index_or claims k d).at ≡ r.0) × ((slice_index_or claims k d).role ≡ r.1))

abbrev pub IsBefore : ℕ × Role → ℕ × Role → Type 0
IsBefore r s = r.0 < s.0

pub roles_begin : (claims : List Claim) (roles : List (ℕ × Role)) → roles ≡ [] → ListsAll (IsFirstBelow claims 0) IsBefore roles
roles_begin claims roles none = subst (ListsAll (IsFirstBelow claims 0) IsBefore) (sym none) (record {
  only = λ r (k, within, is). absurd (omega arith);
  each = λ r (k, below, first, same). absurd (omega arith);
  ordered = λ i j d less within. absurd (omega arith);
})

below_cases : (claims : List Claim) (i : ℕ) (r : ℕ × Role) → IsFirstBelow claims (i + 1) r → IsFirstBelow claims i r
    ⊎ (IsFirstClaim claims i × ((d : Claim) → ((slice_index_or claims i d).at ≡ r.0) × ((slice_index_or claims i d).role ≡ r.1)))
below_cases claims i r (k, below, first, same) =
    ⊎_elim
    (λ (less : k < i). inl (k, less, first, same))
    (λ (more : i ≤ k). let e : k ≡ i = omega arith in
    inr (subst (λ (n : ℕ). IsFirstClaim claims n
    × ((d : Claim) → ((slice_index_or claims n d).at ≡ r.0) × ((slice_index_or claims n d).role ≡ r.1))) e (first, same)))
    (cases_lt k i)

later : (claims : List Claim) (i : ℕ) (r : ℕ × Role) → IsFirstBelow claims i r → IsFirstBelow claims (i + 1) r
later claims i r (k, below, first, same) = (k, omega arith, first, same)

pub roles_skip : (claims : List Claim) (roles : List (ℕ × Role)) (i : ℕ) → (IsFirstClaim claims i → ⊥) →
    ListsAll (IsFirstBelow claims i) IsBefore roles → ListsAll (IsFirstBelow claims (i + 1)) IsBefore roles
roles_skip claims roles i other lists = record {
  only = λ r is_in. later claims i r (lists.only r is_in);
  each = λ r is. ⊎_elim (lists.each r) (λ (first, same). absurd (other first)) (below_cases claims i r is);
  ordered = lists.ordered;
}

pub roles_push : (claims : List Claim) (roles now : List (ℕ × Role)) (i : ℕ) (x : Claim) → i < length claims →
    x ≡ slice_index_or claims i x → IsFirstClaim claims i → now ≡ roles ++ (x.at, x.role) ∷ [] →
    ListsAll (IsFirstBelow claims i) IsBefore roles → ListsAll (IsFirstBelow claims (i + 1)) IsBefore now
roles_push claims roles now i x within is first pushed lists =
    subst (ListsAll (IsFirstBelow claims (i + 1)) IsBefore) (sym pushed) (record {
      only = λ r is_in. ⊎_elim
          (λ before. later claims i r (lists.only r before))
          (λ (same : (x.at, x.role) ≡ r). subst (IsFirstBelow claims (i + 1)) same (i, omega arith, first, here))
          (Contains-push_cases roles (x.at, x.role) r is_in);
      each = λ r belongs. ⊎_elim
          (λ before. Contains-append_left roles ((x.at, x.role) ∷ []) r (lists.each r before))
          (λ (_, same). let both = same x in let (a, b) = here x in
          subst (Contains (roles ++ (x.at, x.role) ∷ [])) (λ j. ((sym a ∙ both.0) j, (sym b ∙ both.1) j))
          (Contains-push roles (x.at, x.role)))
          (below_cases claims i r belongs);
      ordered = all_pairs_push IsBefore roles (x.at, x.role) lists.ordered (λ j d inside.
          let (k, below, _, same) =
          lists.only (slice_index_or roles j d) (j, inside, get_or_default roles j (slice_index_or roles j d) d inside) in
          let low = first k x below in
          let (a, b) = here x in
          let (p, q) = same x in
          omega arith);
    })
  where
    here : (d : Claim) → ((slice_index_or claims i d).at ≡ x.at) × ((slice_index_or claims i d).role ≡ x.role)
    here d = let e : slice_index_or claims i d ≡ x = get_or_default claims i d x within ∙ sym is in
        (ap (λ (c : Claim). c.at) e, ap (λ (c : Claim). c.role) e)

-- The roles that win.

at_index : (elf : Elf) (claims : List Claim) (k : ℕ) (d : Claim) → k < length claims → Contains claims (slice_index_or claims k d)
at_index elf claims k d within = (k, within, get_or_default claims k (slice_index_or claims k d) d within)

-- If a list has a claim for an address, it has a first one.
first_down : (claims : List Claim) (n k : ℕ) (d : Claim) → k ≤ n → AllPairs IsClaimUpTo claims →
    k < length claims → (j : ℕ) × (j ≤ k)
    × IsFirstClaim claims j × ((slice_index_or claims j d).at ≡ (slice_index_or claims k d).at)
first_down claims zero k d bound ordered within = (k, omega arith, first_zero claims k (omega arith), refl)
first_down claims (suc n) k d bound ordered within =
    ⊎_elim
    (λ (none : k ≡ 0). (k, omega arith, first_zero claims k none, refl))
    (λ (some : k ≢ 0).
    let low =
    not_above (slice_index_or claims (k - 1) d) (slice_index_or claims k d) (ordered (k - 1) k d (omega arith) within) in
    ⊎_elim
    (λ (less : (slice_index_or claims (k - 1) d).at < (slice_index_or claims k d).at). (
      k,
      omega arith,
      first_above claims k ordered within (λ e.
          let s = ap (λ (c : Claim). c.at) (get_or_default claims (k - 1) e d (omega arith)) in
          let t = ap (λ (c : Claim). c.at) (get_or_default claims k e d within) in omega arith),
      refl,
    ))
    (λ (more : (slice_index_or claims k d).at ≤ (slice_index_or claims (k - 1) d).at).
    let (j, below, first, same) = first_down claims n (k - 1) d (omega arith) ordered (omega arith) in (
      j,
      omega arith,
      first,
      same ∙ (let e : (slice_index_or claims (k - 1) d).at ≡ (slice_index_or claims k d).at = omega arith in e),
    ))
    (cases_lt (slice_index_or claims (k - 1) d).at (slice_index_or claims k d).at))
    (cases_eq k 0)

-- The first claim for an address is at or before all claims for it.
first_least : (claims : List Claim) (k j : ℕ) (d : Claim) → AllPairs IsClaimUpTo claims → IsFirstClaim claims k →
    k < length claims →
    j < length claims → (slice_index_or claims j d).at ≡ (slice_index_or claims k d).at →
    IsUpTo (slice_index_or claims k d).kind (slice_index_or claims k d).key (slice_index_or claims j d).kind
    (slice_index_or claims j d).key
first_least claims k j d ordered first within inside same =
    ⊎_elim
    (λ (less : j < k). let low = first j d less in absurd (omega arith))
    (λ (more : k ≤ j). ⊎_elim
    (λ (above : k < j). ⊎_elim (λ less. absurd (omega arith)) (λ (_, rest). rest) (ordered k j d above inside))
    (λ (here : j ≤ k). let e : k ≡ j = omega arith in
    inr (
      ap (λ (i : ℕ). (slice_index_or claims i d).kind) e,
      let y = ap (λ (i : ℕ). (slice_index_or claims i d).key) e in omega arith,
    ))
    (cases_lt k j))
    (cases_lt j k)

role_from : (elf : Elf) (claims : List Claim) (r : ℕ × Role) → AreClaims elf claims → IsFirstBelow claims (length claims) r →
    HasRole elf r.0 r.1
role_from elf claims r are (k, within, first, same) = record {
  relocation = claim.source;
  key = c.key;
  claims = subst (λ (a : ℕ). Claims elf claim.source a c.key r.1) (same d).0
      (subst (λ (role : Role). Claims elf claim.source c.at c.key role) (same d).1 claim.is_claim.claims);
  first = λ q key' role' claimed.
      let (other, listed, there, before) = are.cover q r.0 key' role' claimed in
      let (j, inside, is) = listed in
      let e : slice_index_or claims j d ≡ other = get_or_default claims j d other inside ∙ is in
      let place : (slice_index_or claims j d).at ≡ (slice_index_or claims k d).at =
      ap (λ (x : Claim). x.at) e ∙ there ∙ sym (same d).0 in
      let least = first_least claims k j d are.ordered first within inside place in
      let up = up_to_trans c.kind c.key (slice_index_or claims j d).kind (slice_index_or claims j d).key q.kind key' least
      (subst (λ (x : Claim). IsUpTo x.kind x.key q.kind key') (sym e) before) in
      subst (λ (n : ℕ). IsUpTo n c.key q.kind key') claim.is_claim.kind_is up;
}
  where
    d : Claim
    d = record { at = 0; kind = 0; key = 0; role = Plain }

    c : Claim
    c = slice_index_or claims k d

    claim : IsClaim elf c
    claim = are.sound c (at_index elf claims k d within)

role_listed : (elf : Elf) (claims : List Claim) (r : ℕ × Role) → AreClaims elf claims → HasRole elf r.0 r.1 →
    IsFirstBelow claims (length claims) r
role_listed elf claims r are has =
    let (other, listed, there, before) = are.cover has.relocation r.0 has.key r.1 has.claims in
    let (j, inside, is) = listed in
    let e : slice_index_or claims j d ≡ other = get_or_default claims j d other inside ∙ is in
    let (k, below, first, same) = first_down claims j j d (omega arith) are.ordered inside in
    let place : (slice_index_or claims k d).at ≡ r.0 = same ∙ ap (λ (x : Claim). x.at) e ∙ there in
    let least = first_least claims k j d are.ordered first (omega arith) inside (sym same) in
    let up = up_to_trans (slice_index_or claims k d).kind (slice_index_or claims k d).key (slice_index_or claims j d).kind
    (slice_index_or claims j d).key has.relocation.kind has.key least
    (subst (λ (x : Claim). IsUpTo x.kind x.key has.relocation.kind has.key) (sym e) before) in
    let claim = are.sound (slice_index_or claims k d) (at_index elf claims k d (omega arith)) in
    let down' = has.first claim.source (slice_index_or claims k d).key (slice_index_or claims k d).role
    (subst (λ (a : ℕ). Claims elf claim.source a (slice_index_or claims k d).key
    (slice_index_or claims k d).role) place claim.is_claim.claims) in
    let down =
    subst (λ (n : ℕ). IsUpTo has.relocation.kind has.key n (slice_index_or claims k d).key) (sym claim.is_claim.kind_is) down' in
    let (kinds, keys) =
    up_to_same has.relocation.kind has.key (slice_index_or claims k d).kind (slice_index_or claims k d).key down up in
    let same_claim : Claims elf has.relocation (slice_index_or claims k d).at (slice_index_or claims k d).key r.1 =
    subst (λ (a : ℕ). Claims elf has.relocation a (slice_index_or claims k d).key r.1) (sym place)
    (subst (λ (n : ℕ). Claims elf has.relocation r.0 n r.1) keys has.claims) in
    let role : r.1 ≡ (slice_index_or claims k d).role =
    claim.is_claim.sure has.relocation r.1 (kinds ∙ claim.is_claim.kind_is) same_claim in (
      k,
      omega arith,
      first,
      λ f.
          let g : slice_index_or claims k f ≡ slice_index_or claims k d = get_or_default claims k f d (omega arith) in
          (ap (λ (x : Claim). x.at) g ∙ place, ap (λ (x : Claim). x.role) g ∙ sym role),
    )
  where
    d : Claim
    d = record { at = 0; kind = 0; key = 0; role = Plain }

pub roles_all : (elf : Elf) (claims : List Claim) (roles : List (ℕ × Role)) (i : ℕ) → AreClaims elf claims → i ≡ length claims →
    ListsAll (IsFirstBelow claims i) IsBefore roles → AreRoles elf roles
roles_all elf claims roles i are all lists =
    let whole : ListsAll (IsFirstBelow claims (length claims)) IsBefore roles =
    subst (λ (n : ℕ). ListsAll (IsFirstBelow claims n) IsBefore roles) all lists in
    record {
      only = λ r is_in. role_from elf claims r are (whole.only r is_in);
      each = λ r has. whole.each r (role_listed elf claims r are has);
      ordered = whole.ordered;
    }

-- The comparison with the neighbour.
pub first_if : (claims : List Claim) (k : ℕ) (e : Claim) → AllPairs IsClaimUpTo claims → k < length claims → k ≢ 0 →
    IsTrue (nat_lt (slice_index_or claims (k - 1) e).at (slice_index_or claims k e).at) ↔ IsFirstClaim claims k
first_if claims k e ordered within some = (
  λ is. let less = ltb-true (slice_index_or claims (k - 1) e).at (slice_index_or claims k e).at is in
      first_above claims k ordered within (λ d.
      let s = ap (λ (c : Claim). c.at) (get_or_default claims (k - 1) d e (omega arith)) in
      let t = ap (λ (c : Claim). c.at) (get_or_default claims k d e within) in omega arith),
  λ first. lt-ltb (slice_index_or claims (k - 1) e).at (slice_index_or claims k e).at (first (k - 1) e (omega arith)),
)

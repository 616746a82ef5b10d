-- The claims of relocations, relocation by relocation.
use Rattle.std.proofs.Common.{◌≡◌, ◌∙◌, sym, subst, ap, refl, ℕ, ◌+◌, ◌<◌, ◌≤◌, ◌⊎◌, inl, inr, ⊎_elim, List, [], ◌∷◌, ◌++◌, take}
use Rattle.std.proofs.Common.{length, slice_index_or, Option, Some, None, IfSome, IsSomeAnd, IsTrue, arith}
use Rattle.std.specs.List.{Contains, AllPairs}
use Rattle.std.specs.Option.{option_to_list}
use Rattle.std.specs.List.Sorted.{IsPermutation}
use Rattle.std.proofs.lemmas.List.{take_more, take_all}
use Rattle.std.proofs.lemmas.List.Elements.{Contains-append_left, Contains-append_right, Contains-append_cases, Contains-push_cases}
use Rattle.std.proofs.lemmas.List.Sorted.{Contains-permutation, IsPermutation-sym}
use Rattle.rv_code.specs.declared.placed.Role.{Role}
use Rattle.elf_image.specs.declared.elf.Elf.{Elf}
use Rattle.elf_code.specs.Relocations.{Relocation, relocations, is_call_pair, is_pcrel_hi, is_pcrel_lo, is_absolute}
use Rattle.elf_code.specs.Roles.{Claims}
use Rattle.rv_reloc.specs.declared.records.Record.{Record}
use Rattle.rv_reloc.specs.declared.roles.Claim.{Claim}
use Rattle.rv_reloc.specs.Claims.{IsClaimUpTo, IsClaimOf, IsClaim, AreClaimsOf, AreClaims}
use Rattle.rv_reloc.specs.Records.{seen, AreRecords}
use Rattle.rv_reloc.proofs.Absolutes.{kind_absolute}
use Rattle.rv_reloc.proofs.Alike.{claims-for}
use Rattle.rv_reloc.proofs.Kept.{kept}

-- The addresses of a relocation's claims.
claims_where : (elf : Elf) (r : Relocation) (a key : ℕ) (role : Role) → Claims elf r a key role →
    (a ≡ r.place) ⊎ (a ≡ r.place + 4)
claims_where elf r a key role (Claims.call_hi target to here key_is role_is) = inl here
claims_where elf r a key role (Claims.call_lo target to here key_is role_is) = inr here
claims_where elf r a key role (Claims.weak_call pair zero here key_is role_is) = inl here
claims_where elf r a key role (Claims.hi target to here key_is role_is) = inl here
claims_where elf r a key role (Claims.lo hi target to here key_is role_is) = inl here
claims_where elf r a key role (Claims.abs_hi target to kind rd imm full here key_is role_is) = inl here
claims_where elf r a key role (Claims.abs_lo target to kind inst full some here key_is role_is) = inl here

-- A relocation with a type that makes no claims.
pub claims_kind : (elf : Elf) (r : Relocation) (a key : ℕ) (role : Role) → (IsTrue (is_call_pair r.kind) → ⊥) →
    (IsTrue (is_pcrel_hi r.kind) → ⊥) → (IsTrue (is_pcrel_lo r.kind) → ⊥) → (IsTrue (is_absolute r.kind) → ⊥) →
    Claims elf r a key role → ⊥
claims_kind elf r a key role call hi lo absolute (Claims.call_hi target to here key_is role_is) = call to.pair.is_call
claims_kind elf r a key role call hi lo absolute (Claims.call_lo target to here key_is role_is) = call to.pair.is_call
claims_kind elf r a key role call hi lo absolute (Claims.weak_call pair zero here key_is role_is) = call pair.is_call
claims_kind elf r a key role call hi lo absolute (Claims.hi target to here key_is role_is) = hi to.is_hi
claims_kind elf r a key role call hi lo absolute (Claims.lo at target to here key_is role_is) = lo to.part.is_low
claims_kind elf r a key role call hi lo absolute (Claims.abs_hi target to kind rd imm full here key_is role_is) =
    absolute (kind_absolute r.kind (inl kind))
claims_kind elf r a key role call hi lo absolute (Claims.abs_lo target to kind inst full some here key_is role_is) =
    absolute (kind_absolute r.kind (inr kind))

pub claims_begin : (elf : Elf) (records : List Record) (claims : List Claim) → claims ≡ [] →
    AreClaimsOf elf (take 0 records) claims
claims_begin elf records claims none = record {
  sound = λ c listed. let (k, within, is) = subst (λ (cs : List Claim). Contains cs c) none listed in absurd (omega arith);
  cover = λ r listed a key role claimed. let (k, within, is) = listed in absurd (omega arith);
}

claim_is : (elf : Elf) (r : Relocation) (a : ℕ) (c : Claim) → IsClaimOf elf r a c → IsClaim elf c
claim_is elf r a c is = record { source = r; is_claim = subst (λ (n : ℕ). IsClaimOf elf r n c) (sym is.at_is) is }

listed_is : {A : Type 0} (Is : A → Type 0) (o : Option A) (x : A) → IfSome o Is → Contains (option_to_list o) x → Is x
listed_is Is None x is (k, within, there) = absurd (omega arith)
listed_is {A} Is (Some y) x is (k, within, there) =
    let first : k ≡ 0 = omega arith in subst Is (subst (λ (n : ℕ). slice_index_or (y ∷ []) n x ≡ x) first there) is

found : (elf : Elf) (r : Relocation) (a key : ℕ) (o : Option Claim) → IfSome o (IsClaimOf elf r a) →
    IsSomeAnd o (λ c. c.key ≡ key) → (c : Claim) × Contains (option_to_list o) c × (c.at ≡ a) × (c.kind ≡ r.kind) × (c.key ≡ key)
found elf r a key None is some = absurd some
found elf r a key (Some c) is some = (c, (0, omega arith, refl), is.at_is, is.kind_is, some)

pub claims_next : (elf : Elf) (records : List Record) (i : ℕ) (x : Record) (claims next now : List Claim)
    (one two : Option Claim) →
    i < length records → x ≡ slice_index_or records i x → next ≡ claims ++ option_to_list one → now ≡ next ++ option_to_list two →
    IfSome one (IsClaimOf elf (seen x) x.place) →
    ((key : ℕ) (role : Role) → Claims elf (seen x) x.place key role → IsSomeAnd one (λ c. c.key ≡ key)) →
    IfSome two (IsClaimOf elf (seen x) (x.place + 4)) →
    ((key : ℕ) (role : Role) → Claims elf (seen x) (x.place + 4) key role → IsSomeAnd two (λ c. c.key ≡ key)) →
    AreClaimsOf elf (take i records) claims → AreClaimsOf elf (take (i + 1) records) now
claims_next elf records i x claims next now one two within at pushed pushed' is each is' each' before =
    let taken : take (i + 1) records ≡ take i records ++ x ∷ [] = take_more records i x within
    ∙ ap (λ (r : Record). take i records ++ r ∷ []) (sym at) in
    subst (λ (rs : List Record). AreClaimsOf elf rs now) (sym taken) (record {
      sound = λ c listed. ⊎_elim
          (λ early. ⊎_elim (before.sound c)
          (λ here. claim_is elf (seen x) x.place c (listed_is (IsClaimOf elf (seen x) x.place) one c is here))
          (Contains-append_cases claims (option_to_list one) c (subst (λ (cs : List Claim). Contains cs c) pushed early)))
          (λ here. claim_is elf (seen x) (x.place + 4) c (listed_is (IsClaimOf elf (seen x) (x.place + 4)) two c is' here))
          (Contains-append_cases next (option_to_list two) c (subst (λ (cs : List Claim). Contains cs c) pushed' listed));
      cover = λ r listed a key role claimed. ⊎_elim
          (λ early. let (c, in_claims, c_at, c_kind, c_key) = before.cover r early a key role claimed in
          (c, keep c (enter c (Contains-append_left claims (option_to_list one) c in_claims)), c_at, c_kind, c_key))
          (λ (same : x ≡ r). covered r same a key role claimed)
          (Contains-push_cases (take i records) x r listed);
    })
  where
    enter : (c : Claim) → Contains (claims ++ option_to_list one) c → Contains next c
    enter c is_in = subst (λ (cs : List Claim). Contains cs c) (sym pushed) is_in

    keep : (c : Claim) → Contains next c → Contains now c
    keep c is_in =
        subst (λ (cs : List Claim). Contains cs c) (sym pushed') (Contains-append_left next (option_to_list two) c is_in)

    here_at : (a key : ℕ) (role : Role) → Claims elf (seen x) a key role →
        (c : Claim) × Contains now c × (c.at ≡ a) × (c.kind ≡ x.kind)
        × (c.key ≡ key)
    here_at a key role claimed = ⊎_elim
        (λ (there : a ≡ x.place).
        let (c, is_in, c_at, c_kind, c_key) =
        found elf (seen x) x.place key one is (each key role (subst (λ (n : ℕ). Claims elf (seen x) n key role) there claimed)) in
        (c, keep c (enter c (Contains-append_right claims (option_to_list one) c is_in)), c_at ∙ sym there, c_kind, c_key))
        (λ (there : a ≡ x.place + 4).
        let (c, is_in, c_at, c_kind, c_key) =
        found elf (seen x) (x.place + 4) key two is'
        (each' key role (subst (λ (n : ℕ). Claims elf (seen x) n key role) there claimed)) in (
          c,
          subst (λ (cs : List Claim). Contains cs c) (sym pushed') (Contains-append_right next (option_to_list two) c is_in),
          c_at
              ∙ sym there,
          c_kind,
          c_key,
        ))
        (claims_where elf (seen x) a key role claimed)

    covered : (r : Record) → x ≡ r → (a key : ℕ) (role : Role) → Claims elf (seen r) a key role → (c : Claim) × Contains now c
        × (c.at ≡ a) × (c.kind ≡ r.kind) × (c.key ≡ key)
    covered r same a key role claimed =
        subst (λ (q : Record). (c : Claim) × Contains now c × (c.at ≡ a) × (c.kind ≡ q.kind) × (c.key ≡ key)) same
        (here_at a key role (subst (λ (q : Record). Claims elf (seen q) a key role) (sym same) claimed))

pub claims_all : (elf : Elf) (records : List Record) (i : ℕ) (claims : List Claim) → length records ≤ i →
    AreClaimsOf elf (take i records) claims → AreClaimsOf elf records claims
claims_all elf records i claims all are = subst (λ (rs : List Record). AreClaimsOf elf rs claims) (take_all i records all) are

pub AreClaims-sorted : (elf : Elf) (records : List Record) (were claims : List Claim) → AreRecords elf records →
    AreClaimsOf elf records were → IsPermutation were claims → AllPairs IsClaimUpTo claims → AreClaims elf claims
AreClaims-sorted elf records were claims are of moved ordered = record {
  ordered = ordered;
  sound = λ c listed. of.sound c (Contains-permutation claims were c (IsPermutation-sym were claims moved) listed);
  cover = λ r a key role claimed.
      let (t, q, listed, same, there) = kept elf records r are (counted r a key role claimed) in
      let (c, is_in, c_at, c_kind, c_key) =
      of.cover q listed a key role
      (subst (λ (s : Relocation). Claims elf s a key role) (sym same) (claims-for elf t r there a key role claimed)) in (
        c,
        Contains-permutation were claims c moved is_in,
        c_at,
        inr
            (c_kind ∙ ap (λ (s : Relocation). s.kind) same, (let e = c_key in omega arith)),
      );
}
  where
    counted : (r : Relocation) (a key : ℕ) (role : Role) → Claims elf r a key role → Contains (relocations elf) r
    counted r a key role (Claims.call_hi target to here key_is role_is) = to.pair.counts
    counted r a key role (Claims.call_lo target to here key_is role_is) = to.pair.counts
    counted r a key role (Claims.weak_call pair zero here key_is role_is) = pair.counts
    counted r a key role (Claims.hi target to here key_is role_is) = to.counts
    counted r a key role (Claims.lo hi target to here key_is role_is) = to.part.counts
    counted r a key role (Claims.abs_hi target to kind rd imm full here key_is role_is) = to.counts
    counted r a key role (Claims.abs_lo target to kind inst full some here key_is role_is) = to.counts

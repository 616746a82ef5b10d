-- A section whose units get new bytes, as many as they had.
use Rattle.std.proofs.Common.{◌≡◌, ◌≤◌, ◌+◌, ◌++◌, ◌∙◌, ℕ, List, [], ◌∷◌, Some, false, refl, ap, sym, subst, arith, length, length-append}
use Rattle.std.proofs.Common.{append_assoc}
use Rattle.std.specs.Prelude.{⊤, ◌==◌, flat_map}
use Rattle.byteorder.specs.Endian.{little_number}
use Rattle.table_core.specs.DebugUnits.{Walked, DWARF64}
use Rattle.dw_unit.specs.declared.entry.Attr.{Attr}
use Rattle.dw_unit.specs.CompUnits.{end_of}
use Rattle.dw_unit.specs.Changes.{Patch, patched}
use Rattle.dw_unit.proofs.Patched.{From}
use Rattle.dw_unit.proofs.SameBytes.{IsSameAt, same_behind, same_before}
use Rattle.dw_unit.proofs.WholeUnits.{IsWhole, AreWhole}

abbrev pub renewed : Walked → List ℕ → Walked
renewed w new = record { place = w.place; bytes = Some new; is_other = false }

-- The bytes of a unit after its length, with patches.
pub record IsRenewed (w : Walked) (ps : List Patch) (bytes new : List ℕ) : Type 0 where
  pub size : length new ≡ length bytes
  pub version : little_number 2 new ≡ little_number 2 bytes
  pub starts : (qs : List Patch) → From (end_of w) qs → From w.place (ps ++ qs)
  pub are : (lead after : List ℕ) (qs : List Patch) → length lead ≡ 4 → From (end_of w) qs →
      patched w.place (ps ++ qs) ((lead ++ bytes) ++ after) ≡ (lead ++ new) ++ patched (end_of w) qs after

-- The units, a value for each, and its new bytes.
module _ {X : Type 0} (ps : X → List Patch) (P : Walked → X → List ℕ → Type 0) where
  pub record IsNew (w : Walked) (x : X) (new : List ℕ) : Type 0 where
    pub renewal : (bytes : List ℕ) → w.bytes ≡ Some bytes → IsRenewed w (ps x) bytes new
    pub says : P w x new

  abbrev pub AreNew : List Walked → List X → List (List ℕ) → Type 0
  AreNew [] [] [] = ⊤
  AreNew [] [] (n ∷ ns) = ⊥
  AreNew [] (x ∷ xs) ns = ⊥
  AreNew (w ∷ ws) [] ns = ⊥
  AreNew (w ∷ ws) (x ∷ xs) [] = ⊥
  AreNew (w ∷ ws) (x ∷ xs) (n ∷ ns) = IsNew w x n × AreNew ws xs ns

abbrev pub all_renewed : List Walked → List (List ℕ) → List Walked
all_renewed [] ns = []
all_renewed (w ∷ ws) [] = []
all_renewed (w ∷ ws) (n ∷ ns) = renewed w n ∷ all_renewed ws ns

module _ {X : Type 0} (ps : X → List Patch) (P : Walked → X → List ℕ → Type 0) where
  pub record IsSection (place : ℕ) (ws : List Walked) (xs : List X) (ns : List (List ℕ)) (left : List ℕ) : Type 0 where
    pub new : List ℕ
    pub size : length new ≡ length left
    pub starts : From place (flat_map ps xs)
    pub are : patched place (flat_map ps xs) left ≡ new
    pub whole : AreWhole place (all_renewed ws ns) new

  head_place : (place : ℕ) (w : Walked) (left rest : List ℕ) → IsWhole place w left rest → w.place ≡ place
  head_place place w left rest i = ap (λ (x : Walked). x.place) i.walked

  pub section_renewed : (place : ℕ) (ws : List Walked) (xs : List X) (ns : List (List ℕ)) (left : List ℕ) → AreWhole place ws left →
      AreNew ps P ws xs ns →
      IsSection place ws xs ns left
  section_renewed place [] [] [] left whole are = record {
    new = [];
    size = ap length (sym whole);
    starts = tt;
    are = whole;
    whole = refl;
  }
  section_renewed place [] [] (n ∷ ns) left whole are = absurd are
  section_renewed place [] (x ∷ xs) ns left whole are = absurd are
  section_renewed place (w ∷ ws) [] ns left whole are = absurd are
  section_renewed place (w ∷ ws) (x ∷ xs) [] left whole are = absurd are
  section_renewed place (w ∷ ws) (x ∷ xs) (n ∷ ns) left (rest, i, more) (here, later) =
      let r : IsRenewed w (ps x) i.bytes n = here.renewal i.bytes (ap (λ (x : Walked). x.bytes) i.walked) in
      let s : IsSection (end_of w) ws xs ns rest = section_renewed (end_of w) ws xs ns rest more later in
      let qs : List Patch = flat_map ps xs in
      let place_is : w.place ≡ place = head_place place w left rest i in
      let end_is : end_of w ≡ place + 4 + length i.bytes = ap end_of i.walked in
      let size_is = r.size in
      let new_end : end_of (renewed w n) ≡ end_of w =
      ap (λ (k : ℕ). k + 4 + length n) place_is ∙ ap (λ (k : ℕ). place + 4 + k) size_is ∙ sym end_is in
      let long = length-append i.size (n ++ s.new) in
      let long2 = length-append n s.new in
      let old = ap length i.is ∙ length-append i.size (i.bytes ++ rest) in
      let old2 = length-append i.bytes rest in
      let behind = s.size in
      record {
        new = i.size ++ (n ++ s.new);
        size = omega arith;
        starts = subst (λ (k : ℕ). From k (ps x ++ qs)) place_is (r.starts qs s.starts);
        are =
            ap (λ (l : List ℕ). patched place (ps x ++ qs) l) (i.is ∙ sym (append_assoc i.size i.bytes rest))
            ∙ ap (λ (k : ℕ). patched k (ps x ++ qs) ((i.size ++ i.bytes) ++ rest)) (sym place_is)
            ∙ r.are i.size rest qs i.size_is s.starts
            ∙ ap (λ (l : List ℕ). (i.size ++ n) ++ l) s.are
            ∙ append_assoc i.size n s.new;
        whole = (
          s.new,
          record {
            size = i.size;
            bytes = n;
            is = refl;
            size_is = i.size_is;
            says = i.says ∙ sym size_is;
            walked = ap (λ (k : ℕ). record { place = k; bytes = Some n; is_other = false }) place_is;
            version = r.version ∙ i.version;
            some = subst (λ (k : ℕ). 2 ≤ k) (sym size_is) i.some;
            known = ap (λ (k : ℕ). k == DWARF64) size_is ∙ i.known;
          },
          subst (λ (k : ℕ). AreWhole k (all_renewed ws ns) s.new) (sym new_end) s.whole,
        );
      }

-- Values that don't change, from a unit's bytes to the bytes of the section.
module _ {X : Type 0} (ps : X → List Patch) (P : Walked → X → List ℕ → Type 0) where
  abbrev pub IsStaying : Walked → List ℕ → Attr → Type 0
  IsStaying w new a = (bytes : List ℕ) → w.bytes ≡ Some bytes → IsSameAt (w.place + 4) a bytes new

  abbrev pub StayAll : (from : ℕ) (old new : List ℕ) → List Walked → List (List ℕ) → Type 0
  StayAll from old new [] ns = ⊤
  StayAll from old new (w ∷ ws) [] = ⊤
  StayAll from old new (w ∷ ws) (n ∷ ns) = ((a : Attr) → IsStaying w n a → IsSameAt from a old new) × StayAll from old new ws ns

  stay_later : (from to : ℕ) (p q old new : List ℕ) (ws : List Walked) (ns : List (List ℕ)) → to ≡ from + length p → length q ≡ length p →
      StayAll to old new ws ns → StayAll from (p ++ old) (q ++ new) ws ns
  stay_later from to p q old new [] ns e f s = tt
  stay_later from to p q old new (w ∷ ws) [] e f s = tt
  stay_later from to p q old new (w ∷ ws) (n ∷ ns) e f s =
      (λ a h. same_behind from to a p q old new e f (s.0 a h), stay_later from to p q old new ws ns e f s.1)

  pub section_stays : (place : ℕ) (ws : List Walked) (xs : List X) (ns : List (List ℕ)) (left new : List ℕ) → AreWhole place ws left →
      AreNew ps P ws xs ns →
      AreWhole place (all_renewed ws ns) new → StayAll place left new ws ns
  section_stays place [] xs ns left new whole are again = tt
  section_stays place (w ∷ ws) xs [] left new whole are again = tt
  section_stays place (w ∷ ws) [] (n ∷ ns) left new whole are again = absurd are
  section_stays place (w ∷ ws) (x ∷ xs) (n ∷ ns) left new (rest, i, more) (here, later) (rest2, j, more2) =
      let r : IsRenewed w (ps x) i.bytes n = here.renewal i.bytes (ap (λ (x : Walked). x.bytes) i.walked) in
      let place_is : w.place ≡ place = ap (λ (x : Walked). x.place) i.walked in
      let end_is : end_of w ≡ place + 4 + length i.bytes = ap end_of i.walked in
      let n_is : n ≡ j.bytes = some_bytes n j.bytes (ap (λ (x : Walked). x.bytes) j.walked) in
      let size_is = r.size in
      let four = i.size_is in
      let four2 = j.size_is in
      let new_size : length j.bytes ≡ length i.bytes = sym (ap length n_is) ∙ size_is in
      let new_end : end_of (renewed w n) ≡ end_of w =
      ap (λ (k : ℕ). k + 4 + length n) place_is ∙ ap (λ (k : ℕ). place + 4 + k) size_is ∙ sym end_is in
      let long = length-append i.size i.bytes in
      let long2 = length-append j.size j.bytes in
      let s : StayAll (end_of w) rest rest2 ws ns = section_stays (end_of w) ws xs ns rest rest2 more later
      (subst (λ (k : ℕ). AreWhole k (all_renewed ws ns) rest2) new_end more2) in (
        λ a h.
            let front : IsSameAt (place + 4) a i.bytes j.bytes =
            subst (λ (l : List ℕ). IsSameAt (place + 4) a i.bytes l) n_is
            (subst (λ (k : ℕ). IsSameAt (k + 4) a i.bytes n) place_is (h i.bytes (ap (λ (x : Walked). x.bytes) i.walked))) in
            subst (λ (l : List ℕ). IsSameAt place a l new) (sym i.is)
            (subst (λ (l : List ℕ). IsSameAt place a (i.size ++ (i.bytes ++ rest)) l) (sym j.is)
            (same_behind place (place + 4) a i.size j.size (i.bytes ++ rest) (j.bytes ++ rest2) (omega arith) (omega arith)
            (same_before (place + 4) a i.bytes j.bytes rest rest2 front))),
        subst (λ (l : List ℕ). StayAll place l new ws ns) (append_assoc i.size i.bytes rest ∙ sym i.is)
            (subst (λ (l : List ℕ). StayAll place ((i.size ++ i.bytes) ++ rest) l ws ns) (append_assoc j.size j.bytes rest2 ∙ sym j.is)
            (stay_later place (end_of w) (i.size ++ i.bytes) (j.size ++ j.bytes) rest rest2 ws ns (omega arith) (omega arith) s)),
      ) where
        some_bytes : (x y : List ℕ) → Some x ≡ Some y → x ≡ y
        some_bytes x y e = cc

-- Line units that are read, and the first one that can't be read.
use Rattle.std.proofs.Common.{◌≡◌, ◌∙◌, ◌≤◌, ◌<◌, ◌+◌, ◌++◌, ℕ, zero, suc, List, [], ◌∷◌, Option, Some, None, refl, sym, ap, arith, map}
use Rattle.std.proofs.Common.{length, take, get_or, subst, inl, inr, option_map, Result, Ok, Err}
use Rattle.std.specs.Prelude.{MatchResult, sum_by, not, is_some, find, filter_map, slice_get, option_and_then}
use Rattle.std.proofs.lemmas.List.{take_more, map-append}
use Rattle.std.proofs.lemmas.List.Elements.{All-nil, All-push}
use Rattle.std.proofs.lemmas.List.Sums.{sum_by_push, sum_by_more}
use Rattle.std.proofs.lemmas.Grind.{common_steps}
use Rattle.answer_runs.specs.Choices.{unless_any}
use Rattle.rb_bytes.specs.declared.fault.Fault.{Fault}
use Rattle.rb_bytes.specs.declared.fault.FaultKind.{FaultKind}
use Rattle.rb_bytes.specs.declared.fault.FaultKind.TheVariants.{DwarfVersion, LineFault}
use Rattle.rb_bytes.specs.declared.fault.Refusal.{Refusal}
use Rattle.rb_bytes.specs.declared.fault.Refusal.TheVariants as refusal
use Rattle.rb_bytes.specs.Fault.{fault_at, number_of}
use Rattle.rb_bytes.specs.FirstFault.{IsFree, IsAnswered, IsRefusalBy}
use Rattle.table_core.specs.DebugUnits.{Walked, walked, first_place}
use Rattle.line_rewrite.specs.declared.trouble.Trouble.{Trouble}
use Rattle.line_rewrite.specs.declared.trouble.Trouble.TheVariants.{Malformed}
use Rattle.line_rewrite.specs.declared.unit.Unit as kept
use Rattle.line_rewrite.specs.Entries.{Strings}
use Rattle.line_rewrite.specs.LineUnits.{LineUnit, unit_in}
use Rattle.line_rewrite.specs.LineAnswers.{line_units}
use Rattle.line_rewrite.specs.KeptUnits.{HasTables, told_unit}
use Rattle.line_rewrite.specs.Tables.{LineSections, HasLineFault, line_version, line_fault, line_at}
use Rattle.line_rewrite.specs.Troubles.{Tells}
use Rattle.line_rewrite.specs.UnitLists.{kept_size, walked_size, AreUnits, IsLineFault}

-- Lists whose values are all present

module _ {X U Y : Type 0} (f : X → Option Y) (g : U → Y) where
  head_is : (x : X) (xs : List X) (u : U) (us : List U) → map f (x ∷ xs) ≡ map (λ u. Some (g u)) (u ∷ us) → f x ≡ Some (g u)
  head_is x xs u us e = cc

  tail_is : (x : X) (xs : List X) (u : U) (us : List U) → map f (x ∷ xs) ≡ map (λ u. Some (g u)) (u ∷ us) →
      map f xs ≡ map (λ u. Some (g u)) us
  tail_is x xs u us e = cc

  pub all_there : (xs : List X) (us : List U) → map f xs ≡ map (λ u. Some (g u)) us → filter_map f xs ≡ map g us
  all_there [] [] e = refl
  all_there [] (u ∷ us) e = absurd (cc)
  all_there (x ∷ xs) [] e = absurd (cc)
  all_there (x ∷ xs) (u ∷ us) e = rw (head_is x xs u us e) (ap (λ (l : List Y). g u ∷ l) (all_there xs us (tail_is x xs u us e)))

  pub none_fails : (xs : List X) (us : List U) → map f xs ≡ map (λ u. Some (g u)) us → find (λ x. not (is_some (f x))) xs ≡ None
  none_fails [] [] e = refl
  none_fails [] (u ∷ us) e = absurd (cc)
  none_fails (x ∷ xs) [] e = absurd (cc)
  none_fails (x ∷ xs) (u ∷ us) e = rw (head_is x xs u us e) (none_fails xs us (tail_is x xs u us e))

  pub first_fails : (i : ℕ) (xs : List X) (us : List U) (d : X) → map f (take i xs) ≡ map (λ u. Some (g u)) us → i < length xs
      → f (get_or xs i d) ≡ None → find (λ x. not (is_some (f x))) xs ≡ Some (get_or xs i d)
  first_fails i [] us d e h n = absurd (omega arith)
  first_fails zero (x ∷ xs) us d e h n = rw n refl
  first_fails (suc i) (x ∷ xs) [] d e h n = absurd (cc)
  first_fails (suc i) (x ∷ xs) (u ∷ us) d e h n =
      rw (head_is x (take i xs) u us e) (first_fails i xs us d (tail_is x (take i xs) u us e) (omega arith) n)

  pub there_at : (xs : List X) (us : List U) (i : ℕ) → map f xs ≡ map (λ u. Some (g u)) us
      → option_and_then f (slice_get xs i) ≡ option_map g (slice_get us i)
  there_at [] [] i e = refl
  there_at [] (u ∷ us) i e = absurd (cc)
  there_at (x ∷ xs) [] i e = absurd (cc)
  there_at (x ∷ xs) (u ∷ us) zero e = head_is x xs u us e
  there_at (x ∷ xs) (u ∷ us) (suc i) e = there_at xs us i (tail_is x xs u us e)

pub units_are : (strings : Strings) (section : List ℕ) (us : List kept.Unit) → AreUnits strings (walked 5 section) us
    → line_units strings section ≡ map (told_unit strings) us
units_are strings section us a = all_there (unit_in strings) (told_unit strings) (walked 5 section) us a.are

pub no_line_fault : (s : LineSections) (us : List kept.Unit) → AreUnits s.strings (walked 5 s.line) us → line_fault s ≡ None
no_line_fault s us a = ap (option_map (λ (w : Walked). w.place))
    (none_fails (unit_in s.strings) (told_unit s.strings) (walked 5 s.line) us a.are)

pub line_free : (s : LineSections) → line_version s ≡ None → line_fault s ≡ None → IsFree (HasLineFault s)
line_free s v l kind place (inl has) = absurd (cc (v, has.1))
line_free s v l kind place (inr has) = absurd (cc (l, has.1))

-- Refusals

some_same : (n m : ℕ) (o : Option ℕ) → o ≡ Some n → o ≡ Some m → n ≤ m
some_same n m o e f = let same : n ≡ m = cc in omega arith

not_both : (n : ℕ) (o : Option ℕ) → o ≡ None → o ≡ Some n → ⊥
not_both n o e f = cc

version_first : (kind : FaultKind) → number_of kind < 22 → kind ≡ DwarfVersion → ⊥
version_first kind h e = let less : number_of DwarfVersion < 22 = subst (λ (k : FaultKind). number_of k < 22) e h in omega arith

line_apart : (kind : FaultKind) → number_of kind ≤ 25 → kind ≡ LineFault → ⊥
line_apart kind h e = let less : number_of LineFault ≤ 25 = subst (λ (k : FaultKind). number_of k ≤ 25) e h in omega arith

line_first : (kind : FaultKind) → number_of kind < 26 → kind ≡ LineFault → ⊥
line_first kind h e = line_apart kind (omega arith) e

pub version_refusal : (s : LineSections) (place : ℕ) → line_version s ≡ Some place →
    IsAnswered (HasLineFault s) (fault_at DwarfVersion place)
version_refusal s place e = record {
  present = inl (refl, e);
  first = λ kind h q has. elim has [
    | inl v ↦ version_first kind h v.0
    | inr l ↦ line_apart kind (omega arith) l.0
  ];
  lowest = λ kind q same has. elim has [
    | inl v ↦ some_same place q (line_version s) e v.1
    | inr l ↦ absurd (line_apart kind (omega arith) l.0)
  ];
  alone = refl;
}

pub line_refusal : (s : LineSections) (place : ℕ) → line_version s ≡ None → line_fault s ≡ Some place →
    IsAnswered (HasLineFault s) (fault_at LineFault place)
line_refusal s place v e = record {
  present = inr (refl, e);
  first = λ kind h q has. elim has [
    | inl w ↦ not_both q (line_version s) v w.1
    | inr l ↦ line_first kind h l.0
  ];
  lowest = λ kind q same has. elim has [
    | inl w ↦ absurd (not_both q (line_version s) v w.1)
    | inr l ↦ some_same place q (line_fault s) e l.1
  ];
  alone = refl;
}

pub refusal_is : (s : LineSections) (r : Refusal) → line_version s ≡ None → IsLineFault s.strings (walked 5 s.line) r →
    IsRefusalBy (HasLineFault s) r
refusal_is s (refusal.Fault fault) v e = subst (IsAnswered (HasLineFault s)) (sym e.0) (line_refusal s fault.place v e.1)
refusal_is s refusal.Memory v e = tt

-- One more unit

pub units_more : (strings : Strings) (ws : List Walked) (us new : List kept.Unit) (u : kept.Unit) (i : ℕ) (d : Walked) → i < length ws →
    AreUnits strings (take i ws) us
    → unit_in strings (get_or ws i d) ≡ Some (told_unit strings u) → HasTables strings u.header →
    kept_size u ≤ walked_size (get_or ws i d) → new ≡ us ++ u ∷ [] → AreUnits strings (take (i + 1) ws) new
units_more strings ws us new u i d h a e t s n =
    subst (AreUnits strings (take (i + 1) ws)) (sym n) (record {
      are =
          ap (map (unit_in strings)) (take_more ws i d h)
          ∙ map-append (unit_in strings) (take i ws) (get_or ws i d ∷ [])
          ∙ ap (λ (l : List (Option LineUnit)). l ++ unit_in strings (get_or ws i d) ∷ []) a.are
          ∙ ap (λ (o : Option LineUnit). map (λ u. Some (told_unit strings u)) us ++ o ∷ []) e
          ∙ sym (map-append (λ (u : kept.Unit). Some (told_unit strings u)) us (u ∷ []));
      tables = All-push (λ (u : kept.Unit). HasTables strings u.header) us u a.tables t;
      sizes =
          let sum : sum_by kept_size us ≤ sum_by walked_size (take i ws) = a.sizes in
          omega (arith, s, sum, sum_by_push kept_size us u, sum_by_more walked_size ws i d h);
    })

pub units_all : (strings : Strings) (ws : List Walked) (us : List kept.Unit) (i : ℕ) → length ws ≤ i → AreUnits strings (take i ws) us →
    AreUnits strings ws us
units_all strings ws us i h a = subst (λ (l : List Walked). AreUnits strings l us) (all) a
  where
    all : take i ws ≡ ws
    all = grind (arith, common_steps)

pub units_fail : (strings : Strings) (ws : List Walked) (us : List kept.Unit) (i : ℕ) (d : Walked) → i < length ws →
    AreUnits strings (take i ws) us
    → unit_in strings (get_or ws i d) ≡ None → IsLineFault strings ws (refusal.Fault (fault_at LineFault (get_or ws i d).place))
units_fail strings ws us i d h a e =
    (refl, ap (option_map (λ (w : Walked). w.place)) (first_fails (unit_in strings) (told_unit strings) i ws us d a.are h e))

-- The answers of a section without a fault are those of its units.
pub says_all : (s : LineSections) (us : List kept.Unit) → line_version s ≡ None → AreUnits s.strings (walked 5 s.line) us
    → (unless_any (line_version s ∷ line_fault s ∷ []) (line_at s) ≡ Some (line_at s)) × IsFree (HasLineFault s)
says_all s us v a =
    let f : line_fault s ≡ None = no_line_fault s us a in
    (rw (v, f) refl, line_free s v f)

pub units_nothing : (strings : Strings) (us : List kept.Unit) → us ≡ [] → AreUnits strings [] us
units_nothing strings us e = subst (AreUnits strings []) (sym e)
    (record { are = refl; tables = All-nil (λ (u : kept.Unit). HasTables strings u.header); sizes = omega arith })

-- The fault of a unit that was looked at.
pub units_fault : (strings : Strings) (ws : List Walked) (us : List kept.Unit) (i : ℕ) (w : Walked) (trouble : Trouble) (fault : Fault) →
    i < length ws
    → AreUnits strings (take i ws) us → w ≡ get_or ws i w → trouble ≡ Malformed → Tells trouble (unit_in strings w ≡ None) →
    fault ≡ fault_at LineFault w.place
    → (fault ≡ fault_at LineFault fault.place) × (first_place (λ w. not (is_some (unit_in strings w))) ws ≡ Some fault.place)
units_fault strings ws us i w trouble fault h are at is told e =
    let none : unit_in strings w ≡ None = subst (λ (t : Trouble). Tells t (unit_in strings w ≡ None)) is told in
    let place : fault.place ≡ w.place = ap (λ (f : Fault). f.place) e in
    let first = units_fail strings ws us i w h are (ap (unit_in strings) (sym at) ∙ none) in
    (e ∙ ap (fault_at LineFault) (sym place), first.1 ∙ ap (λ (x : Walked). Some x.place) (sym at) ∙ ap Some (sym place))

pub units_read : {X : Type 0} (s : LineSections) (strings : Strings) (ws : List Walked) (r : Result X Refusal) (items : X → List kept.Unit)
    → strings ≡ s.strings → ws ≡ walked 5 s.line → line_version s ≡ None
    → MatchResult r (λ us. AreUnits strings ws (items us)) (λ e. IsLineFault strings ws e)
    → MatchResult r (λ us. AreUnits s.strings (walked 5 s.line) (items us) × (line_version s ≡ None)) (λ e. IsRefusalBy (HasLineFault s) e)
units_read s strings ws (Ok x) items es ew v m =
    (subst (λ (l : List Walked). AreUnits s.strings l (items x)) ew (subst (λ (t : Strings). AreUnits t ws (items x)) es m), v)
units_read s strings ws (Err e) items es ew v m =
    refusal_is s e v (subst (λ (l : List Walked). IsLineFault s.strings l e) ew (subst (λ (t : Strings). IsLineFault t ws e) es m))

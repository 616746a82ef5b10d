-- The entries of a unit that is changed in place are read back, one by one, with their changes.
use Rattle.std.proofs.Common.{◌≡◌, ◌<◌, ◌≤◌, ◌+◌, ◌-◌, ◌++◌, ℕ, zero, suc, List, [], ◌∷◌, Bool, true, false, Ok, Err, Result, refl, ap}
use Rattle.std.proofs.Common.{sym, ◌∙◌, arith, length, subst, length-append, append_assoc}
use Rattle.std.specs.Prelude.{◌==◌, if◌then◌else◌, flat_map}
use Rattle.rb_bytes.specs.declared.gap.Gap.{Gap}
use Rattle.rb_bytes.specs.Readers.{and_then}
use Rattle.rb_bytes.specs.Leb.{uleb_at}
use Rattle.table_core.specs.ReadSteps.{and_so, with_head}
use Rattle.table_core.proofs.Numbers.{same_value, same_left}
use Rattle.dw_unit.specs.declared.trouble.Trouble.{Trouble}
use Rattle.dw_unit.specs.declared.declaration.Spec.{Spec}
use Rattle.dw_unit.specs.declared.entry.Attr.{Attr}
use Rattle.dw_unit.specs.Trouble.{Read, whole}
use Rattle.dw_unit.specs.Declarations.{Declaration, Table}
use Rattle.dw_unit.specs.CompUnits.{Entry, UnitBounds, attr_at, attrs_at, entry_behind, entries_within, declaration_of, depth_behind}
use Rattle.dw_unit.specs.EntryMoves.{Moves}
use Rattle.dw_unit.specs.Changes.{Patch, patched, attr_patches, changed_attr, changed_attrs, changed_spec, changed_specs}
use Rattle.dw_unit.proofs.Forms.{uleb_forward}
use Rattle.dw_unit.proofs.Local.{Takes, uleb_local}
use Rattle.dw_unit.proofs.Patched.{From, from_less, patched-behind}
use Rattle.dw_unit.proofs.Readers.{after_attr, attrs_of_attr}
use Rattle.std.proofs.Common.{⊎_elim, inl, inr}
use Rattle.std.specs.Prelude.{◌⊎◌, Contains, None}
use Rattle.rb_bytes.proofs.Members.{Contains-nil, Contains-cons_cases}
use Rattle.dw_unit.specs.declared.attribute.TheConstants.{DW_AT_high_pc}
use Rattle.dw_unit.specs.Changes.{new_value}
use Rattle.dw_unit.proofs.SameBytes.{IsSameAt, same_behind}
use Rattle.dw_unit.proofs.Rewrites.{IsRewritten, IsChangeable, StaysOf, attr_rewritten, rewritten_then, stays_less}

module _ (m : Moves) where
  abbrev pub AreChangeable : (own first : Bool) (e : Entry) → List Spec → List Attr → Type 0
  AreChangeable own first e [] [] = Unit {0}
  AreChangeable own first e [] (a ∷ attrs) = ⊥
  AreChangeable own first e (s ∷ specs) [] = ⊥
  AreChangeable own first e (s ∷ specs) (a ∷ attrs) = IsChangeable m own first e s a × AreChangeable own first e specs attrs

none_rewritten : (P : Attr → Type 0) (end : ℕ) (left : List ℕ) → ((a : Attr) → P a → ⊥) → IsRewritten P end [] [] [] left left
none_rewritten P end left none = record {
  front = [];
  old = [];
  is = refl;
  stay = λ a p more. absurd (none a p);
  size = omega arith;
  reads = λ c more k. refl;
  starts = λ qs f. f;
  patches = λ after qs f. refl;
}

-- An attribute of these whose value isn't rewritten.
abbrev pub StaysIn : (m : Moves) (own first : Bool) (e : Entry) → List Attr → Attr → Type 0
StaysIn m own first e attrs a = Contains attrs a × (((a.name == DW_AT_high_pc) ≡ false) × (new_value m own first e a ≡ None))

-- All attributes of an entry

module _ (m : Moves) (own first : Bool) (e : Entry) (end d : ℕ) where
  abbrev pub Rewritten : List Spec → List Attr → List ℕ → List ℕ → Type 0
  Rewritten specs attrs left rest = IsRewritten (StaysIn m own first e attrs) end (flat_map (changed_spec own e.declaration) specs)
      (flat_map (changed_attr m own first e) attrs) (flat_map (attr_patches m own first e) attrs) left rest

  last_step : (s : Spec) (specs : List Spec) (a : Attr) (attrs : List Attr) (left l1 rest : List ℕ) (found : Read (List Attr)) →
      length left ≤ end → length l1 ≤ end →
      attr_at end d s left ≡ Ok (a, l1) → attrs_at end d specs l1 ≡ found → after_attr a found ≡ Ok (attrs, rest) →
      AreChangeable m own first e (s ∷ specs) attrs →
      ((got : List Attr) → attrs_at end d specs l1 ≡ Ok (got, rest) → AreChangeable m own first e specs got → Rewritten specs got l1 rest)
      →
      Rewritten (s ∷ specs) attrs left rest
  last_step s specs a attrs left l1 rest (Err t) h k read is r c ih = absurd (cc)
  last_step s specs a attrs left l1 rest (Ok got) h k read is r c ih =
      let list_is : a ∷ got.0 ≡ attrs = same_value _ _ _ _ r in
      let left_is : got.1 ≡ rest = same_left _ _ _ _ r in
      let all : AreChangeable m own first e (s ∷ specs) (a ∷ got.0) = subst (λ (l : List Attr). AreChangeable m own first e (s ∷ specs) l)
      (sym list_is) c in
      subst (λ (l : List Attr). Rewritten (s ∷ specs) l left rest) list_is
      (stays_less (λ x. StaysOf m own first e s a (a.name == DW_AT_high_pc) (new_value m own first e a) x ⊎ StaysIn m own first e got.0 x)
      (StaysIn m own first e (a ∷ got.0)) end _ _ _ left rest (stays_cases a got.0)
      (rewritten_then (StaysOf m own first e s a (a.name == DW_AT_high_pc) (new_value m own first e a)) (StaysIn m own first e got.0) end
      (changed_spec own e.declaration s) (flat_map (changed_spec own e.declaration) specs)
      (changed_attr m own first e a) (flat_map (changed_attr m own first e) got.0)
      (attr_patches m own first e a) (flat_map (attr_patches m own first e) got.0) left l1 rest h
      (attr_rewritten m own first e s a end d left l1 h read all.0)
      (ih got.0 (is ∙ ap (λ (l : List ℕ). Ok (got.0, l)) left_is) all.1))) where
        stays_cases : (a : Attr) (attrs : List Attr) (x : Attr) → StaysIn m own first e (a ∷ attrs) x →
            StaysOf m own first e s a (a.name == DW_AT_high_pc) (new_value m own first e a) x ⊎ StaysIn m own first e attrs x
        stays_cases a attrs x k = by_place (Contains-cons_cases a attrs x k.0) where
          by_place : (a ≡ x) ⊎ Contains attrs x → StaysOf m own first e s a (a.name == DW_AT_high_pc) (new_value m own first e a) x
              ⊎ StaysIn m own first e attrs x
          by_place (inl same) = inl (
            sym same,
            ap (λ (y : Attr). y.name == DW_AT_high_pc) same
                ∙ k.1.0,
            ap (λ (y : Attr). new_value m own first e y) same ∙ k.1.1,
          )
          by_place (inr there) = inr (there, k.1)

  attr_step : (s : Spec) (specs : List Spec) (attrs : List Attr) (left rest : List ℕ) (found : Read Attr) → length left ≤ end →
      attr_at end d s left ≡ found → attrs_of_attr end d specs found ≡ Ok (attrs, rest) → AreChangeable m own first e (s ∷ specs) attrs →
      ((l1 : List ℕ) (got : List Attr) → length l1 ≤ end → attrs_at end d specs l1 ≡ Ok (got, rest) →
      AreChangeable m own first e specs got → Rewritten specs got l1 rest) →
      ((l1 : List ℕ) (a : Attr) → attr_at end d s left ≡ Ok (a, l1) → length l1 ≤ length left) →
      Rewritten (s ∷ specs) attrs left rest
  attr_step s specs attrs left rest (Err t) h is r c ih less = absurd (cc)
  attr_step s specs attrs left rest (Ok read) h is r c ih less =
      let k : length read.1 ≤ length left = less read.1 read.0 is in
      let j : length read.1 ≤ end = omega arith in
      last_step s specs read.0 attrs left read.1 rest (attrs_at end d specs read.1) h j is refl r c (λ got. ih read.1 got j)

  pub attrs_rewritten : (specs : List Spec) (attrs : List Attr) (left rest : List ℕ) → length left ≤ end →
      ((s : Spec) (l1 l2 : List ℕ) (a : Attr) → attr_at end d s l1 ≡ Ok (a, l2) → length l2 ≤ length l1) →
      attrs_at end d specs left ≡ Ok (attrs, rest) → AreChangeable m own first e specs attrs → Rewritten specs attrs left rest
  attrs_rewritten [] [] left rest h less read c =
      subst (λ (l : List ℕ). IsRewritten (StaysIn m own first e []) end [] [] [] left l) (same_left _ _ _ _ read)
      (none_rewritten (StaysIn m own first e []) end left (λ a k. Contains-nil a k.0))
  attrs_rewritten [] (a ∷ attrs) left rest h less read c = absurd c
  attrs_rewritten (s ∷ specs) attrs left rest h less read c =
      attr_step s specs attrs left rest (attr_at end d s left) h refl read c
      (λ l1 got k. attrs_rewritten specs got l1 rest k less)
      (λ l1 a. less s left l1 a)

-- Entries

-- An entry before and after the change; `own` says which declarations own entries have, and `first` which entries are own ones.
pub record IsChanged (m : Moves) (own : Declaration → Bool) (first : Entry → Bool) (old new : Entry) : Type 0 where
  pub place : new.place ≡ old.place
  pub unit : new.unit ≡ old.unit
  pub depth : new.depth ≡ old.depth
  pub tag : new.declaration.tag ≡ old.declaration.tag
  pub attrs : new.attrs ≡ changed_attrs m (own old.declaration) (first old) old

-- The changed declaration of a code.
pub record IsDeclaredAs (own : Declaration → Bool) (table : Table) (code : ℕ) (d : Declaration) : Type 0 where
  pub new : Declaration
  pub is : declaration_of table code ≡ Ok new
  pub tag : new.tag ≡ d.tag
  pub children : new.children ≡ d.children
  pub specs : new.specs ≡ changed_specs (own d) d

module _ (m : Moves) (own : Declaration → Bool) (first : Entry → Bool) where
  abbrev pub AreChanged : List Entry → List Entry → Type 0
  AreChanged [] [] = Unit {0}
  AreChanged [] (n ∷ new) = ⊥
  AreChanged (o ∷ old) [] = ⊥
  AreChanged (o ∷ old) (n ∷ new) = IsChanged m own first o n × AreChanged old new

  abbrev pub patches_of : Entry → List Patch
  patches_of e = flat_map (attr_patches m (own e.declaration) (first e) e) e.attrs

  abbrev pub CanChange : Entry → Type 0
  CanChange e = AreChangeable m (own e.declaration) (first e) e e.declaration.specs e.attrs

module _ (m : Moves) (own : Declaration → Bool) (first : Entry → Bool) where
  abbrev pub CanAll : List Entry → Type 0
  CanAll [] = Unit {0}
  CanAll (e ∷ es) = CanChange m own first e × CanAll es

module _ (m : Moves) (own : Declaration → Bool) (first : Entry → Bool) (place end : ℕ) (table new_table : Table)
    (less : (d : ℕ) (s : Spec) (l1 l2 : List ℕ) (a : Attr) → attr_at end d s l1 ≡ Ok (a, l2) → length l2 ≤ length l1)
    (tables : (code : ℕ) (d : Declaration) → declaration_of table code ≡ Ok d → IsDeclaredAs own new_table code d) where
  abbrev pub old_unit : UnitBounds
  old_unit = record { place = place; end = end; table = table }

  abbrev pub new_unit : UnitBounds
  new_unit = record { place = place; end = end; table = new_table }

  pub record AreReadBack (n depth : ℕ) (old : List Entry) (left : List ℕ) : Type 0 where
    pub new : List Entry
    pub bytes : List ℕ
    pub are : (after : List ℕ) (qs : List Patch) → From end qs →
        patched (end - length left) (flat_map (patches_of m own first) old ++ qs) (left ++ after) ≡ bytes ++ patched end qs after
    pub size : length bytes ≡ length left
    pub starts : (qs : List Patch) → From end qs → From (end - length left) (flat_map (patches_of m own first) old ++ qs)
    pub reads : entries_within new_unit n depth bytes ≡ Ok new
    pub changed : AreChanged m own first old new
    pub stay : (e : Entry) (a : Attr) → Contains old e → StaysIn m (own e.declaration) (first e) e e.attrs a →
        IsSameAt (end - length left) a left bytes

  -- Reading after a code.
  read_code : (n depth code : ℕ) (front more : List ℕ) (r : Result (List Entry) Trouble) → 0 < length front →
      uleb_at (front ++ more) ≡ Ok (code, more) →
      entry_behind new_unit (entries_within new_unit n) (end - length (front ++ more)) depth code more ≡ r →
      entries_within new_unit (suc n) depth (front ++ more) ≡ r
  unfolding entries_within
  read_code n depth code [] more r h e f = absurd (omega arith)
  read_code n depth code (x ∷ front) more r h e f =
      ap (λ (q : Result (ℕ × List ℕ) Gap). and_then (whole q) (entry_behind new_unit (entries_within new_unit n)
      (end - length (x ∷ (front ++ more))) depth)) e ∙ f

  abbrev pub Readable : ℕ → Type 0
  Readable n = (depth : ℕ) (left : List ℕ) (old : List Entry) → length left ≤ end → entries_within old_unit n depth left ≡ Ok old →
      CanAll m own first old → AreReadBack n depth old left

  abbrev pub entry_of : ℕ → ℕ → Declaration → List Attr → Entry
  entry_of at depth d attrs = record { place = at; unit = place; depth = depth; declaration = d; attrs = attrs }

  abbrev pub entries_of_attrs : ℕ → ℕ → ℕ → UnitBounds → Declaration → Read (List Attr) → Result (List Entry) Trouble
  entries_of_attrs n at depth u d r = and_then r (λ attrs rest. with_head (entry_of at depth d attrs)
      (entries_within u n (depth_behind depth d) rest))

  abbrev pub entries_of_declaration : ℕ → ℕ → ℕ → UnitBounds → List ℕ → Result Declaration Trouble → Result (List Entry) Trouble
  entries_of_declaration n at depth u left r = and_so r (λ d. entries_of_attrs n at depth u d (attrs_at end d.place d.specs left))

  abbrev or_none : Result (List Entry) Trouble → List Entry
  or_none (Ok es) = es
  or_none (Err t) = []

  -- One entry, and those after it.
  entry_done : (n depth code : ℕ) (left l1 l2 : List ℕ) (d : Declaration) (attrs : List Attr) (es : List Entry) → length left ≤ end →
      Takes uleb_at code left l1 → length l1 < length left → (code == 0) ≡ false → declaration_of table code ≡ Ok d →
      attrs_at end d.place d.specs l1 ≡ Ok (attrs, l2) → length l2 ≤ length l1 →
      CanChange m own first (entry_of (end - length left) depth d attrs) → AreReadBack n (depth_behind depth d) es l2 →
      AreReadBack (suc n) depth (entry_of (end - length left) depth d attrs ∷ es) left
  entry_done n depth code left l1 l2 d attrs es h f shorter coded declared_is read fewer can r =
      let old : Entry = entry_of (end - length left) depth d attrs in
      let w : Rewritten m (own d) (first old) old end d.place d.specs attrs l1 l2 =
      attrs_rewritten m (own d) (first old) old end d.place d.specs attrs l1 l2 (omega arith) (less d.place) read can in
      let t : IsDeclaredAs own new_table code d = tables code d declared_is in
      let mine : List Patch = patches_of m own first old in
      let ps : List Patch = flat_map (patches_of m own first) es in
      let new_attrs : List Attr = changed_attrs m (own d) (first old) old in
      let more : List ℕ = w.front ++ r.bytes in
      let size_is : length left ≡ length f.front + length l1 = ap length f.is ∙ length-append f.front l1 in
      let more_is : length more ≡ length l1 = let g = length-append w.front r.bytes in omega (arith, w.size, r.size) in
      let bytes_is : length (f.front ++ more) ≡ length f.front + length more = length-append f.front more in
      let long : length (f.front ++ more) ≡ length left = omega arith in
      record {
        new = entry_of (end - length left) depth t.new new_attrs ∷ r.new;
        bytes = f.front ++ more;
        are = λ after qs g.
            ap (λ (l : List Patch). patched (end - length left) l (left ++ after)) (append_assoc mine ps qs)
            ∙ ap (patched (end - length left) (mine ++ (ps ++ qs))) (ap (λ (l : List ℕ). l ++ after) f.is ∙ append_assoc f.front l1 after)
            ∙ patched-behind (end - length left) (end - length l1) f.front (l1 ++ after) (mine ++ (ps ++ qs)) (omega arith)
            (w.starts (ps ++ qs) (r.starts qs g))
            ∙ ap (λ (l : List ℕ). f.front ++ l) (w.patches after (ps ++ qs) (r.starts qs g)
            ∙ ap (λ (l : List ℕ). w.front ++ l) (r.are after qs g)
            ∙ sym (append_assoc w.front r.bytes (patched end qs after)))
            ∙ sym (append_assoc f.front more (patched end qs after));
        size = long;
        starts = λ qs g. subst (λ (l : List Patch). From (end - length left) l) (sym (append_assoc mine ps qs))
            (from_less (end - length l1) (end - length left) (mine ++ (ps ++ qs)) (omega arith) (w.starts (ps ++ qs) (r.starts qs g)));
        reads =
            read_code n depth code f.front more (Ok (entry_of (end - length left) depth t.new new_attrs ∷ r.new)) (omega arith)
            (f.takes more more_is)
            (ap (λ (b : Bool). if b then entries_within new_unit n (depth - 1) more
            else entries_of_declaration n (end - length (f.front ++ more)) depth new_unit more (declaration_of new_table code)) coded
            ∙ ap (entries_of_declaration n (end - length (f.front ++ more)) depth new_unit more) t.is
            ∙ ap (λ (ss : List Spec). entries_of_attrs n (end - length (f.front ++ more)) depth new_unit t.new
            (attrs_at end t.new.place ss more)) t.specs
            ∙ ap (entries_of_attrs n (end - length (f.front ++ more)) depth new_unit t.new) (w.reads t.new.place r.bytes r.size)
            ∙ ap (λ (b : Bool). with_head (entry_of (end - length (f.front ++ more)) depth t.new new_attrs)
            (entries_within new_unit n (if b then depth + 1 else depth) r.bytes)) t.children
            ∙ ap (with_head (entry_of (end - length (f.front ++ more)) depth t.new new_attrs)) r.reads
            ∙ ap (λ (k : ℕ). Ok (entry_of (end - k) depth t.new new_attrs ∷ r.new)) long);
        changed = (record { place = refl; unit = refl; depth = refl; tag = t.tag; attrs = refl }, r.changed);
        stay = λ e a there k.
            let l1_is : length l1 ≡ length w.old + length l2 = ap length w.is ∙ length-append w.old l2 in
            let same : length w.front ≡ length w.old = let g = w.size in omega arith in
            let to : end - length l1 ≡ end - length left + length f.front = omega arith in
            let to2 : end - length l2 ≡ end - length l1 + length w.old = omega arith in
            subst (λ (l : List ℕ). IsSameAt (end - length left) a l (f.front ++ more)) (sym f.is)
            (same_behind (end - length left) (end - length l1) a f.front f.front l1 more to refl
            (⊎_elim
            (λ (here : old ≡ e). w.stay a (subst (λ (x : Entry). StaysIn m (own x.declaration) (first x) x x.attrs a) (sym here) k)
            r.bytes)
            (λ (behind : Contains es e). subst (λ (l : List ℕ). IsSameAt (end - length l1) a l more) (sym w.is)
            (same_behind (end - length l1) (end - length l2) a w.old w.front l2 r.bytes to2 same (r.stay e a behind k)))
            (Contains-cons_cases old es e there)));
      }

  entries_step : (n depth code : ℕ) (left l1 l2 : List ℕ) (d : Declaration) (attrs : List Attr) (old : List Entry)
      (found : Result (List Entry) Trouble) → length left ≤ end →
      Takes uleb_at code left l1 → length l1 < length left → (code == 0) ≡ false → declaration_of table code ≡ Ok d →
      attrs_at end d.place d.specs l1 ≡ Ok (attrs, l2) → length l2 ≤ length l1 → Readable n →
      entries_within old_unit n (depth_behind depth d) l2 ≡ found →
      with_head (entry_of (end - length left) depth d attrs) found ≡ Ok old →
      CanAll m own first old → AreReadBack (suc n) depth old left
  entries_step n depth code left l1 l2 d attrs old (Err t) h f shorter coded declared_is read fewer ih is e c = absurd (cc)
  entries_step n depth code left l1 l2 d attrs old (Ok es) h f shorter coded declared_is read fewer ih is e c =
      let list_is : entry_of (end - length left) depth d attrs ∷ es ≡ old = ap or_none e in
      let all : CanAll m own first (entry_of (end - length left) depth d attrs ∷ es) =
      subst (λ (l : List Entry). CanAll m own first l) (sym list_is) c in
      subst (λ (l : List Entry). AreReadBack (suc n) depth l left) list_is
      (entry_done n depth code left l1 l2 d attrs es h f shorter coded declared_is read fewer all.0
      (ih (depth_behind depth d) l2 es (omega arith) is all.1))

  attrs_step : (n depth code : ℕ) (left l1 : List ℕ) (d : Declaration) (old : List Entry) (found : Read (List Attr)) → length left ≤ end →
      Takes uleb_at code left l1 → length l1 < length left → (code == 0) ≡ false → declaration_of table code ≡ Ok d → Readable n →
      ((attrs : List Attr) (l2 : List ℕ) → attrs_at end d.place d.specs l1 ≡ Ok (attrs, l2) → length l2 ≤ length l1) →
      attrs_at end d.place d.specs l1 ≡ found → entries_of_attrs n (end - length left) depth old_unit d found ≡ Ok old →
      CanAll m own first old → AreReadBack (suc n) depth old left
  attrs_step n depth code left l1 d old (Err t) h f shorter coded declared_is ih fewer is e c = absurd (cc)
  attrs_step n depth code left l1 d old (Ok got) h f shorter coded declared_is ih fewer is e c =
      entries_step n depth code left l1 got.1 d got.0 old (entries_within old_unit n (depth_behind depth d) got.1) h f shorter coded
      declared_is
      is (fewer got.0 got.1 is) ih refl e c

  declaration_step : (n depth code : ℕ) (left l1 : List ℕ) (old : List Entry) (found : Result Declaration Trouble) → length left ≤ end →
      Takes uleb_at code left l1 → length l1 < length left → (code == 0) ≡ false → Readable n →
      ((d : Declaration) (attrs : List Attr) (l2 : List ℕ) → attrs_at end d.place d.specs l1 ≡ Ok (attrs, l2) → length l2 ≤ length l1) →
      declaration_of table code ≡ found → entries_of_declaration n (end - length left) depth old_unit l1 found ≡ Ok old →
      CanAll m own first old → AreReadBack (suc n) depth old left
  declaration_step n depth code left l1 old (Err t) h f shorter coded ih fewer is e c = absurd (cc)
  declaration_step n depth code left l1 old (Ok d) h f shorter coded ih fewer is e c =
      attrs_step n depth code left l1 d old (attrs_at end d.place d.specs l1) h f shorter coded is ih (fewer d) refl e c

  -- The end of the children of an entry.
  end_done : (n depth code : ℕ) (left l1 : List ℕ) (old : List Entry) → length left ≤ end → Takes uleb_at code left l1 →
      length l1 < length left →
      (code == 0) ≡ true → AreReadBack n (depth - 1) old l1 → AreReadBack (suc n) depth old left
  end_done n depth code left l1 old h f shorter coded r =
      let ps : List Patch = flat_map (patches_of m own first) old in
      let size_is : length left ≡ length f.front + length l1 = ap length f.is ∙ length-append f.front l1 in
      let bytes_is : length (f.front ++ r.bytes) ≡ length f.front + length r.bytes = length-append f.front r.bytes in
      record {
        new = r.new;
        bytes = f.front ++ r.bytes;
        are = λ after qs g.
            ap (patched (end - length left) (ps ++ qs)) (ap (λ (l : List ℕ). l ++ after) f.is ∙ append_assoc f.front l1 after)
            ∙ patched-behind (end - length left) (end - length l1) f.front (l1 ++ after) (ps ++ qs) (omega arith) (r.starts qs g)
            ∙ ap (λ (l : List ℕ). f.front ++ l) (r.are after qs g)
            ∙ sym (append_assoc f.front r.bytes (patched end qs after));
        size = omega (arith, r.size);
        starts = λ qs g. from_less (end - length l1) (end - length left) (ps ++ qs) (omega arith) (r.starts qs g);
        reads = read_code n depth code f.front r.bytes (Ok r.new) (omega arith) (f.takes r.bytes r.size)
            (ap (λ (b : Bool). if b then entries_within new_unit n (depth - 1) r.bytes
            else entries_of_declaration n (end - length (f.front ++ r.bytes)) depth new_unit r.bytes (declaration_of new_table code))
            coded
            ∙ r.reads);
        changed = r.changed;
        stay = λ e a there k. subst (λ (l : List ℕ). IsSameAt (end - length left) a l (f.front ++ r.bytes)) (sym f.is)
            (same_behind (end - length left) (end - length l1) a f.front f.front l1 r.bytes (omega arith) refl (r.stay e a there k));
      }

  behind_code : (n depth code : ℕ) (left l1 : List ℕ) (old : List Entry) (b : Bool) → length left ≤ end → Takes uleb_at code left l1 →
      length l1 < length left → Readable n →
      ((d : Declaration) (attrs : List Attr) (l2 : List ℕ) → attrs_at end d.place d.specs l1 ≡ Ok (attrs, l2) → length l2 ≤ length l1) →
      (code == 0) ≡ b → (if b then entries_within old_unit n (depth - 1) l1
      else entries_of_declaration n (end - length left) depth old_unit l1 (declaration_of table code)) ≡ Ok old →
      CanAll m own first old → AreReadBack (suc n) depth old left
  behind_code n depth code left l1 old true h f shorter ih fewer coded e c =
      end_done n depth code left l1 old h f shorter coded (ih (depth - 1) l1 old (omega arith) e c)
  behind_code n depth code left l1 old false h f shorter ih fewer coded e c =
      declaration_step n depth code left l1 old (declaration_of table code) h f shorter coded ih fewer refl e c

  code_step : (n depth : ℕ) (left : List ℕ) (old : List Entry) (found : Result (ℕ × List ℕ) Gap) → length left ≤ end → Readable n →
      ((d : Declaration) (attrs : List Attr) (l1 l2 : List ℕ) → attrs_at end d.place d.specs l1 ≡ Ok (attrs, l2) →
      length l2 ≤ length l1) →
      uleb_at left ≡ found → and_then (whole found) (entry_behind old_unit (entries_within old_unit n) (end - length left) depth) ≡ Ok old
      →
      CanAll m own first old → AreReadBack (suc n) depth old left
  code_step n depth left old (Err gap) h ih fewer is e c = absurd (cc)
  code_step n depth left old (Ok read) h ih fewer is e c =
      behind_code n depth read.0 left read.1 old (read.0 == 0) h (uleb_local read.0 left read.1 is) (uleb_forward left read.1 read.0 is)
      ih
      (λ d attrs l2. fewer d attrs read.1 l2) refl e c

  none_left : (n depth : ℕ) (old : List Entry) → entries_within new_unit n depth [] ≡ Ok [] →
      ◌≡◌ {A = Result (List Entry) Trouble} (Ok []) (Ok old) → AreReadBack n depth old []
  none_left n depth [] reads e =
      let same : end - 0 ≡ end = omega arith in
      record {
        new = [];
        bytes = [];
        are = λ after qs g. ap (λ (k : ℕ). patched k qs after) same;
        size = refl;
        starts = λ qs g. from_less end (end - 0) qs (omega arith) g;
        reads = reads;
        changed = tt;
        stay = λ e a there k. absurd (Contains-nil e there);
      }
  none_left n depth (o ∷ old) reads e = absurd (cc)

  -- All entries in the bytes left are read back with their changes.
  pub entries_rewritten : ((d : Declaration) (attrs : List Attr) (l1 l2 : List ℕ) → attrs_at end d.place d.specs l1 ≡ Ok (attrs, l2) →
      length l2 ≤ length l1) →
      (n : ℕ) → Readable n
  unfolding entries_within
  entries_rewritten fewer zero depth [] old h e c = none_left zero depth old refl e
  entries_rewritten fewer zero depth (b ∷ left) old h e c = absurd (cc)
  entries_rewritten fewer (suc n) depth [] old h e c = none_left (suc n) depth old refl e
  entries_rewritten fewer (suc n) depth (b ∷ left) old h e c =
      code_step n depth (b ∷ left) old (uleb_at (b ∷ left)) h (entries_rewritten fewer n) fewer refl e c

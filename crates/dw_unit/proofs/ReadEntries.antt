-- Entries that were read: the bytes of each, and its declaration.
use Rattle.std.proofs.Common.{◌≡◌, ◌-◌, ℕ, zero, suc, List, [], ◌∷◌, Bool, true, false, Ok, Err, Result, refl, ap, subst, length}
use Rattle.std.specs.Prelude.{◌==◌, if◌then◌else◌}
use Rattle.rb_bytes.specs.declared.gap.Gap.{Gap}
use Rattle.rb_bytes.specs.Leb.{uleb_at}
use Rattle.table_core.specs.ReadSteps.{with_head}
use Rattle.dw_unit.specs.declared.trouble.Trouble.{Trouble}
use Rattle.dw_unit.specs.declared.entry.Attr.{Attr}
use Rattle.dw_unit.specs.Trouble.{Read, whole}
use Rattle.dw_unit.specs.Declarations.{Declaration}
use Rattle.dw_unit.specs.CompUnits.{Entry, UnitBounds, attrs_at, entries_within, declaration_of, depth_behind}
use Rattle.dw_unit.specs.Walking.{walked_entry}
use Rattle.dw_unit.proofs.Entries.{More, behind_attrs, behind_declaration, behind_code}

pub record IsReadEntry (u : UnitBounds) (e : Entry) : Type 0 where
  pub code : ℕ
  pub declared : declaration_of u.table code ≡ Ok e.declaration
  pub left : List ℕ
  pub rest : List ℕ
  pub attrs : attrs_at u.end e.declaration.place e.declaration.specs left ≡ Ok (e.attrs, rest)

abbrev pub AreReadEntries : UnitBounds → List Entry → Type 0
AreReadEntries u [] = Unit {0}
AreReadEntries u (e ∷ es) = IsReadEntry u e × AreReadEntries u es

abbrev or_nil : Result (List Entry) Trouble → List Entry
or_nil (Ok es) = es
or_nil (Err t) = []

module _ (u : UnitBounds) (more : More) (place depth : ℕ)
    (ih : (depth : ℕ) (rest : List ℕ) (es : List Entry) → more depth rest ≡ Ok es → AreReadEntries u es) where
  by_head : (e : Entry) (found : Result (List Entry) Trouble) (es : List Entry) →
      ((got : List Entry) → found ≡ Ok got → AreReadEntries u got) →
      IsReadEntry u e → with_head e found ≡ Ok es → AreReadEntries u es
  by_head e (Err t) es f i x = absurd (cc)
  by_head e (Ok got) es f i x = subst (λ (l : List Entry). AreReadEntries u l) (ap or_nil x) (i, f got refl)

  by_attrs : (d : Declaration) (code : ℕ) (left : List ℕ) (found : Read (List Attr)) (es : List Entry) →
      declaration_of u.table code ≡ Ok d →
      attrs_at u.end d.place d.specs left ≡ found → behind_attrs u more place depth d found ≡ Ok es → AreReadEntries u es
  by_attrs d code left (Err t) es declared is e = absurd (cc)
  by_attrs d code left (Ok got) es declared is e =
      by_head (walked_entry u place depth d got.0) (more (depth_behind depth d) got.1) es (λ es2 f. ih (depth_behind depth d) got.1 es2 f)
      (record { code = code; declared = declared; left = left; rest = got.1; attrs = is }) e

  by_declaration : (code : ℕ) (left : List ℕ) (found : Result Declaration Trouble) (es : List Entry) →
      declaration_of u.table code ≡ found →
      behind_declaration u more place depth left found ≡ Ok es → AreReadEntries u es
  by_declaration code left (Err t) es is e = absurd (cc)
  by_declaration code left (Ok d) es is e = by_attrs d code left (attrs_at u.end d.place d.specs left) es is refl e

  by_entry : (b : Bool) (code : ℕ) (left : List ℕ) (es : List Entry) →
      ◌≡◌ {A = Result (List Entry) Trouble} (if b then more (depth - 1) left else behind_declaration u more place depth left
      (declaration_of u.table code)) (Ok es) →
      AreReadEntries u es
  by_entry true code left es e = ih (depth - 1) left es e
  by_entry false code left es e = by_declaration code left (declaration_of u.table code) es refl e

  by_code : (found : Result (ℕ × List ℕ) Gap) (es : List Entry) → behind_code u more place depth (whole found) ≡ Ok es →
      AreReadEntries u es
  by_code (Err gap) es e = absurd (cc)
  by_code (Ok read) es e = by_entry (read.0 == 0) read.0 read.1 es e

pub read_entries : (u : UnitBounds) (n depth : ℕ) (left : List ℕ) (es : List Entry) → entries_within u n depth left ≡ Ok es →
    AreReadEntries u es
unfolding entries_within
read_entries u zero depth [] es e = subst (λ (l : List Entry). AreReadEntries u l) (ap or_nil e) tt
read_entries u zero depth (b ∷ left) es e = absurd (cc)
read_entries u (suc n) depth [] es e = subst (λ (l : List Entry). AreReadEntries u l) (ap or_nil e) tt
read_entries u (suc n) depth (b ∷ left) es e =
    by_code u (entries_within u n) (u.end - length (b ∷ left)) depth (λ depth rest es e. read_entries u n depth rest es e)
    (uleb_at (b ∷ left)) es e

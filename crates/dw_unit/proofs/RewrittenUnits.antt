-- A unit over its changed table of abbreviations.
use Rattle.std.proofs.Common.{◌≡◌, ◌≤◌, ◌+◌, ◌-◌, ◌++◌, ℕ, List, ◌∷◌, Bool, true, false, Option, Some, None, Ok, Err, Result, refl, ap}
use Rattle.std.proofs.Common.{◌∙◌, arith, subst, length, length-append}
use Rattle.std.proofs.lemmas.List.{drop_at}
use Rattle.table_core.specs.ReadSteps.{and_so}
use Rattle.dw_unit.specs.declared.trouble.Trouble.{Trouble}
use Rattle.dw_unit.specs.Trouble.{sound_if, when}
use Rattle.dw_unit.specs.Declarations.{Declaration, Table, table_within, table_at, declared, has_spec}
use Rattle.dw_unit.specs.CompUnits.{Entry, entries_within, declaration_of, are_named_once}
use Rattle.dw_unit.specs.EntryMoves.{Moves}
use Rattle.dw_unit.specs.Changes.{changed_specs}
use Rattle.dw_unit.proofs.Once.{names_stay_single}
use Rattle.dw_unit.proofs.Readers.{table_enough, attr_less}
use Rattle.dw_unit.proofs.Entries.{attrs_less}
use Rattle.dw_unit.proofs.RewrittenEntries.{IsDeclaredAs, CanAll, AreReadBack, entries_rewritten}
use Rattle.dw_unit.proofs.Spelled.{bytes_of_table, CanSpellAll, IsTableRead, table_read, IsFound, found}

-- The table that is spelled between other bytes.
pub spelled_at : (own : Declaration → Bool) (ds : List Declaration) (before rest : List ℕ) (end : ℕ) (list : List Declaration) →
    table_within (length (bytes_of_table own ds ++ (0 ∷ rest))) (length (before ++ (bytes_of_table own ds ++ (0 ∷ rest))))
    (bytes_of_table own ds ++ (0 ∷ rest))
    ≡ record { list = list; end = Some end } →
    table_at (before ++ (bytes_of_table own ds ++ (0 ∷ rest))) (length before) ≡ record { list = list; end = Some end }
spelled_at own ds before rest end list e =
    let here : List ℕ = bytes_of_table own ds ++ (0 ∷ rest) in
    let size : ℕ = length (before ++ here) in
    let size_is : length (before ++ here) ≡ length before + length here = length-append before here in
    ap (λ (l : List ℕ). table_within size size l) (drop_at before here (length before) refl)
    ∙ table_enough size (length here) size here (omega arith) (omega arith) ∙ e

-- A declaration has no high address beside ranges, which would be a fault.
abbrev pub AreApart : Table → Type 0
AreApart table = (code : ℕ) (d : Declaration) → declared table code ≡ Some d → has_spec 18 d ≡ true → has_spec 85 d ≡ false

module _ (own : Declaration → Bool) where
  or_declaration : Declaration → Result Declaration Trouble → Declaration
  or_declaration d (Ok x) = x
  or_declaration d (Err t) = d

  named : (b : Bool) (x d : Declaration) → when b x ≡ Ok d → (b ≡ true) × (x ≡ d)
  unfolding or_declaration
  named true x d e = (refl, ap (λ (r : Result Declaration Trouble). or_declaration x r) e)
  named false x d e = absurd (cc)

  declared_as : (code : ℕ) (d x : Declaration) (old new : List Declaration) (end : Option ℕ) (table : Table) →
      table ≡ record { list = new; end = end } →
      IsFound own x new code → are_named_once (changed_specs (own x) x) ≡ true → x ≡ d → IsDeclaredAs own table code d
  declared_as code d x old new end table is f once same =
      let specs_once : are_named_once f.d.specs ≡ true = ap are_named_once f.changed.specs ∙ once in
      subst (λ (d : Declaration). IsDeclaredAs own table code d) same (record {
        new = f.d;
        is =
            ap (λ (t : Table). declaration_of t code) is
            ∙ ap (λ (o : Option Declaration). and_so (sound_if o) (λ d. when (are_named_once d.specs) d)) f.is
            ∙ ap (λ (b : Bool). when b f.d) specs_once;
        tag = f.changed.tag;
        children = f.changed.children;
        specs = f.changed.specs;
      })

  by_found : (code : ℕ) (d : Declaration) (table new_table : Table) (new : List Declaration) (end : Option ℕ) (o : Option Declaration) →
      declared table code ≡ o →
      and_so (sound_if o) (λ d. when (are_named_once d.specs) d) ≡ Ok d → new_table ≡ record { list = new; end = end } →
      ((x : Declaration) → declared table code ≡ Some x → IsFound own x new code) → AreApart table → IsDeclaredAs own new_table code d
  by_found code d table new_table new end None is e t f apart = absurd (cc)
  by_found code d table new_table new end (Some x) is e t f apart =
      let p = named (are_named_once x.specs) x d e in
      declared_as code d x table.list new end new_table t (f x is) (names_stay_single (own x) x (apart code x is) p.0) p.1

  -- Each code means the changed declaration of its old one.
  pub tables_read : (table : Table) (before rest : List ℕ) → CanSpellAll own table.list → AreApart table → (code : ℕ) (d : Declaration) →
      declaration_of table code ≡ Ok d →
      IsDeclaredAs own (table_at (before ++ (bytes_of_table own table.list ++ (0 ∷ rest))) (length before)) code d
  tables_read table before rest can apart code d e =
      let section : List ℕ = before ++ (bytes_of_table own table.list ++ (0 ∷ rest)) in
      let r : IsTableRead own (length section) table.list (bytes_of_table own table.list ++ (0 ∷ rest)) rest = table_read own
      (length section) table.list rest can in
      by_found code d table (table_at section (length before)) r.new (Some (length section - length rest)) (declared table code) refl e
      (spelled_at own table.list before rest (length section - length rest) r.new r.is)
      (λ x h. found own code x table.list r.new r.changed h) apart

-- The entries of a unit that is changed in place are read back with the changed table, one by one, with exactly their changes.
module _ (m : Moves) (own : Declaration → Bool) (first : Entry → Bool)
    (place end : ℕ) (table : Table) (before rest : List ℕ) (can : CanSpellAll own table.list) (apart : AreApart table) where
  abbrev pub new_table : Table
  new_table = table_at (before ++ (bytes_of_table own table.list ++ (0 ∷ rest))) (length before)

  pub unit_read_back : (left : List ℕ) (old : List Entry) → length left ≤ end →
      entries_within (record { place = place; end = end; table = table }) (length left) 0 left ≡ Ok old → CanAll m own first old →
      AreReadBack m own first place end table new_table (λ d s l1 l2 a. attr_less end d s l1 l2 a)
      (tables_read own table before rest can apart) (length left) 0 old left
  unit_read_back left old h e c =
      entries_rewritten m own first place end table new_table (λ d s l1 l2 a. attr_less end d s l1 l2 a)
      (tables_read own table before rest can apart)
      (λ d attrs l1 l2. attrs_less end d.place d.specs l1 l2 attrs) (length left) 0 left old h e c

-- The ranges of entries as they are answered.
use Rattle.std.proofs.Common.{◌≡◌, ℕ, Bool, true, false, List, [], ◌∷◌, refl, ap, map}
use Rattle.std.specs.Prelude.{filter, nat_lt}
use Rattle.cfi_rows.specs.declared.frame_table.Fde.{Fde as ReadFde}
use Rattle.cfi_rows.specs.Entries.{Fde}
use Rattle.cfi_rows.specs.ReadEntries.{fde_of}

abbrev pub read_ranges : List ReadFde → List (ℕ × ℕ)
read_ranges fs = map (λ (f : ReadFde). (f.start, f.end)) (filter (λ (f : ReadFde). nat_lt 0 f.table) fs)

abbrev pub ranges : List Fde → List (ℕ × ℕ)
ranges fs = map (λ (f : Fde). (f.start, f.end)) (filter (λ (f : Fde). nat_lt 0 f.table) fs)

one-more : (b : Bool) (f : Fde) (fs : List Fde) → nat_lt 0 f.table ≡ b → read_ranges (map fde_of fs) ≡ ranges fs →
    read_ranges (map fde_of (f ∷ fs)) ≡ ranges (f ∷ fs)
one-more true f fs e h = rw e (ap (λ (rs : List (ℕ × ℕ)). (f.start, f.end) ∷ rs) h)
one-more false f fs e h = rw e h

pub same-ranges : (fs : List Fde) → read_ranges (map fde_of fs) ≡ ranges fs
same-ranges [] = refl
same-ranges (f ∷ fs) = one-more (nat_lt 0 f.table) f fs refl (same-ranges fs)

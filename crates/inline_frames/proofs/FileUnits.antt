-- The units of a file, one after another.
use Rattle.std.proofs.Common.{◌≡◌, ◌∙◌, ◌<◌, ◌≤◌, ◌+◌, ℕ, Bool, true, false, List, [], ◌∷◌, Option, Some, None, Ok, Err, Result, refl, sym}
use Rattle.std.proofs.Common.{ap, subst, drop, get_or, length, map}
use Rattle.std.specs.Prelude.{MatchOption, if◌then◌else◌, slice_get}
use Rattle.std.specs.BTreeSet.{BTreeSet, contains}
use Rattle.std.specs.Global.{Vec}
use Rattle.std.specs.Option.{option_or}
use Rattle.std.specs.Ordering.{nat_cmp}
use Rattle.std.proofs.lemmas.List.{drop_all, drop_more, get_or_default}
use Rattle.std.proofs.lemmas.Option.{slice_get-get_or}
use Rattle.table_core.specs.DebugUnits.{Walked}
use Rattle.table_core.specs.ReadSteps.{oks}
use Rattle.dw_unit.specs.CompUnits.{Unit, unit_of}
use Rattle.dw_unit.specs.Faults.{fails, is_sound_unit}
use Rattle.dw_unit.specs.ListedEntries.{ListedEntry, listed}
use Rattle.dw_unit.specs.ListedUnits.{listed_unit}
use Rattle.dw_unit.specs.UnitReadings.{IsReading}
use Rattle.dw_unit.specs.declared.trouble.Trouble.{Trouble}
use Rattle.dw_unit.specs.declared.unit_reading.UnitReading.{UnitReading}
use Rattle.inline_frames.specs.FileChains.{AreReadable, LacksPlaces, file_links, listed_units, or_before, unit_links}
use Rattle.inline_frames.specs.Following.{file_naming, unit_naming}
use Rattle.inline_frames.specs.declared.link.Link.{Link}
use Rattle.inline_frames.specs.declared.naming.Naming.{Naming}
use Rattle.inline_frames.proofs.LackingUnits.{IsElsewhere, is_elsewhere, no_links, no_naming}

-- A default, for an index past the end.
no_walked : Walked
no_walked = record { place = 0; bytes = None; is_other = false }

pub walked_at : List Walked → ℕ → Walked
walked_at ws n = get_or ws n no_walked

pub walked_there : (ws : List Walked) (n : ℕ) → n < length ws → slice_get ws n ≡ Some (walked_at ws n)
unfolding walked_at
walked_there ws n h = slice_get-get_or ws n no_walked h

-- By its index in an equal list.
pub walked_same : (ws us : List Walked) (n : ℕ) (w : Walked) → us ≡ ws → n < length ws → w ≡ get_or us n w → w ≡ walked_at ws n
unfolding walked_at
walked_same ws us n w same h is = is ∙ ap (λ (l : List Walked). get_or l n w) same ∙ get_or_default ws n w no_walked h

pub walked_is : (ws : List Walked) (n : ℕ) → n < length ws → walked_at ws n ≡ get_or ws n (walked_at ws n)
unfolding walked_at
walked_is ws n h = get_or_default ws n no_walked (get_or ws n no_walked) h

module _ (abbrevs addr : List ℕ) where
  -- Reading one more unit

  abbrev Behind : Walked → Option (Vec ListedEntry) → Type 0
  Behind w o = MatchOption o (fails (is_sound_unit addr) (unit_of abbrevs w) ≡ true)
      (λ es. (fails (is_sound_unit addr) (unit_of abbrevs w) ≡ false) × (listed_unit (unit_of abbrevs w) ≡ Ok es.items))

  behind : (w : Walked) (r : UnitReading) (o : Option (Vec ListedEntry)) → r.entries ≡ o → IsReading abbrevs addr w r → Behind w o
  behind w r o e is = subst (Behind w) e is.behind.entries

  pub is_read : (ws : List Walked) (n : ℕ) (w : Walked) (r : UnitReading) → AreReadable abbrevs addr ws → slice_get ws n ≡ Some w →
      IsReading abbrevs addr w r → r.entries ≡ None → ⊥
  is_read ws n w r are there is none =
      let bad : fails (is_sound_unit addr) (unit_of abbrevs w) ≡ true = behind w r None none is in
      let good : fails (is_sound_unit addr) (unit_of abbrevs w) ≡ false = are n w there in
      let e : true ≡ false = sym bad ∙ good in absurd (cc)

  one_listed : (r : Result Unit Trouble) (es : List ListedEntry) (rs : List (Result Unit Trouble)) → listed_unit r ≡ Ok es →
      map (λ (u : Unit). map listed u.entries) (oks (r ∷ rs)) ≡ es ∷ map (λ (u : Unit). map listed u.entries) (oks rs)
  one_listed (Ok u) es rs e =
      let same : map listed u.entries ≡ es = cc in
      ap (λ (l : List ListedEntry). l ∷ map (λ (u : Unit). map listed u.entries) (oks rs)) same
  one_listed (Err t) es rs e = absurd (cc)

  -- One more unit.
  next_is : (ws : List Walked) (n : ℕ) (w : Walked) (es : List ListedEntry) → n < length ws → w ≡ get_or ws n w →
      listed_unit (unit_of abbrevs w) ≡ Ok es → listed_units abbrevs (drop n ws) ≡ es ∷ listed_units abbrevs (drop (n + 1) ws)
  next_is ws n w es h there is =
      ap (listed_units abbrevs) (drop_more ws n w h)
      ∙ ap (λ (x : Walked). listed_units abbrevs (x ∷ drop (n + 1) ws)) (sym there)
      ∙ one_listed (unit_of abbrevs w) es (map (unit_of abbrevs) (drop (n + 1) ws)) is

  next_listed : (ws : List Walked) (n : ℕ) (w : Walked) (r : UnitReading) (es : Vec ListedEntry) → n < length ws →
      w ≡ get_or ws n w → IsReading abbrevs addr w r → r.entries ≡ Some es →
      listed_units abbrevs (drop n ws) ≡ es.items ∷ listed_units abbrevs (drop (n + 1) ws)
  next_listed ws n w r es h there is some = next_is ws n w es.items h there (behind w r (Some es) some is).1

  pub no_more : (ws : List Walked) (n : ℕ) → length ws ≤ n → listed_units abbrevs (drop n ws) ≡ []
  no_more ws n h = ap (listed_units abbrevs) (drop_all n ws h)

  -- The links of all units

  module _ (str_offsets : List ℕ) (covering : BTreeSet ℕ) where
    abbrev pub AreFound : List Walked → ℕ → List Link → Type 0
    AreFound ws n links =
        file_links str_offsets covering links (listed_units abbrevs (drop n ws)) ≡ file_links str_offsets covering []
        (listed_units abbrevs ws)

    pub found_more : (ws : List Walked) (n : ℕ) (w : Walked) (r : UnitReading) (es : Vec ListedEntry) (links these new : List Link) →
        n < length ws → w ≡ get_or ws n w → IsReading abbrevs addr w r → r.entries ≡ Some es → AreFound ws n links →
        these ≡ unit_links str_offsets covering es.items → new ≡ or_before these links → AreFound ws (n + 1) new
    found_more ws n w r es links these new h there is some inv t e =
        ap (λ (l : List Link). file_links str_offsets covering l (listed_units abbrevs (drop (n + 1) ws)))
        (e ∙ ap (λ (l : List Link). or_before l links) t)
        ∙ sym (ap (file_links str_offsets covering links) (next_listed ws n w r es h there is some)) ∙ inv

    -- A unit without any of the offsets has no links.
    pub found_same : (ws : List Walked) (n : ℕ) (w : Walked) (links : List Link) → n < length ws → slice_get ws n ≡ Some w →
        w ≡ get_or ws n w → AreReadable abbrevs addr ws → LacksPlaces covering w → AreFound ws n links → AreFound ws (n + 1) links
    found_same ws n w links h at there are lacks inv =
        let unit : IsElsewhere covering w lacks abbrevs = is_elsewhere covering w lacks abbrevs (is_sound_unit addr) (are n w at) in
        sym (ap (λ (ls : List Link). file_links str_offsets covering (or_before ls links) (listed_units abbrevs (drop (n + 1) ws)))
        (no_links covering str_offsets unit.entries unit.elsewhere))
        ∙ sym (ap (file_links str_offsets covering links) (next_is ws n w (map listed unit.entries) h there unit.listed_is)) ∙ inv

    pub found_all : (ws : List Walked) (n : ℕ) (links : List Link) → length ws ≤ n → AreFound ws n links →
        links ≡ file_links str_offsets covering [] (listed_units abbrevs ws)
    found_all ws n links h inv = sym (ap (file_links str_offsets covering links) (no_more ws n h)) ∙ inv

  -- The namings of some entries

  choose : (b : Bool) (g x y : Option Naming) →
      option_or (option_or g (if b then x else None)) (if b then y else None) ≡ option_or g (if b then option_or x y else None)
  choose true None x y = refl
  choose true (Some n) x y = refl
  choose false None x y = refl
  choose false (Some n) x y = refl

  or_nothing : (b : Bool) (g : Option Naming) → option_or g (if b then None else None) ≡ g
  or_nothing true None = refl
  or_nothing true (Some n) = refl
  or_nothing false None = refl
  or_nothing false (Some n) = refl

  module _ (str_offsets : List ℕ) (wanted : Bool) (q : ℕ) where
    abbrev pub IsNamed : List Walked → ℕ → Option Naming → Type 0
    IsNamed ws n found =
        option_or found (if wanted then file_naming str_offsets (listed_units abbrevs (drop n ws)) q else None)
        ≡ (if wanted then file_naming str_offsets (listed_units abbrevs ws) q else None)

    pub named_more : (ws : List Walked) (n : ℕ) (w : Walked) (r : UnitReading) (es : Vec ListedEntry) (old new : Option Naming) →
        n < length ws → w ≡ get_or ws n w → IsReading abbrevs addr w r → r.entries ≡ Some es → IsNamed ws n old →
        new ≡ option_or old (if wanted then unit_naming str_offsets es.items q else None) → IsNamed ws (n + 1) new
    named_more ws n w r es old new h there is some inv e =
        ap (λ (o : Option Naming). option_or o (if wanted then file_naming str_offsets (listed_units abbrevs (drop (n + 1) ws)) q else
        None)) e
        ∙ choose wanted old (unit_naming str_offsets es.items q) (file_naming str_offsets (listed_units abbrevs (drop (n + 1) ws)) q)
        ∙ sym (ap (λ (us : List (List ListedEntry)). option_or old (if wanted then file_naming str_offsets us q else None))
        (next_listed ws n w r es h there is some)) ∙ inv

    -- A unit without an entry at the offset.
    not_named : (ws : List Walked) (n : ℕ) (w : Walked) (es : List ListedEntry) (old : Option Naming) → n < length ws →
        w ≡ get_or ws n w → listed_unit (unit_of abbrevs w) ≡ Ok es → (wanted ≡ true → unit_naming str_offsets es q ≡ None) →
        IsNamed ws n old → IsNamed ws (n + 1) old
    not_named ws n w es old h there is none inv = by wanted none inv
      where
        by : (b : Bool) → (b ≡ true → unit_naming str_offsets es q ≡ None) →
            option_or old (if b then file_naming str_offsets (listed_units abbrevs (drop n ws)) q else None)
            ≡ (if b then file_naming str_offsets (listed_units abbrevs ws) q else None) →
            option_or old (if b then file_naming str_offsets (listed_units abbrevs (drop (n + 1) ws)) q else None)
            ≡ (if b then file_naming str_offsets (listed_units abbrevs ws) q else None)
        by false absent kept = kept
        by true absent kept =
            sym (ap (option_or old) (ap (λ (us : List (List ListedEntry)). file_naming str_offsets us q) (next_is ws n w es h there is)
            ∙ ap (λ (o : Option Naming). option_or o (file_naming str_offsets (listed_units abbrevs (drop (n + 1) ws)) q)) (absent refl)))
            ∙ kept

    pub named_all : (ws : List Walked) (n : ℕ) (found : Option Naming) → length ws ≤ n → IsNamed ws n found →
        found ≡ (if wanted then file_naming str_offsets (listed_units abbrevs ws) q else None)
    named_all ws n found h inv =
        sym (or_nothing wanted found)
        ∙ sym (ap (λ (us : List (List ListedEntry)). option_or found (if wanted then file_naming str_offsets us q else None))
        (no_more ws n h)) ∙ inv

  -- A unit without any of the wanted offsets.
  pub named_same : (str_offsets : List ℕ) (wanted : BTreeSet ℕ) (q : ℕ) (ws : List Walked) (n : ℕ) (w : Walked) (found : Option Naming) →
      n < length ws → slice_get ws n ≡ Some w → w ≡ get_or ws n w → AreReadable abbrevs addr ws → LacksPlaces wanted w →
      IsNamed str_offsets (contains nat_cmp wanted q) q ws n found → IsNamed str_offsets (contains nat_cmp wanted q) q ws (n + 1) found
  named_same str_offsets wanted q ws n w found h at there are lacks inv =
      let unit : IsElsewhere wanted w lacks abbrevs = is_elsewhere wanted w lacks abbrevs (is_sound_unit addr) (are n w at) in
      not_named str_offsets (contains nat_cmp wanted q) q ws n w (map listed unit.entries) found h there unit.listed_is
      (λ t. no_naming wanted str_offsets q unit.entries t unit.elsewhere) inv

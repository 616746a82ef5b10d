-- An entry that a walk of a table found is at its place, and is found there again.
use Rattle.std.proofs.Common.{◌≡◌, ◌∙◌, ◌+◌, ◌-◌, ◌≤◌, ◌==◌, ◌&&◌, ◌^◌, ℕ, zero, suc, Bool, true, false, cond, not, List, [], ◌∷◌, Result, Ok}
use Rattle.std.proofs.Common.{Err, Option, Some, None, refl, sym, ap, subst, arith, take, drop, length, map, get_or, option_map}
use Rattle.std.proofs.lemmas.Bool.Decides.{nat_tests}
use Rattle.std.proofs.lemmas.Grind.{common_steps}
use Rattle.std.proofs.lemmas.List.{drop-drop, drop_all}
use Rattle.std.proofs.lemmas.Option.{same_Some, slice_get-map, get_or_from_slice_get}
use Rattle.std.specs.Prelude.{nat_lt, slice_get}
use Rattle.std.specs.List.{find}
use Rattle.byteorder.specs.Endian.{little_number}
use Rattle.rb_bytes.specs.Readers.{and_then}
use Rattle.table_core.specs.ReadSteps.{and_so}
use Rattle.table_core.specs.Sections.{Held}
use Rattle.cfi_rows.specs.declared.instruction.Malformed.{Malformed}
use Rattle.cfi_rows.specs.declared.instruction.Malformed.TheVariants.{Entry}
use Rattle.cfi_rows.specs.declared.raw_entry.NoEntry.{NoEntry}
use Rattle.cfi_rows.specs.declared.raw_entry.NoEntry.TheVariants as none
use Rattle.cfi_rows.specs.FrontEnds.{front_without}
use Rattle.cfi_rows.specs.FrameInstructions.{Read, instructions_at, pointer_at, stored_at}
use Rattle.cfi_rows.specs.FrameRows.{rows, begins}
use Rattle.cfi_rows.specs.Entries.{Cie, Fde, Frames, RawEntry, Front, Ends, Breaks, Stands, front_of, entry_of, walk, onward}
use Rattle.cfi_rows.specs.Entries.{walked_entries, cie_at, cie_in, cie_place, end_of, entry_named, is_named, is_cie, sound_if, fde_at}
use Rattle.cfi_rows.specs.Entries.{fde_sized, fde_from, fde_by, fde_after, fde_made, fde_context, size_encoding, table_at, one_cie, one_fde}
use Rattle.cfi_rows.specs.Entries.{frames_from, frames}
use Rattle.cfi_rows.specs.declared.frame_table.Fde.{Fde as ReadFde}
use Rattle.cfi_rows.specs.ReadEntries.{fde_of}
use Rattle.cfi_rows.specs.FramePrograms.{entry_in, entry_standing, cie_standing, fde_standing}
use Rattle.cfi_rows.specs.KeptTables.{fde_in}

-- no entry is past the end of a table, nor at bytes that are none
pub past_end : (debug : Bool) (table : List ℕ) (place : ℕ) → length table ≤ place → entry_standing debug table place ≡ None
past_end debug table place l = ap (λ xs. entry_in (front_of debug place xs)) (drop_all place table l)

pub without : (debug : Bool) (table : List ℕ) (place : ℕ) (left : List ℕ) (n : NoEntry) → left ≡ drop place table →
    front_of debug place left ≡ front_without n → entry_standing debug table place ≡ None
without debug table place left none.Ends p e = ap (λ xs. entry_in (front_of debug place xs)) (sym p) ∙ ap entry_in e
without debug table place left none.Breaks p e = ap (λ xs. entry_in (front_of debug place xs)) (sym p) ∙ ap entry_in e

-- each of some entries is at its place
abbrev pub AllStand : (debug : Bool) → List ℕ → List RawEntry → Type 0
AllStand debug table [] = Unit {0}
AllStand debug table (e ∷ es) = (entry_standing debug table e.place ≡ Some e) × AllStand debug table es

-- the place of an entry, and of the bytes after it
abbrev LiesAt : ℕ → List ℕ → Front → Type 0
LiesAt place left Ends = Unit {0}
LiesAt place left Breaks = Unit {0}
LiesAt place left (Stands e rest) = (e.place ≡ place) × (rest ≡ drop (8 + length e.body) left)

after-entry : (n : ℕ) (left : List ℕ) → nat_lt n 4 ≡ false → nat_lt (length (drop 4 left)) n ≡ false →
    drop n (drop 4 left) ≡ drop (8 + length (take (n - 4) (drop 4 (drop 4 left)))) left
after-entry n left e f = drop-drop n 4 left ∙ ap (λ m. drop m left) size where
  size : 4 + n ≡ 8 + length (take (n - 4) (drop 4 (drop 4 left)))
  size = grind (arith, nat_tests, common_steps)

entry-lies : (place n : ℕ) (left : List ℕ) (a b c : Bool) → (n == 0xffffffff) ≡ a → nat_lt n 4 ≡ b →
    nat_lt (length (drop 4 left)) n ≡ c →
    LiesAt place left (entry_of place n (drop 4 left))
entry-lies place n left true b c e f g = rw e tt
entry-lies place n left false true c e f g = rw (e, f) tt
entry-lies place n left false false true e f g = rw (e, f, g) tt
entry-lies place n left false false false e f g = rw (e, f, g) (refl, after-entry n left f g)

ended : (place n : ℕ) (left : List ℕ) (b : Bool) → LiesAt place left (entry_of place n (drop 4 left)) →
    LiesAt place left (cond b Ends (entry_of place n (drop 4 left)))
ended place n left true h = tt
ended place n left false h = h

short : (place : ℕ) (left : List ℕ) (b : Bool) (f : Front) → LiesAt place left f → LiesAt place left (cond b Breaks f)
short place left true f h = tt
short place left false f h = h

front-lies : (debug : Bool) (place : ℕ) (left : List ℕ) → LiesAt place left (front_of debug place left)
front-lies debug place left =
    short place left (nat_lt (length left) 4) _
    (ended place (little_number 4 left) left (not debug && (little_number 4 left == 0))
    (entry-lies place (little_number 4 left) left _ _ _ refl refl refl))

standing-is : (debug : Bool) (table : List ℕ) (place : ℕ) (left : List ℕ) (e : RawEntry) (rest : List ℕ) →
    left ≡ drop place table →
    front_of debug place left ≡ Stands e rest → entry_standing debug table place ≡ Some e
standing-is debug table place left e rest p f = ap (λ xs. entry_in (front_of debug place xs)) (sym p) ∙ ap entry_in f

lies-as : (debug : Bool) (place : ℕ) (left : List ℕ) (f : Front) → front_of debug place left ≡ f → LiesAt place left f
lies-as debug place left f e = subst (LiesAt place left) e (front-lies debug place left)

onward-stands : (debug : Bool) (table : List ℕ) (n place : ℕ) (left : List ℕ) (f : Front) →
    ((q : ℕ) (rest : List ℕ) → rest ≡ drop q table → AllStand debug table (walk debug n q rest).entries) →
    left ≡ drop place table →
    front_of debug place left ≡ f → AllStand debug table (onward place f (walk debug n)).entries
onward-stands debug table n place left Ends h p e = tt
onward-stands debug table n place left Breaks h p e = tt
onward-stands debug table n place left (Stands x rest) h p e =
    let lies = lies-as debug place left (Stands x rest) e in
    let stands : entry_standing debug table place ≡ Some x = standing-is debug table place left x rest p e in
    let after : rest ≡ drop (place + 8 + length x.body) table =
    lies.1 ∙ ap (drop (8 + length x.body)) p ∙ drop-drop (8 + length x.body) place table
    ∙ ap (λ m. drop m table) (sum place (length x.body)) in
    (subst (λ q. entry_standing debug table q ≡ Some x) (sym lies.0) stands, h (place + 8 + length x.body) rest after) where
      sum : (a b : ℕ) → a + (8 + b) ≡ a + 8 + b
      sum a b = omega arith

walk-stands : (debug : Bool) (table : List ℕ) (n place : ℕ) (left : List ℕ) → left ≡ drop place table →
    AllStand debug table (walk debug n place left).entries
unfolding walk
walk-stands debug table n place [] p = tt
walk-stands debug table zero place (b ∷ bs) p = tt
walk-stands debug table (suc n) place (b ∷ bs) p =
    onward-stands debug table n place (b ∷ bs) (front_of debug place (b ∷ bs)) (walk-stands debug table n) p refl

pub all-stand : (debug : Bool) (table : List ℕ) → AllStand debug table (walked_entries debug table).entries
all-stand debug table = walk-stands debug table (length table) 0 table refl

-- The CIE that is named.

named-place : (debug : Bool) (place : ℕ) (e : RawEntry) → is_named debug place e ≡ true → e.place ≡ place
named-place debug place e h = at (e.place == place) refl where
  at : (b : Bool) → (e.place == place) ≡ b → e.place ≡ place
  at true f = grind (arith, nat_tests)
  at false f = absurd (cc)

find-stands : (debug : Bool) (table : List ℕ) (place : ℕ) (e : RawEntry) (es : List RawEntry) → AllStand debug table es →
    find (is_named debug place) es ≡ Some e → entry_standing debug table place ≡ Some e
find-stands debug table place e [] h f = absurd (cc)
find-stands debug table place e (x ∷ es) h f = at (is_named debug place x) refl (find-stands debug table place e es h.1) f where
  at : (b : Bool) → is_named debug place x ≡ b →
      (find (is_named debug place) es ≡ Some e → entry_standing debug table place ≡ Some e) →
      cond b (Some x) (find (is_named debug place) es) ≡ Some e → entry_standing debug table place ≡ Some e
  at true t r g = subst (λ q. entry_standing debug table q ≡ Some x) (named-place debug place x t) h.0 ∙ g
  at false t r g = r g

cie-by : (debug : Bool) (t : Held) (all : List RawEntry) (place : ℕ) (c : Cie) (o : Option RawEntry) →
    AllStand debug t.bytes all →
    entry_named debug all (Some place) ≡ o → and_so (sound_if o) (λ e. cie_at (end_of t.address e) e.body) ≡ Ok c →
    cie_standing debug t (Some place) ≡ Ok c
cie-by debug t all place c None h f g = absurd (cc)
cie-by debug t all place c (Some e) h f g =
    ap (λ o. and_so (sound_if o) (λ e. cie_at (end_of t.address e) e.body)) (find-stands debug t.bytes place e all h f) ∙ g

cie-stands : (debug : Bool) (t : Held) (all : List RawEntry) (o : Option ℕ) (c : Cie) → AllStand debug t.bytes all →
    cie_in debug t.address all o ≡ Ok c → cie_standing debug t o ≡ Ok c
cie-stands debug t all None c h f = absurd (cc)
cie-stands debug t all (Some place) c h f = cie-by debug t all place c (entry_named debug all (Some place)) h refl f

-- FDEs

abbrev IsAt : ℕ → Result Fde Malformed → Type 0
IsAt place (Ok f) = f.place ≡ place
IsAt place (Err e) = Unit {0}

at-then : {X : Type 0} (place : ℕ) (r : Read X) (g : X → List ℕ → Result Fde Malformed) →
    ((x : X) (l : List ℕ) → IsAt place (g x l)) → IsAt place (and_then r g)
at-then place (Ok read) g h = h read.0 read.1
at-then place (Err e) g h = tt

at-so : {X : Type 0} (place : ℕ) (r : Result X Malformed) (g : X → Result Fde Malformed) → ((x : X) → IsAt place (g x)) →
    IsAt place (and_so r g)
at-so place (Ok x) g h = h x
at-so place (Err e) g h = tt

at-cond : (place : ℕ) (b : Bool) (r : Result Fde Malformed) → IsAt place r → IsAt place (cond b r (Err Entry))
at-cond place true r h = h
at-cond place false r h = tt

fde-at-place : (cie : Cie) (end : ℕ) (e : RawEntry) → IsAt e.place (fde_at cie end e)
fde-at-place cie end e =
    at-then e.place (pointer_at cie.augmentation.encoding end e.body) (fde_sized cie end e.place) (λ start l1.
    at-then e.place (stored_at (size_encoding cie.augmentation.encoding) l1) (fde_from cie end e.place start) (λ size l2.
    at-cond e.place (nat_lt (start + size) (2 ^ 64)) _ (at-then e.place (table_at cie.augmentation end l2)
    (fde_by cie end e.place start size) (λ table l3.
    at-so e.place (instructions_at (fde_context cie end) l3) (fde_after cie e.place start size table) (λ is.
    at-so e.place (sound_if (rows cie.known.rules is (begins start cie.known))) (fde_made cie e.place start size table is)
    (λ rs. refl))))))

place-of : (place : ℕ) (f : Fde) (r : Result Fde Malformed) → r ≡ Ok f → IsAt place r → f.place ≡ place
place-of place f r e h = subst (IsAt place) e h

abbrev Gives : (debug : Bool) → Held → RawEntry → Result Fde Malformed → Type 0
Gives debug t e r = (f : Fde) → r ≡ Ok f → fde_standing debug t f.place ≡ Ok f

fde-by : (debug : Bool) (t : Held) (all : List RawEntry) (e : RawEntry) (r : Result Cie Malformed) →
    AllStand debug t.bytes all →
    entry_standing debug t.bytes e.place ≡ Some e → cie_in debug t.address all (cie_place debug e) ≡ r →
    Gives debug t e (and_so r (λ cie. fde_at cie (end_of t.address e) e))
fde-by debug t all e (Ok c) h s g = λ f k.
    let place : f.place ≡ e.place = place-of e.place f (fde_at c (end_of t.address e) e) k (fde-at-place c (end_of t.address e) e) in
    ap (λ p. fde_standing debug t p) place
    ∙ ap (λ o. and_so (sound_if o) (λ x. and_so (cie_standing debug t (cie_place debug x)) (λ cie. fde_at cie (end_of t.address x) x))) s
    ∙ ap (λ r. and_so r (λ cie. fde_at cie (end_of t.address e) e)) (cie-stands debug t all (cie_place debug e) c h g)
    ∙ k
fde-by debug t all e (Err x) h s g = λ f k. absurd (cc)

abbrev Found : (debug : Bool) → Held → List Fde → Type 0
Found debug t list = (i : ℕ) (f : Fde) → slice_get list i ≡ Some f → fde_standing debug t f.place ≡ Ok f

none-found : (debug : Bool) (t : Held) → Found debug t []
none-found debug t = λ i f e. absurd (cc)

cie-found : (debug : Bool) (t : Held) (e : RawEntry) (r : Result Cie Malformed) (more : Frames) →
    Found debug t more.list → Found debug t (one_cie e r more).list
cie-found debug t e (Ok c) more h = h
cie-found debug t e (Err x) more h = none-found debug t

fde-found : (debug : Bool) (t : Held) (e : RawEntry) (r : Result Fde Malformed) (more : Frames) → Gives debug t e r →
    Found debug t more.list →
    Found debug t (one_fde e r more).list
fde-found debug t e (Ok x) more g h = at where
  at : Found debug t (x ∷ more.list)
  at zero f k = let same : x ≡ f = same_Some _ _ k in g f (ap (λ (y : Fde). Ok y) same)
  at (suc i) f k = h i f k
fde-found debug t e (Err x) more g h = none-found debug t

either-found : (debug : Bool) (t : Held) (b : Bool) (x y : Frames) → Found debug t x.list → Found debug t y.list →
    Found debug t (cond b x y).list
either-found debug t true x y h g = h
either-found debug t false x y h g = g

list-found : (debug : Bool) (t : Held) (all : List RawEntry) (broken : Option ℕ) (es : List RawEntry) →
    AllStand debug t.bytes all → AllStand debug t.bytes es →
    Found debug t (frames_from debug t.address all broken es).list
list-found debug t all broken [] h g = none-found debug t
list-found debug t all broken (e ∷ es) h g =
    let more = list-found debug t all broken es h g.1 in
    either-found debug t (is_cie debug e) _ _
    (cie-found debug t e (cie_at (end_of t.address e) e.body) (frames_from debug t.address all broken es) more)
    (fde-found debug t e (fde_in debug t.address all e) (frames_from debug t.address all broken es)
    (fde-by debug t all e (cie_in debug t.address all (cie_place debug e)) h g.0 refl) more)

-- each entry of the list of a table
pub entry-found : (debug : Bool) (t : Held) (i : ℕ) (f : Fde) → slice_get (frames debug t.address t.bytes).list i ≡ Some f →
    fde_standing debug t f.place ≡ Ok f
entry-found debug t = list-found debug t (walked_entries debug t.bytes).entries (walked_entries debug t.bytes).broken
    (walked_entries debug t.bytes).entries
    (all-stand debug t.bytes) (all-stand debug t.bytes)

-- the place of an entry, as it is kept
pub place-at : (list : List Fde) (kept : List ReadFde) (i : ℕ) (f : Fde) (d : ReadFde) → map fde_of list ≡ kept →
    slice_get list i ≡ Some f →
    (get_or kept i d).place ≡ f.place
place-at list kept i f d e h =
    ap (λ (x : ReadFde). x.place) (get_or_from_slice_get kept i (fde_of f) d
    (ap (λ xs. slice_get xs i) (sym e) ∙ slice_get-map fde_of list i ∙ ap (option_map fde_of) h))

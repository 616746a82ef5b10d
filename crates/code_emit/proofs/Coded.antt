-- Bytes that are appended decode as the instruction that was encoded, and instructions in the code are instructions in a file that contains
-- it.
use Rattle.std.proofs.Common.{◌≡◌, ℕ, ◌+◌, ◌-◌, ◌*◌, ◌/◌, ◌%◌, ◌^◌, ◌<◌, ◌≤◌, List, [], ◌∷◌, ◌++◌, length, Some, refl, sym, ap}
use Rattle.std.proofs.Common.{◌∙◌, subst, arith, get_or}
use Rattle.std.specs.Prelude.{slice_index}
use Rattle.std.proofs.lemmas.List.{get_or_append_left, get_or-append_right, length-append}
use Rattle.rv_code.specs.declared.inst.Inst.{Inst}
use Rattle.rv_encode.specs.declared.word.Word.TheVariants as word
use Rattle.rv_code.specs.declared.placed.Width.{Width}
use Rattle.rv_code.specs.declared.placed.Width.TheVariants as width
use Rattle.rv_encode.specs.InstWords.{Encodes, bytes}
use Rattle.elf_code.specs.Parts.{halfword_in}
use Rattle.elf_image.specs.memory.Executables.{Executable, IsCodeByte, memory_of}
use Rattle.code_emit.specs.NewInsts.{Made}
use Rattle.code_emit.specs.Bytes.{half_bytes, full_bytes, half_in, StandsIn, AllStandIn, after_made, Adds, CanBeEncoded, AllCanBeEncoded}
use Rattle.code_emit.specs.Bytes.{width_of_bytes}
use Rattle.code_emit.specs.Output.{HasCode}
use Rattle.code_emit.proofs.Standing.{HasMade, HasAll}

at_end : (old xs : List ℕ) (k : ℕ) → slice_index (old ++ xs) (length old + k) ≡ slice_index xs k
at_end old xs k =
    let down : length old + k - length old ≡ k = omega arith in
    get_or-append_right old xs (length old) (length old + k) 0 refl (omega arith) ∙ ap (λ (i : ℕ). get_or xs i 0) down

at_start : (old xs : List ℕ) → slice_index (old ++ xs) (length old) ≡ slice_index xs 0
at_start old xs = let same : length old ≡ length old + 0 = omega arith in ap (slice_index (old ++ xs)) same ∙ at_end old xs 0

kept_before : (old xs : List ℕ) (i : ℕ) → i < length old → slice_index (old ++ xs) i ≡ slice_index old i
kept_before old xs i h = get_or_append_left old xs 0 i h

join_2 : (h : ℕ) → h % 256 + 256 * (h / 256) ≡ h
join_2 h = omega arith

pub adds_half : (old : List ℕ) (h : ℕ) (inst : Inst) → Encodes (word.Half h) inst →
    Adds old (old ++ half_bytes h) (record { inst = inst; bytes = 2 } ∷ [])
adds_half old h inst e =
    let len = length-append old (half_bytes h) in
    let is : half_in (old ++ half_bytes h) (length old) ≡ h =
    rw (at_start old (half_bytes h), at_end old (half_bytes h) 1) (join_2 h) in
    record {
      keeps = kept_before old (half_bytes h);
      length_is = omega (arith, len);
      stand = (record { within = omega (arith, len); some = omega arith; decodes = λ next _. rw is (e next) }, tt);
    }

low_2 : (w : ℕ) → w % 256 + 256 * (w / 256 % 256) ≡ w % 2 ^ 16
low_2 w = omega arith

high_2 : (w : ℕ) → w / 65536 % 256 + 256 * (w / 16777216) ≡ w / 2 ^ 16
high_2 w = omega arith

pub adds_full : (old : List ℕ) (w : ℕ) (inst : Inst) → Encodes (word.Full w) inst →
    Adds old (old ++ full_bytes w) (record { inst = inst; bytes = 4 } ∷ [])
adds_full old w inst e =
    let len = length-append old (full_bytes w) in
    let past : length old + 2 + 1 ≡ length old + 3 = omega arith in
    let low : half_in (old ++ full_bytes w) (length old) ≡ w % 2 ^ 16 =
    rw (at_start old (full_bytes w), at_end old (full_bytes w) 1) (low_2 w) in
    let high : half_in (old ++ full_bytes w) (length old + 2) ≡ w / 2 ^ 16 =
    rw (past, at_end old (full_bytes w) 2, at_end old (full_bytes w) 3) (high_2 w) in
    record {
      keeps = kept_before old (full_bytes w);
      length_is = omega (arith, len);
      stand = (record { within = omega (arith, len); some = omega arith; decodes = λ next is. rw (low, is refl, high) e }, tt);
    }

-- Appending step by step.

stays_in : (old new : List ℕ) (o : ℕ) (m : Made) → length old ≤ length new →
    ((i : ℕ) → i < length old → slice_index new i ≡ slice_index old i) → StandsIn old o m → StandsIn new o m
stays_in old new o m h keeps s =
    let within = s.within in
    let some = s.some in
    let first : half_in new o ≡ half_in old o =
    rw (keeps o (omega (arith, within, some)), keeps (o + 1) (omega (arith, within, some))) refl in
    record {
      within = omega (arith, within, h);
      some = some;
      decodes = λ next is. rw first (s.decodes next (λ four. is four ∙ ap Some (second four)));
    }
  where
    second : m.bytes ≡ 4 → half_in new (o + 2) ≡ half_in old (o + 2)
    second four = let within = s.within in
        rw (keeps (o + 2) (omega (arith, within, four)), keeps (o + 2 + 1) (omega (arith, within, four))) refl

all_stay_in : (old new : List ℕ) (o : ℕ) (ms : List Made) → length old ≤ length new →
    ((i : ℕ) → i < length old → slice_index new i ≡ slice_index old i) → AllStandIn old o ms → AllStandIn new o ms
all_stay_in old new o [] h keeps s = tt
all_stay_in old new o (m ∷ ms) h keeps s = (stays_in old new o m h keeps s.0, all_stay_in old new (o + m.bytes) ms h keeps s.1)

join_stand : (code : List ℕ) (o : ℕ) (xs ys : List Made) → AllStandIn code o xs → AllStandIn code (after_made o xs) ys →
    AllStandIn code o (xs ++ ys)
join_stand code o [] ys h k = k
join_stand code o (x ∷ xs) ys h k = (h.0, join_stand code (o + x.bytes) xs ys h.1 k)

pub after-append : (o : ℕ) (xs ys : List Made) → after_made o (xs ++ ys) ≡ after_made (after_made o xs) ys
after-append o [] ys = refl
after-append o (x ∷ xs) ys = after-append (o + x.bytes) xs ys

above : (o : ℕ) (xs : List Made) → o ≤ after_made o xs
above o [] = omega arith
above o (x ∷ xs) = let h = above (o + x.bytes) xs in omega (arith, h)

pub adds-none : (code : List ℕ) → Adds code code []
adds-none code = record { keeps = λ i _. refl; length_is = refl; stand = tt }

pub adds-append : (x y z : List ℕ) (ms ns : List Made) → Adds x y ms → Adds y z ns → Adds x z (ms ++ ns)
adds-append x y z ms ns a b =
    let len_y = a.length_is in
    let len_z = b.length_is in
    let up = above (length x) ms in
    let up_2 = above (length y) ns in
    let grows : length y ≤ length z = omega (arith, len_z, up_2) in
    record {
      keeps = λ i h. b.keeps i (omega (arith, h, len_y, up)) ∙ a.keeps i h;
      length_is = b.length_is ∙ ap (λ (o : ℕ). after_made o ns) a.length_is ∙ sym (after-append (length x) ms ns);
      stand = join_stand z (length x) ms ns (all_stay_in y z (length x) ms grows b.keeps a.stand)
          (subst (λ (o : ℕ). AllStandIn z o ns) a.length_is b.stand);
    }

-- In a file.

half_is : (x : Executable) (base o : ℕ) (code : List ℕ) → HasCode x base code → o + 2 ≤ length code →
    halfword_in (memory_of x) (base + o) ≡ half_in code o
half_is x base o code has h =
    let next : base + o + 1 ≡ base + (o + 1) = omega arith in
    rw (has.bytes o (omega (arith, h)), next, has.bytes (o + 1) (omega (arith, h))) refl

pub has_made : (x : Executable) (base o : ℕ) (code : List ℕ) (m : Made) → HasCode x base code → StandsIn code o m →
    HasMade x (base + o) m.inst m.bytes
has_made x base o code m has s =
    let within = s.within in
    let some = s.some in
    let next : base + o + 2 ≡ base + (o + 2) = omega arith in
    record {
      is_inst = rw (half_is x base o code has (omega (arith, within, some)), next)
          (s.decodes (Some (halfword_in (memory_of x) (base + (o + 2))))
          (λ four. ap Some (half_is x base (o + 2) code has (omega (arith, within, four)))));
      code = λ i h. subst (IsCodeByte x) (sum base o i) (has.rights (o + i) (omega (arith, h, within)));
    }
  where
    sum : (b o i : ℕ) → b + (o + i) ≡ b + o + i
    sum b o i = omega arith

pub has_all : (x : Executable) (base o : ℕ) (code : List ℕ) (ms : List Made) → HasCode x base code → AllStandIn code o ms →
    HasAll x (base + o) ms
has_all x base o code [] has s = tt
has_all x base o code (m ∷ ms) has s =
    let sum : base + (o + m.bytes) ≡ base + o + m.bytes = omega arith in
    (has_made x base o code m has s.0, subst (λ (a : ℕ). HasAll x a ms) sum (has_all x base (o + m.bytes) code ms has s.1))

pub all_can_front : (xs ys : List Made) → AllCanBeEncoded (xs ++ ys) → AllCanBeEncoded xs
all_can_front [] ys h = tt
all_can_front (x ∷ xs) ys h = (h.0, all_can_front xs ys h.1)

pub all_can_back : (xs ys : List Made) → AllCanBeEncoded (xs ++ ys) → AllCanBeEncoded ys
all_can_back [] ys h = h
all_can_back (x ∷ xs) ys h = all_can_back xs ys h.1

pub half_wanted : (old : List ℕ) (h : ℕ) (inst : Inst) (want : Width) → Encodes (word.Half h) inst → width.Half ≡ want →
    Adds old (old ++ half_bytes h) (record { inst = inst; bytes = bytes want } ∷ [])
half_wanted old h inst want e w =
    subst (λ (n : Width). Adds old (old ++ half_bytes h) (record { inst = inst; bytes = bytes n } ∷ [])) w
    (adds_half old h inst e)

pub adds_as_long : (old new : List ℕ) (inst : Inst) (n : ℕ) → CanBeEncoded (record { inst = inst; bytes = n }) →
    Adds old new (record { inst = inst; bytes = bytes (width_of_bytes n) } ∷ []) →
    Adds old new (record { inst = inst; bytes = n } ∷ [])
adds_as_long old new inst n can a = subst (λ (k : ℕ). Adds old new (record { inst = inst; bytes = k } ∷ [])) can.length_is a

pub adds_both : (x y z : List ℕ) (ms ns : List Made) → Adds x y ms → Adds y z ns → Adds x z (ms ++ ns)
adds_both x y z ms ns a b = adds-append x y z ms ns a b

pub adds_none : (code : List ℕ) → Adds code code []
adds_none code = adds-none code

-- The bytes of pages, before and after a write.
use Rattle.std.proofs.Common.{◌≡◌, ◌∙◌, sym, ap, refl, ℕ, zero, suc, ◌+◌, ◌-◌, ◌*◌, ◌/◌, ◌%◌, ◌^◌, ◌≤◌, ◌<◌, Bool, true, false}
use Rattle.std.proofs.Common.{List, [], ◌∷◌, ◌++◌, length, take, drop, get_or, Option, Some, None, arith}
use Rattle.std.specs.Prelude.{◌==◌, nat_le, nat_lt, if◌then◌else◌, replicate, Result, Ok, Err, OnErr}
use Rattle.std.specs.Option.{option_map, is_some}
use Rattle.std.proofs.Common.{length-append}
use Rattle.std.proofs.lemmas.Grind.{common_steps}
use Rattle.std.proofs.lemmas.List.{take_at, length-replicate, get_or-drop, get_or_append_left, get_or-append_right}
use Rattle.std.proofs.lemmas.Bool.{leb-true, ltb-true, eqb-true, eqb-false, le-leb, lt-ltb, false_from_ne_true, and_parts}
use Rattle.byteorder.specs.Endian.{little_from}
use Rattle.elf_image.specs.file.Header.{number_at}
use Rattle.rv_code.specs.machine.Machine.{plus, memory_bytes, little}
use Rattle.rv_memory.specs.Patches.{patched}
use Rattle.rv_memory.specs.PageIndex.{place_of}
use Rattle.rv_memory.specs.declared.pages.Pages.{Pages}
use Rattle.rv_memory.specs.declared.page_index.PageIndex.{PageIndex}
use Rattle.rv_memory.specs.Pages.{byte_in, page_byte, byte_put, byte_cleared, is_within, IsLike}
use Rattle.rv_memory.proofs.PatchedBytes.{page_patched, length-patched}

pub on_err : {T E P : Type 0} (r : Result T E) → P → OnErr r P
on_err (Ok x) p = tt
on_err (Err e) p = p

pub byte_in-same : (index : PageIndex) (bytes : List ℕ) (p : Pages) → bytes ≡ p.bytes.items →
    ((q : ℕ) → place_of index q ≡ place_of p.index q) → (q : ℕ) → byte_in index bytes q ≡ page_byte p q
unfolding byte_in
byte_in-same index bytes p same places q = rw (same, places (q / 4096)) refl

pub page_byte-none : (p : Pages) (a : ℕ) → place_of p.index (a / 4096) ≡ None → page_byte p a ≡ None
unfolding byte_in
page_byte-none p a none = rw none refl

pub page_byte-some : (p : Pages) (a i : ℕ) → place_of p.index (a / 4096) ≡ Some i →
    page_byte p a ≡ Some (get_or p.bytes.items (i * 4096 + a % 4096) 0)
unfolding byte_in
page_byte-some p a i found = rw found refl

pub in_pages : (p : Pages) (a i n : ℕ) → place_of p.index (a / 4096) ≡ Some i → a % 4096 + n ≤ 4096 →
    i * 4096 + a % 4096 + n ≤ length p.bytes.items
in_pages p a i n found in_page = grind (arith, common_steps)

-- Bytes written in one page.
pub page_written : (old : Pages) (bytes ys : List ℕ) (a i : ℕ) → place_of old.index (a / 4096) ≡ Some i →
    a % 4096 + length ys ≤ 4096 →
    bytes ≡ patched (i * 4096 + a % 4096) ys old.bytes.items → (q : ℕ) → byte_in old.index bytes q ≡ byte_put old a ys q
unfolding byte_in
page_written old bytes ys a i found in_page is q =
    rw is (page_patched (place_of old.index) old.numbers.items old.bytes.items old.numbered ys a i found in_page
    (in_pages old a i (length ys) found in_page) q)

-- Bytes written to a slice of the vector of pages.
pub vector_written : (old : Pages) (now ys : List ℕ) (a i : ℕ) → place_of old.index (a / 4096) ≡ Some i →
    a % 4096 + length ys ≤ 4096 → now ≡ patched (i * 4096 + a % 4096) ys old.bytes.items → (q : ℕ) →
    byte_in old.index (take old.bytes.len (now ++ drop (length now) old.bytes.items)) q ≡ byte_put old a ys q
vector_written old now ys a i found in_page is q =
    let size : length now ≡ length old.bytes.items = ap length is
    ∙ length-patched (i * 4096 + a % 4096) ys old.bytes.items (in_pages old a i (length ys) found in_page) in
    let len : old.bytes.len ≡ length old.bytes.items = old.bytes.ok.0 in
    page_written old _ ys a i found in_page
    (take_at now (drop (length now) old.bytes.items) old.bytes.len (size ∙ sym len) ∙ is) q

pub zeros : (n k : ℕ) → get_or {A = ℕ} (replicate n 0) k 0 ≡ 0
zeros zero k = refl
zeros (suc n) zero = refl
zeros (suc n) (suc k) = zeros n k

pub byte_put-zeros : (p : Pages) (a n i : ℕ) → place_of p.index (a / 4096) ≡ Some i → a % 4096 + n ≤ 4096 → (q : ℕ) →
    byte_put p a (replicate n 0) q ≡ byte_cleared p a n q
byte_put-zeros p a n i found in_page q =
    ap (λ (m : ℕ). if is_within a m q then Some (get_or (replicate n 0) (q - a) 0) else page_byte p q)
    (length-replicate {A = ℕ} n 0)
    ∙ cases (is_within a n q) refl
  where
    cases : (t : Bool) → is_within a n q ≡ t →
        (if t then Some (get_or (replicate n 0) (q - a) 0) else page_byte p q)
        ≡ (if t then option_map (λ byte. 0) (page_byte p q) else page_byte p q)
    cases false test = refl
    cases true test =
        let parts = and_parts (nat_le a q) (nat_lt q (a + n)) test in
        let low : a ≤ q = leb-true a q parts.0 in
        let high : q < a + n = ltb-true q (a + n) parts.1 in
        let page : q / 4096 ≡ a / 4096 = omega arith in
        ap Some (zeros n (q - a)) ∙ sym (ap (option_map (λ byte. 0)) (page_byte-some p q i (ap (place_of p.index) page ∙ found)))

pub byte_cleared-none : (p : Pages) (a n : ℕ) → place_of p.index (a / 4096) ≡ None → a % 4096 + n ≤ 4096 → (q : ℕ) →
    page_byte p q ≡ byte_cleared p a n q
byte_cleared-none p a n none in_page q = grind (arith, common_steps, and_parts, leb-true, ltb-true, page_byte-none)

pub byte_put-one : (p : Pages) (a byte q : ℕ) → byte_put p a (byte ∷ []) q ≡ (if q == a then Some byte else page_byte p q)
byte_put-one p a byte q =
    grind (arith, common_steps, eqb-true, le-leb, lt-ltb, eqb-false, false_from_ne_true, and_parts, leb-true, ltb-true)

-- The number in memory is the number of the bytes there.
pub little_from-is : (memory : ℕ → ℕ) (xs : List ℕ) (n i a : ℕ) → a + n ≤ 2 ^ 64 →
    ((k : ℕ) → k < n → memory (a + k) ≡ get_or xs (i + k) 0) → little_from i n xs ≡ little (memory_bytes memory a n)
unfolding little memory_bytes
little_from-is memory xs zero i a room same = refl
little_from-is memory xs (suc zero) i a room same =
    let first : memory (a + 0) ≡ get_or xs (i + 0) 0 = same 0 (omega arith) in
    grind (arith, common_steps, first)
little_from-is memory xs (suc (suc n)) i a room same =
    let first : memory (a + 0) ≡ get_or xs (i + 0) 0 = same 0 (omega arith) in
    let next : plus a 1 ≡ a + 1 = omega arith in
    let rest : little_from (suc i) (suc n) xs ≡ little (memory_bytes memory (a + 1) (suc n)) =
    little_from-is memory xs (suc n) (suc i) (a + 1) (omega arith)
    (λ k less. let here : a + 1 + k ≡ a + suc k = omega arith in let there : suc i + k ≡ i + suc k = omega arith in
    ap memory here ∙ same (suc k) (omega arith) ∙ ap (λ (j : ℕ). get_or xs j 0) (sym there)) in
    let here : a + 0 ≡ a = omega arith in
    let there : i + 0 ≡ i = omega arith in
    let head : get_or xs i 0 ≡ memory a = ap (λ (j : ℕ). get_or xs j 0) (sym there) ∙ sym first ∙ ap memory here in
    rw (next, head, rest) refl

pub number-like : (p : Pages) (a n i : ℕ) → a < 2 ^ 64 → place_of p.index (a / 4096) ≡ Some i →
    a % 4096 + n ≤ 4096 → (memory : ℕ → ℕ) →
    IsLike p memory → number_at p.bytes.items (i * 4096 + a % 4096) n ≡ little (memory_bytes memory a n)
number-like p a n i low found in_page memory like =
    little_from-is memory (drop (i * 4096 + a % 4096) p.bytes.items) n 0 a (omega arith)
    (λ k less.
    let page : (a + k) / 4096 ≡ a / 4096 = omega arith in
    let offset : i * 4096 + (a + k) % 4096 ≡ i * 4096 + a % 4096 + (0 + k) = omega arith in
    like.at (a + k) _ (page_byte-some p (a + k) i (ap (place_of p.index) page ∙ found))
    ∙ ap (λ (j : ℕ). get_or p.bytes.items j 0) offset
    ∙ sym (get_or-drop (i * 4096 + a % 4096) p.bytes.items (0 + k) 0))

-- One more page.
module _ (place next : ℕ → Option ℕ) (numbers bytes page : List ℕ) (n : ℕ) (held : (q i : ℕ) → place q ≡ Some i → i < length numbers)
    (is : (q : ℕ) → next q ≡ (if q == n then Some (length numbers) else place q)) where
  next-is : (q : ℕ) (t : Bool) → (q == n) ≡ t → next q ≡ (if t then Some (length numbers) else place q)
  next-is q t test = is q ∙ ap (λ b. if b then Some (length numbers) else place q) test

  pub sized_more : length bytes ≡ length numbers * 4096 → length page ≡ 4096 →
      length (bytes ++ page) ≡ length (numbers ++ n ∷ []) * 4096
  sized_more size whole = omega (arith, length-append numbers (n ∷ []), length-append bytes page)

  pub page_added : length bytes ≡ length numbers * 4096 → length page ≡ 4096 → (q : ℕ) →
      option_map (λ i. get_or (bytes ++ page) (i * 4096 + q % 4096) 0) (next (q / 4096))
      ≡ (if q / 4096 == n then Some (get_or page (q % 4096) 0)
      else option_map (λ i. get_or bytes (i * 4096 + q % 4096) 0) (place (q / 4096)))
  page_added size whole q = cases (q / 4096 == n) refl
    where
      old : (r : Option ℕ) → place (q / 4096) ≡ r →
          option_map (λ i. get_or (bytes ++ page) (i * 4096 + q % 4096) 0) r
          ≡ option_map (λ i. get_or bytes (i * 4096 + q % 4096) 0) r
      old None e = refl
      old (Some i) e =
          let here = held (q / 4096) i e in
          ap Some (get_or_append_left bytes page 0 (i * 4096 + q % 4096) (omega arith))

      cases : (t : Bool) → (q / 4096 == n) ≡ t →
          option_map (λ i. get_or (bytes ++ page) (i * 4096 + q % 4096) 0) (next (q / 4096))
          ≡ (if t then Some (get_or page (q % 4096) 0)
          else option_map (λ i. get_or bytes (i * 4096 + q % 4096) 0) (place (q / 4096)))
      cases true e =
          ap (option_map (λ i. get_or (bytes ++ page) (i * 4096 + q % 4096) 0)) (next-is (q / 4096) true e)
          ∙ ap Some (get_or-append_right bytes page (length numbers * 4096)
          (length numbers * 4096 + q % 4096) 0 size (omega arith)
          ∙ ap (λ (k : ℕ). get_or page k 0) {y = q % 4096} (omega arith))
      cases false e = ap (option_map (λ i. get_or (bytes ++ page) (i * 4096 + q % 4096) 0)) (next-is (q / 4096) false e)
          ∙ old (place (q / 4096)) refl

pub byte_in-added : (old : Pages) (index : PageIndex) (bytes : List ℕ) (n : ℕ) (page : List ℕ) → place_of old.index n ≡ None →
    ((q : ℕ) → place_of index q ≡ (if q == n then Some (length old.numbers.items) else place_of old.index q)) →
    bytes ≡ old.bytes.items
    ++ page → length page ≡ 4096 → (q : ℕ) →
    byte_in index bytes q ≡ (if q / 4096 == n then Some (get_or page (q % 4096) 0) else page_byte old q)
unfolding byte_in
byte_in-added old index bytes n page absent is added whole q =
    rw added (page_added (place_of old.index)
    (place_of index) old.numbers.items old.bytes.items page n old.held is old.sized whole q)

pub place-none : (p : Pages) (a : ℕ) → is_some (page_byte p a) ≡ false → place_of p.index (a / 4096) ≡ None
unfolding byte_in
place-none p a none = grind (arith, common_steps)

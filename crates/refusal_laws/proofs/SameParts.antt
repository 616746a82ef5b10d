-- A profile asks for the same hot and cold parts of the functions, whichever reading of the file it is taken with.
use Rattle.std.proofs.Common.{◌≡◌, ◌∙◌, refl, sym, ap, subst, ℕ, ◌+◌, ◌-◌, List, [], ◌∷◌, Option, Some, None, Bool, true, false}
use Rattle.std.proofs.Common.{drop, filter, length, map, take, if◌then◌else◌}
use Rattle.std.specs.Prelude.{◌==◌, ◌&&◌, Any, IsSomeAnd, IsTrue, bytes_eq, filter_map, find, is_some, nat_lt, option_and_then}
use Rattle.std.specs.Prelude.{slice_get, slice_index}
use Rattle.std.specs.List.{list_any, range_with_len}
use Rattle.std.specs.Option.{option_map_or}
use Rattle.rv_code.specs.declared.cell.CodeCell.{CodeCell}
use Rattle.rv_code.specs.declared.layout.Chains.{Chains}
use Rattle.rv_code.specs.declared.placed.Block.{Block}
use Rattle.rv_code.specs.declared.placed.Func.{Func}
use Rattle.rv_code.specs.declared.placed.Placed.{Placed}
use Rattle.rv_code.specs.layout.BlockOrders.{list_of}
use Rattle.rv_code.specs.layout.Edges.{AreEdges, AreTablePairs, IsEdge, IsEdgeIn, IsPairOf, IsTableJump, LeadsTo}
use Rattle.rv_code.specs.layout.Flow.{action_at, falls}
use Rattle.elf_image.specs.declared.elf.Elf.{Elf}
use Rattle.elf_image.specs.declared.symbol.Symbol.{Symbol}
use Rattle.elf_image.specs.file.Cuts.{names_function}
use Rattle.elf_readings.proofs.Alike.{Alike, bare_symbol, contains_alike}
use Rattle.edge_profile.specs.Grammar.{NamedPlace, branch_line, fields, lines, short_hex_number}
use Rattle.edge_profile.specs.Names.{address_at, code_address, function_start, named_value, only_value, value_of_name}
use Rattle.edge_profile.specs.PairCounts.{ArePairs, Counted, both_ends, count_among, count_in}
use Rattle.edge_profile.specs.Weights.{block_weight, weight}
use Rattle.block_layout.specs.EdgeCounts.{first_address, last_address}
use Rattle.block_layout.specs.Links.{AreLinks}
use Rattle.block_layout.specs.Parts.{AreChains, AreParts, IsFirstBlock}
use Rattle.bolt_core.specs.ProfileOrder.{ArePartsOf, cold_start, cold_starts}
use Rattle.refusal_laws.proofs.SameBlocks.{same_address}
use Rattle.refusal_laws.proofs.SameFunctions.{View, carry_some, same_any, same_at, same_insts, same_size, view}

some_by : {X : Type 0} (P Q : X → Type 0) → ((x : X) → P x → Q x) → (o : Option X) → IsSomeAnd o P → IsSomeAnd o Q
some_by P Q by None has = has
some_by P Q by (Some x) has = by x has

-- Edges.

module _ (fs gs : List Func) (same : map view fs ≡ map view gs) (cells : List CodeCell) where
  table_pair : (p : ℕ × ℕ) → IsPairOf fs cells p → IsPairOf gs cells p
  table_pair p pair =
      let (func, is_func, is) = contains_alike view fs gs same pair.func pair.is_func in
      record {
        func = func;
        is_func = is_func;
        jumps = subst (λ (v : View). Any (λ (q : Placed). (q.addr ≡ p.0) × IsTableJump q) v.3) is pair.jumps;
        goes_to = subst (λ (v : View). Any (λ (q : Placed). q.addr ≡ p.1) v.3) is pair.goes_to;
        named = pair.named;
      }

  leads_to : (f g : Func) → view f ≡ view g → (i : ℕ) (p : Placed) (a : ℕ) → LeadsTo (IsPairOf fs cells) f i p a →
      LeadsTo (IsPairOf gs cells) g i p a
  leads_to f g is i p a (LeadsTo.jumps ends to) = LeadsTo.jumps ends to
  leads_to f g is i p a (LeadsTo.falls_into does to) =
      LeadsTo.falls_into (subst (λ (v : View). IsTrue (falls (action_at p) (i + 1 == length v.3))) is does) to
  leads_to f g is i p a (LeadsTo.by_table pair) = LeadsTo.by_table (table_pair (p.addr, a) pair)

  last_leads : (i a : ℕ) (f g : Func) → view f ≡ view g →
      IsSomeAnd (slice_get f.insts.items i) (λ p. LeadsTo (IsPairOf fs cells) f i p a) →
      IsSomeAnd (slice_get g.insts.items i) (λ p. LeadsTo (IsPairOf gs cells) g i p a)
  last_leads i a f g is has =
      subst (λ (v : View). IsSomeAnd (slice_get v.3 i) (λ p. LeadsTo (IsPairOf gs cells) g i p a)) is
      (some_by (λ p. LeadsTo (IsPairOf fs cells) f i p a) (λ p. LeadsTo (IsPairOf gs cells) g i p a)
      (λ p. leads_to f g is i p a) (slice_get f.insts.items i) has)

  edge : (s t : Block) → IsEdge fs cells s t → IsEdge gs cells s t
  edge s t e = record {
    one_function = e.one_function;
    to = e.to;
    begins = carry_some view (λ func. IsSomeAnd (slice_get func.insts.items t.first) (λ p. p.addr ≡ e.to))
        (λ func. IsSomeAnd (slice_get func.insts.items t.first) (λ p. p.addr ≡ e.to))
        (λ f g is. subst (λ (v : View). IsSomeAnd (slice_get v.3 t.first) (λ p. p.addr ≡ e.to)) is) fs gs same t.func e.begins;
    leads = carry_some view (λ func. IsSomeAnd (slice_get func.insts.items s.last) (λ p. LeadsTo (IsPairOf fs cells) func s.last p e.to))
        (λ func. IsSomeAnd (slice_get func.insts.items s.last) (λ p. LeadsTo (IsPairOf gs cells) func s.last p e.to))
        (last_leads s.last e.to) fs gs same s.func e.leads;
  }

  edge_in : (blocks : List Block) (e : ℕ × ℕ) → IsEdgeIn fs cells blocks e → IsEdgeIn gs cells blocks e
  edge_in blocks e =
      some_by (λ s. IsSomeAnd (slice_get blocks e.1) (λ t. IsEdge fs cells s t))
      (λ s. IsSomeAnd (slice_get blocks e.1) (λ t. IsEdge gs cells s t))
      (λ s. some_by (IsEdge fs cells s) (IsEdge gs cells s) (edge s) (slice_get blocks e.1)) (slice_get blocks e.0)

module _ (fs gs : List Func) (same : map view fs ≡ map view gs) (cells : List CodeCell) where
  table_pairs : (pairs : List (ℕ × ℕ)) → AreTablePairs fs cells pairs → AreTablePairs gs cells pairs
  table_pairs pairs are = record {
    only = λ p is_in. table_pair fs gs same cells p (are.only p is_in);
    each = λ p is. are.each p (table_pair gs fs (sym same) cells p is);
    ordered = are.ordered;
  }

  edges : (blocks : List Block) (es : List (ℕ × ℕ)) → AreEdges fs cells blocks es → AreEdges gs cells blocks es
  edges blocks es are = record {
    only = λ e is_in. edge_in fs gs same cells blocks e (are.only e is_in);
    each = λ e is. are.each e (edge_in gs fs (sym same) cells blocks e is);
    ordered = are.ordered;
  }

-- Counts.

kept : {X Y A : Type 0} (v : X → Y) (test : Y → Bool) (h : Y → A) (xs : List X) →
    map (λ x. h (v x)) (filter (λ x. test (v x)) xs) ≡ map h (filter test (map v xs))
kept v test h [] = refl
kept v test h (x ∷ xs) = by (test (v x)) (kept v test h xs)
  where
    by : (b : Bool) → map (λ y. h (v y)) (filter (λ y. test (v y)) xs) ≡ map h (filter test (map v xs)) →
        map (λ y. h (v y)) (if b then x ∷ filter (λ y. test (v y)) xs else filter (λ y. test (v y)) xs)
        ≡ map h (if b then v x ∷ filter test (map v xs) else filter test (map v xs))
    by true rest = ap (λ zs. h (v x) ∷ zs) rest
    by false rest = rest

module _ (e e' : Elf) (alike : Alike e e') (fs gs : List Func) (same : map view fs ≡ map view gs) where
  named : (name : List ℕ) → named_value e.symbols.items name ≡ named_value e'.symbols.items name
  named name =
      let test : Symbol → Bool = λ s. names_function s && bytes_eq s.name.now name in
      ap only_value (kept bare_symbol test (λ s. s.value) e.symbols.items
      ∙ ap (λ (xs : List Symbol). map (λ s. s.value) (filter test xs)) alike.symbols
      ∙ sym (kept bare_symbol test (λ s. s.value) e'.symbols.items))

  starts : (digits : List ℕ) → function_start fs digits ≡ function_start gs digits
  starts digits = λ i.
      option_and_then (λ a. if same_any view fs gs same (λ (v : View). v.0 == a) i then Some a else None) (short_hex_number digits)

  value : (name : List ℕ) → value_of_name e.symbols.items fs name ≡ value_of_name e'.symbols.items gs name
  value name = λ i. if slice_index name 0 == 64 then starts (drop 1 name) i else named name i

  coded : (a : ℕ) → code_address fs a ≡ code_address gs a
  coded a = λ i. if is_some (find (λ p. p.addr == a) (same_insts fs gs same i)) then Some a else None

  addressed : (place : NamedPlace) → address_at e.symbols.items fs place ≡ address_at e'.symbols.items gs place
  addressed place = λ i. option_and_then (λ start. coded (start + place.offset) i) (value place.name i)

  pub same_counts : (text : List ℕ) → count_in text e fs ≡ count_in text e' gs
  same_counts text = λ i from to.
      count_among from to
      (filter_map
      (λ line. option_and_then (λ l. both_ends (addressed l.from i) (addressed l.to i) l.count) (branch_line (fields line)))
      (lines text))

-- Parts.

module _ (fs gs : List Func) (same : map view fs ≡ map view gs) (blocks : List Block) where
  first : (k : ℕ) → first_address fs blocks k ≡ first_address gs blocks k
  first k = λ i. option_map_or (λ (b : Block). same_address fs gs same b b.first i) (slice_get blocks k) 0

  last : (k : ℕ) → last_address fs blocks k ≡ last_address gs blocks k
  last k = λ i. option_map_or (λ (b : Block). same_address fs gs same b b.last i) (slice_get blocks k) 0

  weighed : (pairs : List Counted) (b : Block) → block_weight pairs fs b ≡ block_weight pairs gs b
  weighed pairs b =
      ap (weight pairs) (same_at view fs gs same (λ (v : View). take (b.last + 1 - b.first) (drop b.first v.3)) [] b.func)

  chains : (counts counts' : ℕ → ℕ → ℕ) → counts ≡ counts' → (pairs : List Counted) (es : List (ℕ × ℕ)) (parts : Chains) →
      AreChains counts pairs fs blocks es parts → AreChains counts' pairs gs blocks es parts
  chains counts counts' is pairs es parts are = record {
    links = are.links;
    links_are = subst (λ (count : ℕ × ℕ → ℕ). AreLinks es count (IsFirstBlock blocks) are.links)
        (λ i e. is i (last e.0 i) (first e.1 i)) are.links_are;
    parts_are = subst (λ (t : (ℕ → Bool) × ℕ × (ℕ → ℕ)). AreParts t.0 t.1 blocks t.2 are.links parts)
        (λ i. (
          λ f. list_any (λ b. b.func == f && nat_lt 0 (weighed pairs b i)) blocks,
          same_size fs gs same i,
          λ k. option_map_or (λ b. weighed pairs b i) (slice_get blocks k) 0,
        )) are.parts_are;
  }

  pub same_parts : (counts counts' : ℕ → ℕ → ℕ) → counts ≡ counts' → (pairs : List Counted) (cells : List CodeCell)
      (parts : Chains) → ArePartsOf counts pairs fs cells blocks parts → ArePartsOf counts' pairs gs cells blocks parts
  same_parts counts counts' is pairs cells parts are = record {
    pairs_are = subst (λ (c : ℕ → ℕ → ℕ). ArePairs c pairs) is are.pairs_are;
    targets = are.targets;
    targets_are = table_pairs fs gs same cells are.targets are.targets_are;
    edges = are.edges;
    edges_are = edges fs gs same cells blocks are.edges are.edges_are;
    chains = chains counts counts' is pairs are.edges parts are.chains;
  }

  cold : (hot cold : List ℕ) → cold_start fs blocks hot cold ≡ cold_start gs blocks hot cold
  cold [] cs = refl
  cold (h ∷ hs) [] = refl
  cold (h ∷ hs) (c ∷ cs) = ap Some (first c)

  pub same_cold_starts : (parts : Chains) → cold_starts fs blocks parts ≡ cold_starts gs blocks parts
  same_cold_starts parts = λ i.
      filter_map (λ f. cold (list_of parts.hot.items f) (list_of parts.cold.items f) i) (range_with_len 0 (same_size fs gs same i))

use Rattle.std.proofs.Common.{◌≡◌, ◌∙◌, ap, append_assoc, refl, subst, ℕ, List, [], ◌∷◌, ◌++◌, Option, Some, None, Vec, map}
use Rattle.std.specs.Prelude.{IfSome, codes, if◌then◌else◌, is_some, option_map}
use Rattle.frame_rewrite.specs.Index.{has_frames}
use Rattle.std.specs.declared.alloc.Global.{Global}
use Rattle.bolt_core.specs.GivenTables.{DebugContents, ReadTable, debug_listed, table_if, table_seen}
use Rattle.bolt_core.specs.internal.CarriedTables.{debug_contents}
use Rattle.bolt_core.specs.internal.GivenIndex.{IsIndexFor}
use Rattle.bolt_core.proofs.table_list.listed.Goals as goal

abbrev Seen : Type 0
Seen = List (List ℕ × List ℕ)

abbrev contents : Option (Vec ℕ Global) → Option (List ℕ)
contents o = option_map (λ (bytes : Vec ℕ Global). bytes.items) o

still_there : (o : Option (Vec ℕ Global)) → is_some (contents o) ≡ is_some o
still_there None = refl
still_there (Some bytes) = refl

still : (P : List ℕ → Type 0) (o : Option (Vec ℕ Global)) → IfSome o (λ (bytes : Vec ℕ Global). P bytes.items) → IfSome (contents o) P
still P None h = tt
still P (Some bytes) h = h

-- one more table is added after the others
added : (front xs old new more : Seen) → new ≡ old ++ more → old ≡ front ++ xs → new ≡ front ++ (xs ++ more)
added front xs old new more e f = e ∙ ap (λ (ys : Seen). ys ++ more) f ∙ append_assoc front xs more

-- debug tables are added one after another, and the table of ranges after them
listed_is : (front : Seen) (d : DebugContents) (ranges : Option (List ℕ)) (t2 t3 t4 t5 t6 t7 t8 t9 t10 : Seen) → t2 ≡ front →
    t3 ≡ t2 ++ (codes ".debug_info", d.info) ∷ [] → t4 ≡ t3 ++ (codes ".debug_abbrev", d.abbrevs) ∷ [] →
    t5 ≡ t4 ++ (codes ".debug_addr", d.addr) ∷ [] → t6 ≡ t5 ++ (codes ".debug_line", d.lines) ∷ [] →
    t7 ≡ t6 ++ (codes ".debug_loclists", d.locations) ∷ [] → t8 ≡ t7 ++ (codes ".debug_aranges", d.aranges) ∷ [] →
    t9 ≡ t8 ++ (codes ".debug_frame", d.frames) ∷ [] → t10 ≡ t9 ++ table_if (codes ".debug_rnglists") ranges →
    t10 ≡ front ++ (debug_listed d ++ table_if (codes ".debug_rnglists") ranges)
listed_is front d ranges t2 t3 t4 t5 t6 t7 t8 t9 t10 e2 e3 e4 e5 e6 e7 e8 e9 e10 =
    let info = e3 ∙ ap (λ (xs : Seen). xs ++ (codes ".debug_info", d.info) ∷ []) e2 in
    let abbrevs = added front _ t3 t4 _ e4 info in
    let addr = added front _ t4 t5 _ e5 abbrevs in
    let lines = added front _ t5 t6 _ e6 addr in
    let locations = added front _ t6 t7 _ e7 lines in
    let aranges = added front _ t7 t8 _ e8 locations in
    let frames = added front _ t8 t9 _ e9 aranges in
    added front (debug_listed d) t9 t10 (table_if (codes ".debug_rnglists") ranges) e10 frames

pub returns : goal.returns
returns c =
    let frames : Option (List ℕ) = contents c.loaded.result in
    let index : Option (List ℕ) = contents c.in_ok-index.index in
    let ranges : Option (List ℕ) = contents c.ranges_if.result in
    let front : Seen = table_if (codes ".eh_frame") frames ++ table_if (codes ".eh_frame_hdr") index in
    let is : map table_seen c.add_table-10.new.tables.items
    ≡ front ++ (debug_listed (debug_contents c.args.written) ++ table_if (codes ".debug_rnglists") ranges) =
    listed_is front (debug_contents c.args.written) ranges _ _ _ _ _ _ _ _ _
    (c.in_ok-add_table-2.ensures ∙ ap (λ (xs : Seen). xs ++ table_if (codes ".eh_frame_hdr") index)
    (c.in_ok-add_table.ensures
    ∙ ap (λ (xs : List ReadTable). map table_seen xs ++ table_if (codes ".eh_frame") frames) c.new-tables.ensures.items))
    c.in_ok-add_table-3.ensures c.in_ok-add_table-4.ensures c.in_ok-add_table-5.ensures c.in_ok-add_table-6.ensures
    c.in_ok-add_table-7.ensures c.in_ok-add_table-8.ensures c.in_ok-add_table-9.ensures c.in_ok-add_table-10.ensures in
    record {
      index = index;
      are = is
          ∙ ap (λ (o : Option (List ℕ)). (table_if (codes ".eh_frame") o ++ table_if (codes ".eh_frame_hdr") index)
          ++ (debug_listed (debug_contents c.args.written) ++ table_if (codes ".debug_rnglists") ranges)) c.loaded.ensures
          ∙ ap (λ (o : Option (List ℕ)). (table_if (codes ".eh_frame")
          (if has_frames c.args.elf.now then Some c.args.written.eh.bytes.items else None)
          ++ table_if (codes ".eh_frame_hdr") index)
          ++ (debug_listed (debug_contents c.args.written) ++ table_if (codes ".debug_rnglists") o)) c.ranges_if.ensures;
      there = still_there c.in_ok-index.index ∙ c.in_ok-index.ensures.there;
      index_is =
          still (IsIndexFor c.args.start c.args.code c.args.written.eh.bytes.items) c.in_ok-index.index
          (subst (λ (bytes : List ℕ). IfSome c.in_ok-index.index
          (λ (w : Vec ℕ Global). IsIndexFor c.args.start c.args.code bytes w.items)) c.deref.ensures.value c.in_ok-index.ensures.index);
    }

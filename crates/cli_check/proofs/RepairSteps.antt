-- The conditions of the steps of a repair, and their joint result.
use Rattle.std.proofs.Common.{◌≡◌, ◌∙◌, ◌<◌, ◌^◌, ◌≤◌, ℕ, List, None, sym, subst, length}
use Rattle.rb_bytes.specs.declared.fault.FaultKind.TheVariants.{Truncated}
use Rattle.rb_bytes.specs.declared.fault.Refusal.{Refusal}
use Rattle.rb_bytes.specs.declared.fault.Refusal.TheVariants as refusal
use Rattle.rv_code.specs.declared.cell.CodeCell.{CodeCell}
use Rattle.rv_code.specs.declared.placed.Block.{Block}
use Rattle.rv_code.specs.declared.placed.Func.{Func}
use Rattle.rv_code.specs.layout.Edges.{AreEdges, AreTablePairs}
use Rattle.rv_code.specs.layout.FunctionLists.{AreLaidOut}
use Rattle.elf_image.specs.faults.Truncation.{IsReadable}
use Rattle.elf_image.proofs.LowestPlaces.{IsLowest-none}
use Rattle.elf_image.proofs.ReadableFiles.{lowest-readable}
use Rattle.cfg_build.specs.EdgeLists.{AreStretches}
use Rattle.cfg_build.specs.NamedAddresses.{code_of}
use Rattle.cfg_build.proofs.layout.BlockPartition.{AreStretches-blocks}
use Rattle.edge_profile.specs.BlockPlaces.{AreBlocksApart}
use Rattle.edge_profile.specs.PairCounts.{ArePairs, Counted, count_in, total_count}
use Rattle.edge_profile.specs.Profile.{pairs_of, profile_counts}
use Rattle.edge_profile.specs.declared.profile.Profile.{Profile}
use Rattle.edge_profile.proofs.BlockLists.{AreApart-blocks}
use Rattle.edge_text.specs.EdgeText.{IsEdgeText}
use Rattle.flow_infer.specs.declared.flow.Flow.{Flow}
use Rattle.flow_infer.specs.declared.flow.Link.{Link}
use Rattle.flow_infer.specs.Flows.{change}
use Rattle.flow_infer.specs.Repairs.{IsRepaired}
use Rattle.flow_infer.specs.Sources.{JoinBlocks}
use Rattle.flow_infer.proofs.JoinedBlocks.{edges_join}
use Rattle.flow_text.specs.LinkLists.{AreBlocksOf, AreCodePairs, AreLinksOf}
use Rattle.flow_text.specs.RepairedCounts.{repaired_count}
use Rattle.flow_text.specs.Report.{report}
use Rattle.flow_text.proofs.ChangeBound.{change_fits}
use Rattle.flow_text.proofs.ProfilePairs.{code_pairs, repaired_links}
use Rattle.program.specs.Program.{program_seen}
use Rattle.program.specs.Refusals.{IsRefusalFor}
use Rattle.program.specs.declared.program.Program.{Program}
use Rattle.program.specs.Limits.{file_limit}
use Rattle.program.proofs.Programs.{laid_out}
use Rattle.cli_base.specs.ProgramFiles.{IsFileProgram, IsNoProgram}
use Rattle.cli_check.specs.RepairedFiles.{CannotRepair, IsRepairOf, no_program}

-- a profile of a file that isn't a program isn't repaired
pub no_program_refused : (file given profile : List ℕ) → given ≡ file → length profile ≤ file_limit → (r : Refusal) →
    IsRefusalFor (IsNoProgram given) r → IsRefusalFor (CannotRepair file profile) r
no_program_refused file given profile same fits (refusal.Fault fault) is =
    no_program fits (subst (λ (f : List ℕ). IsNoProgram f fault) same is)
no_program_refused file given profile same fits refusal.Memory is = tt

-- the program of a file that was passed as a slice
pub program_again : (file : List ℕ) (p : Program) → IsFileProgram file (program_seen p) →
    IsFileProgram p.elf.file.now (program_seen p)
program_again file p is = subst (λ (f : List ℕ). IsFileProgram f (program_seen p)) (sym is.program.faultless.read.file_is) is

-- a repair of a file and a profile that were passed as slices
pub repair_again : (file given profile given_profile written printed : List ℕ) (p : Program) → given ≡ file →
    given_profile ≡ profile → IsFileProgram given (program_seen p) →
    IsRepairOf p.elf.file.now given_profile written printed → IsRepairOf file profile written printed
repair_again file given profile given_profile written printed p same same_profile is made =
    subst (λ (q : List ℕ). IsRepairOf file q written printed) same_profile
    (subst (λ (f : List ℕ). IsRepairOf f given_profile written printed) (is.program.faultless.read.file_is ∙ same) made)

module _ (p : Program) (is : IsFileProgram p.elf.file.now (program_seen p)) where
  pub readable : IsReadable p.elf.file.now
  readable =
      let plain = is.program.faultless.plain in
      lowest-readable p.elf.file.now None (IsLowest-none (λ place truncated. plain.sound Truncated place truncated))

  -- The functions and blocks of the program, as slices.
  module _ (funcs : List Func) (blocks : List Block) (funcs_are : funcs ≡ p.funcs.items) (blocks_are : blocks ≡ p.blocks.items) where
    pub laid : AreLaidOut funcs
    laid = subst AreLaidOut (sym funcs_are)
        (laid_out p.elf.file.now p.elf is.program.faultless p.funcs.items is.program.code_is.funcs)

    pub stretches : AreStretches funcs blocks
    stretches =
        subst (λ (fs : List Func). AreStretches fs blocks) (sym funcs_are)
        (subst (AreStretches p.funcs.items) (sym blocks_are)
        (AreStretches-blocks (program_seen p).code p.blocks.items is.program.blocks_are))

    pub blocks_of : AreBlocksOf funcs blocks
    blocks_of = record {
      stretches = stretches;
      apart = subst AreBlocksApart (sym blocks_are) (AreApart-blocks (program_seen p).code p.blocks.items is.program.blocks_are);
    }

    -- the edges, by targets of jumps through tables
    pub edges_are : (cells : List CodeCell) (targets given edges : List (ℕ × ℕ)) → cells ≡ p.refs.cells.items →
        given ≡ targets → AreTablePairs funcs cells targets →
        ((cs : List CodeCell) → AreTablePairs funcs cs given → AreEdges funcs cs blocks edges) →
        AreEdges p.funcs.items p.refs.cells.items p.blocks.items edges
    edges_are cells targets given edges same_cells same_targets tables by =
        subst (λ (bs : List Block). AreEdges p.funcs.items p.refs.cells.items bs edges) blocks_are
        (subst (λ (fs : List Func). AreEdges fs p.refs.cells.items blocks edges) funcs_are
        (by p.refs.cells.items (subst (AreTablePairs funcs p.refs.cells.items) (sym same_targets)
        (subst (λ (cs : List CodeCell). AreTablePairs funcs cs targets) same_cells tables))))

    -- The edges, as a slice.
    module _ (found edges : List (ℕ × ℕ)) (same_edges : edges ≡ found)
        (found_are : AreEdges p.funcs.items p.refs.cells.items p.blocks.items found) where
      pub joined : JoinBlocks blocks edges
      joined =
          subst (λ (bs : List Block). JoinBlocks bs edges) (sym blocks_are)
          (subst (JoinBlocks p.blocks.items) (sym same_edges)
          (edges_join p.funcs.items p.refs.cells.items p.blocks.items found found_are))

      module _ (profile : List ℕ) (counts : Profile) (pairs : List Counted)
          (same : (x y : ℕ) → profile_counts counts x y ≡ count_in profile p.elf funcs x y)
          (exact : ArePairs (profile_counts counts) pairs) (value : pairs ≡ pairs_of counts) (few : total_count pairs < 2 ^ 100)
        where
          pub pairs_code : AreCodePairs funcs pairs
          pairs_code = code_pairs profile p.elf funcs (profile_counts counts) pairs exact same

          module _ (flow : Flow) (repaired : IsRepaired (code_of funcs p.refs p.elf.entry) blocks edges (pairs_of counts) flow) where
            links_ordered : AreLinksOf blocks flow.links.items
            links_ordered = repaired_links (code_of funcs p.refs p.elf.entry) blocks edges (pairs_of counts) flow joined repaired

            pub links_of : (links : List Link) → links ≡ flow.links.items → AreLinksOf blocks links
            links_of links links_are = subst (AreLinksOf blocks) (sym links_are) links_ordered

            pub fits : change flow.links.items < 2 ^ 128
            fits = change_fits (code_of funcs p.refs p.elf.entry) blocks edges (pairs_of counts) flow laid blocks_of links_ordered
                repaired (subst (λ (ps : List Counted). total_count ps < 2 ^ 100) value few)

            pub whole : length profile ≤ file_limit → (links : List Link) → links ≡ flow.links.items → (written printed : List ℕ)
                → IsEdgeText p.elf funcs (repaired_count funcs blocks links pairs) written → printed ≡ report funcs blocks flow
                → IsRepairOf p.elf.file.now profile written printed
            whole short links links_are written printed said shown = record {
              profile_fits = short;
              program = program_seen p;
              program_is = is;
              edges = edges;
              edges_are = subst (AreEdges p.funcs.items p.refs.cells.items p.blocks.items) (sym same_edges) found_are;
              pairs = pairs;
              pairs_are = subst (λ (fs : List Func). ArePairs (count_in profile p.elf fs) pairs) funcs_are
                  (subst (λ (f : ℕ → ℕ → ℕ). ArePairs f pairs) (λ i x y. same x y i) exact);
              flow = flow;
              repaired = subst (λ (bs : List Block). IsRepaired (program_seen p).code bs edges pairs flow) blocks_are
                  (subst (λ (fs : List Func). IsRepaired (code_of fs p.refs p.elf.entry) blocks edges pairs flow) funcs_are
                  (subst (λ (ps : List Counted). IsRepaired (code_of funcs p.refs p.elf.entry) blocks edges ps flow) (sym value) repaired));
              written_is = subst (λ (bs : List Block). IsEdgeText p.elf p.funcs.items
                  (repaired_count p.funcs.items bs flow.links.items pairs) written) blocks_are
                  (subst (λ (fs : List Func). IsEdgeText p.elf fs (repaired_count fs blocks flow.links.items pairs) written) funcs_are
                  (subst (λ (ls : List Link). IsEdgeText p.elf funcs (repaired_count funcs blocks ls pairs) written) links_are said));
              printed_is = subst (λ (bs : List Block). printed ≡ report p.funcs.items bs flow) blocks_are
                  (subst (λ (fs : List Func). printed ≡ report fs blocks flow) funcs_are shown);
            }

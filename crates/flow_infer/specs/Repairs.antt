-- A repaired profile: flows on all links that balance, with prices that show that they change the counts least; of all
-- such flows, one that lowers counts least, so that code that ran is still counted as code that ran.
use Rattle.std.specs.Prelude.{◌≡◌, ℕ, List, length}
use Rattle.rv_code.specs.declared.placed.Block.{Block}
use Rattle.rv_code.specs.layout.ProgramCode.{ProgramCode}
use Rattle.edge_profile.specs.PairCounts.{Counted}
use Rattle.flow_infer.specs.declared.flow.Flow.{Flow}
use Rattle.flow_infer.specs.Flows.{AllHold, Balances, LowersLeast}
use Rattle.flow_infer.specs.Links.{AreLinks}

pub record IsRepaired (code : ProgramCode) (blocks : List Block) (edges : List (ℕ × ℕ)) (pairs : List Counted)
    (flow : Flow) : Type 0 where
  pub links : AreLinks code blocks edges pairs flow.links.items
  pub balances : Balances flow.links.items
  pub priced : length flow.prices.items ≡ length blocks
  pub hold : AllHold flow.prices.items flow.links.items
  pub lowers : LowersLeast flow.links.items

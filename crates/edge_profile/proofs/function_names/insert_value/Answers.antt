use Rattle.std.proofs.Common.{◌≡◌, ℕ, Option}
use Rattle.std.proofs.lemmas.Map.Text.{hash_map_updates_str}
use Rattle.rb_bytes.proofs.ListLemmas.{if_found}
use Rattle.edge_profile.specs.Names.{named_value}
use Rattle.edge_profile.proofs.KnownValues.{values-more}
use Rattle.edge_profile.proofs.function_names.insert_value.Goals as goal

pub returns : goal.returns
returns c = λ symbols right were.
    values-more symbols c.args.values.now c.insert.new.self c.args.name.now c.in-Some.value
    (λ other. hash_map_updates_str c.args.name.now c.args.values.now c.insert.new.self _ c.in_ok-insert.ensures.updates other)
    (if_found (λ (v : Option ℕ). v ≡ named_value symbols c.args.name.now) c.args.value c.in-Some.value c.in-Some.is right) were

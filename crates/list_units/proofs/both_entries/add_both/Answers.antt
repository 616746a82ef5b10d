use Rattle.list_units.proofs.both_entries.add_both.Goals as goal

pub returns : goal.returns
returns c = λ s ws w at i a b l ranged placed reads. (
  c.in_ok-add_reading.ensures s ws w at b a ranged reads,
  c.in_ok-add_reading-2.ensures s ws w at i a b l placed reads,
)

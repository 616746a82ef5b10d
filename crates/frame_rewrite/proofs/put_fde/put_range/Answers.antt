use Rattle.frame_rewrite.proofs.put_fde.put_range.Goals as goal

pub returns-in-Debug-clause-written : goal.returns-in-Debug-clause-written
returns-in-Debug-clause-written c = rw c.in-Debug.is (c.put_words.ensures c.args.place)

use Rattle.insertion.proofs.under.+insert_under.Given as goal

abbrev pub decreases-insert-under : goal.decreases-insert-under
decreases-insert-under g l = l.level

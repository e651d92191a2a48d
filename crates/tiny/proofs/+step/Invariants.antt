use Rattle.tiny.proofs.+step.Given as goal

abbrev pub decreases-step : goal.decreases-step
decreases-step l = l.at

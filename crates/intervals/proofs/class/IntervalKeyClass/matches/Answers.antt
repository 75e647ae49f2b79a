use Rattle.intervals.proofs.Points.{meets_points}
use Rattle.intervals.proofs.class.IntervalKeyClass.matches.Goals as goal

pub returns-in-Meets-clause-points : goal.returns-in-Meets-clause-points
returns-in-Meets-clause-points c = rw (c.meets.ensures, c.in-Meets.is) (meets_points c.args.self.now c.in-Meets.q)

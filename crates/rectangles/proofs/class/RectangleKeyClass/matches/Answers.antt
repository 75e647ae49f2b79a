use Rattle.rectangles.proofs.Points.{covers_points, meets_points}
use Rattle.rectangles.proofs.class.RectangleKeyClass.matches.Goals as goal

pub returns-in-Meets-clause-points : goal.returns-in-Meets-clause-points
returns-in-Meets-clause-points c = rw (c.meets.ensures, c.in-Meets.is) (meets_points c.args.self.now c.in-Meets.q)

pub returns-in-Inside-clause-points : goal.returns-in-Inside-clause-points
returns-in-Inside-clause-points c = rw (c.contains.ensures, c.in-Inside.is) (covers_points c.in-Inside.q c.args.self.now)

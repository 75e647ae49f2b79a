use Rattle.rectangles.proofs.Points.{covers_points}
use Rattle.rectangles.proofs.class.RectangleKeyClass.covers.Goals as goal

pub returns-clause-points : goal.returns-clause-points
returns-clause-points c = rw c.contains.ensures (covers_points c.args.self.now c.args.other.now)

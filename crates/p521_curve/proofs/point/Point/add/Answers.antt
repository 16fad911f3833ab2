use Rattle.p521_curve.proofs.AdditionLemmas.{point_add-made}
use Rattle.p521_curve.proofs.point.Point.add.Goals as goal

pub returns : goal.returns
returns c =
    point_add-made c.args.self.now c.args.other.now _ _ _ _ _ _ _ _ _ _ _ _ _ _ _ _ _ _ _ _ _ _ _ _ _ _ _ _ _ _ _ _ _ _ _ _ _ _ _ _ _ _ _ _ c.b_of_curve-b.ensures
    c.mul-t0.ensures c.mul-t1.ensures c.mul-t2.ensures c.add-t3.ensures c.add-t4.ensures c.mul-t3a.ensures c.add-t4a.ensures c.sub-t3b.ensures c.add-t4b.ensures c.add-x3.ensures c.mul-t4c.ensures c.add-x3a.ensures c.sub-t4d.ensures c.add-x3b.ensures c.add-y3.ensures c.mul-x3c.ensures c.add-y3a.ensures c.sub-y3b.ensures c.mul-z3.ensures c.sub-x3d.ensures c.add-z3a.ensures c.add-x3e.ensures c.sub-z3b.ensures c.add-x3f.ensures c.mul-y3c.ensures c.add-t1a.ensures c.add-t2a.ensures c.sub-y3d.ensures c.sub-y3e.ensures c.add-t1b.ensures c.add-y3f.ensures c.add-t1c.ensures c.add-t0a.ensures c.sub-t0b.ensures c.mul-t1d.ensures c.mul-t2b.ensures c.mul-y3g.ensures c.add-y3h.ensures c.mul-x3g.ensures c.sub-x3h.ensures c.mul-z3c.ensures c.mul-t1e.ensures c.add-z3d.ensures

-- Answers the goals of `Scene::bounds`.
use Rattle.std.proofs.Common.{◌∙◌, ap}
use Rattle.engrave_model.specs.Drawing.{edges_of}
use Rattle.depth_rule.proofs.Boxes.{box_of_drawing}
use Rattle.depth_rule.proofs.scene.Scene.bounds.Goals as goal

pub returns : goal.returns
returns c = box_of_drawing c.args.self.now _ _ (c.all_edges.ensures.edges ∙ ap edges_of c.self.view_is) c.bounds_of_starts.ensures

use Rattle.std.proofs.Common.{◌<◌, map, sym, subst, refl}
use Rattle.std.proofs.lemmas.List.{length-map}
use Rattle.ms_postorder.proofs.Moves.{frame_node, step_leaves}
use Rattle.ms_postorder.proofs.search.Search.step.Goals as goal

pub target-requires : goal.target-requires
target-requires c = subst (λ n. c.args.frame.node < n) (length-map c.args.graph.now (λ v. v.items)) (frame_node c.args.frame c.requires)

pub follow-requires-clause-inside : goal.follow-requires-clause-inside
follow-requires-clause-inside c =
    subst (λ n. c.in-Some.target < n) (sym c.requires.size)
    (c.requires.leads c.args.frame.node c.in-Some.target (c.args.frame.followed, sym c.in-Some.ensures.value))

pub returns-in_ok-push-in-None : goal.returns-in_ok-push-in-None
returns-in_ok-push-in-None c =
    step_leaves (map (λ v. v.items) c.args.graph.now) c.args.frame c.args.self.now _ c.requires (sym c.in-None.ensures.value) refl refl c.in_ok-push-in-None.ensures.items

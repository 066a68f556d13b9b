use Rattle.std.proofs.Common.{false, ◌∙◌, refl}
use Rattle.std.proofs.lemmas.Result.{IfOk-weaker}
use Rattle.ms_postorder.proofs.Moves.{read_is, step_new, step_seen}
use Rattle.ms_postorder.proofs.search.Search.follow.Goals as goal

pub returns-then-index : goal.returns-then-index
returns-then-index c = λ g h e.
    step_seen g c.args.frame c.args.self.now _ c.args.target h e
    (read_is c.args.self.now.seen.items c.args.target c.index.result.now false c.requires.inside c.index.ensures ∙ c.if-index.true)
    refl c.in_ok-push.ensures.items refl

pub returns : goal.returns
returns c = λ g h e.
    IfOk-weaker c.enter.result _ _ (λ x t. step_new g c.args.frame c.args.self.now _ c.enter.new.self c.args.target h e
    (read_is c.args.self.now.seen.items c.args.target c.index.result.now false c.requires.inside c.index.ensures ∙ c.if-index.false)
    refl c.in_ok-push.ensures.items refl t) c.enter.ensures

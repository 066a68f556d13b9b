use Rattle.std.proofs.Common.{sym, ◌∙◌, refl}
use Rattle.ms_order.proofs.Seeing.{flag_visited, not_flag, other_visited, read_is}
use Rattle.ms_order.proofs.finder.Finder.visit.Goals as goal

pub returns-in_ok-push : goal.returns-in_ok-push
returns-in_ok-push c = λ g start node h met.
    flag_visited g c.args.flags.now start node c.args.self.now _ c.args.target h met c.requires.inside
    (λ s. c.if-index-self.false (sym (read_is c.args.self.now.marks.items c.args.target c.index.result.now 0 c.requires.inside c.index.ensures) ∙ s))
    c.if-flags-target.true
    refl refl refl c.in_ok-push.ensures.items

pub returns-in_ok-push-2 : goal.returns-in_ok-push-2
returns-in_ok-push-2 c = λ g start node h met.
    other_visited g c.args.flags.now start node c.args.self.now _ c.args.target h met c.requires.inside
    (λ s. c.if-index-self.false (sym (read_is c.args.self.now.marks.items c.args.target c.index.result.now 0 c.requires.inside c.index.ensures) ∙ s))
    (not_flag c.args.flags.now c.args.target c.if-flags-target.false)
    refl refl c.in_ok-push-2.ensures.items refl

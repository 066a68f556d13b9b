use Rattle.std.proofs.Common.{◌≡◌, ◌∙◌, ◌+◌, ◌++◌, ◌∷◌, [], ap, sym, subst, refl, arith}
use Rattle.ms_trees.specs.Size.{size_of}
use Rattle.ms_boxes.specs.Boxes.{box_of}
use Rattle.ms_boxes.specs.Trees.{IsConstraint}
use Rattle.ms_session.specs.Scopes.{with_constraint}
use Rattle.ms_session.specs.Stored.{state_of}
use Rattle.ms_session.proofs.Stacks.{sound_posted, posts_from}
use Rattle.ms_session.proofs.plain_scopes.PlainScopes.add_constraint.Goals as goal

pub invariant_of-self-2 : goal.invariant_of-self-2
invariant_of-self-2 c =
    let more : c.push_reserved.new.self.items ≡ c.self.inside.constraints.items ++ c.args.constraint.now ∷ [] = c.push_reserved.ensures.items ∙ ap (λ q. q ++ c.in_ok-copied.copied ∷ []) c.in_ok-reserve.ensures.items ∙ ap (λ g. c.self.inside.constraints.items ++ g ∷ []) c.in_ok-copied.ensures in
    let fit = subst (λ q. IsConstraint (state_of q).sets c.args.constraint.now) (sym c.self.view_is) c.requires.fit in
    let e = c.size.ensures in
    let total = c.requires.total in
    let counted : c.size.result ≡ size_of c.args.constraint.now = omega (arith, e, total) in
    sound_posted (box_of c.self.inside.declared) c.self.inside.constraints.items c.push_reserved.new.self.items c.args.constraint.now c.self.inside.current (record (c.self.inside.current) { live = c.self.inside.current.live + c.size.result }) c.self.inside.parents.items c.self.invariant fit more (ap (λ n. c.self.inside.current.live + n) counted) refl

pub returns-clause-ok : goal.returns-clause-ok
returns-clause-ok c =
    let more : c.push_reserved.new.self.items ≡ c.self.inside.constraints.items ++ c.args.constraint.now ∷ [] = c.push_reserved.ensures.items ∙ ap (λ q. q ++ c.in_ok-copied.copied ∷ []) c.in_ok-reserve.ensures.items ∙ ap (λ g. c.self.inside.constraints.items ++ g ∷ []) c.in_ok-copied.ensures in
    posts_from c.self.inside.declared c.self.inside.branching c.self.inside.constraints.items c.push_reserved.new.self.items c.args.constraint.now c.self.inside.current (record (c.self.inside.current) { live = c.self.inside.current.live + c.size.result }) c.self.inside.parents.items c.self.inside.failed c.self.invariant more refl
    ∙ ap (λ q. with_constraint (state_of q) c.args.constraint.now) c.self.view_is

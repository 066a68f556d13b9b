use Rattle.std.proofs.Common.{◌≡◌, ◌∙◌, ◌++◌, ◌∷◌, [], ◌+◌, ◌<◌, ap, sym, subst, length}
use Rattle.ms_boxes.specs.Boxes.{box_of}
use Rattle.ms_session.specs.Scopes.{Enters}
use Rattle.ms_session.specs.Stored.{AreSound, state_of}
use Rattle.ms_session.specs.declared.plain_scope.Parent.{Parent}
use Rattle.ms_session.proofs.Stacks.{sound_from, sound_pushed, enters_from, stored, parent}
use Rattle.ms_session.proofs.plain_scopes.PlainScopes.add_scope.Goals as goal

-- the scopes below with the one that was current
pushed : (c : goal.After-push_reserved) → c.push_reserved.new.self.items ≡ c.self.inside.parents.items ++ parent c.self.inside.constraints.items c.self.inside.current ∷ []
pushed c =
    let old : Parent = record { scope = c.replace-scope.result; posted = c.len-posted.result } in
    let same : old ≡ parent c.self.inside.constraints.items c.self.inside.current = ap (λ q. record old { scope = q }) c.replace-scope.ensures.value ∙ ap (λ n. record (parent c.self.inside.constraints.items c.self.inside.current) { posted = n }) (c.len-posted.ensures ∙ c.self.inside.constraints.ok.0) in
    c.push_reserved.ensures.items ∙ ap (λ q. q ++ old ∷ []) c.in_ok-reserve.ensures.items ∙ ap (λ q. c.self.inside.parents.items ++ q ∷ []) same

pub invariant_of-self-2 : goal.invariant_of-self-2
invariant_of-self-2 c =
    let s = c.self.inside in
    let fits = sound_from s.declared s.constraints.items s.current.live c.in_ok-child.child c.self.invariant.scope.fit c.self.invariant.scope.live c.in_ok-child.ensures in
    subst (λ q. AreSound (box_of s.declared) s.constraints.items q c.push_reserved.new.self.items) (sym c.replace-scope.ensures.after)
    (sound_pushed (box_of s.declared) s.constraints.items s.current c.in_ok-child.child s.parents.items c.push_reserved.new.self.items c.self.invariant fits (subst (λ q. length (state_of q).parents + 1 < 200) (sym c.self.view_is) c.requires) (pushed c))

pub returns-clause-ok : goal.returns-clause-ok
returns-clause-ok c =
    let s = c.self.inside in
    let entered : Enters (state_of (stored s.declared s.branching s.constraints.items s.current s.parents.items s.failed)) (state_of (stored s.declared s.branching s.constraints.items c.in_ok-child.child c.push_reserved.new.self.items s.failed)) = enters_from s.declared s.branching s.constraints.items s.current.live s.current c.in_ok-child.child s.parents.items c.push_reserved.new.self.items s.failed c.in_ok-child.ensures (pushed c) in
    subst (λ q. Enters (state_of q) (state_of (stored s.declared s.branching s.constraints.items c.replace-scope.new.dest c.push_reserved.new.self.items s.failed))) c.self.view_is
    (subst (λ q. Enters (state_of (stored s.declared s.branching s.constraints.items s.current s.parents.items s.failed)) (state_of (stored s.declared s.branching s.constraints.items q c.push_reserved.new.self.items s.failed))) (sym c.replace-scope.ensures.after) entered)

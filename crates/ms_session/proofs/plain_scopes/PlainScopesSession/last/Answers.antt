use Rattle.std.proofs.Common.{◌≡◌, ◌∙◌, ap, sym, Some, length, ◌-◌}
use Rattle.std.specs.Prelude.{slice_get}
use Rattle.ms_session.specs.Scopes.{last_of}
use Rattle.ms_session.proofs.Beginnings.{last_at}
use Rattle.ms_session.proofs.plain_scopes.PlainScopesSession.last.Goals as goal

pub returns-in-Some : goal.returns-in-Some
returns-in-Some c =
    let at : Some c.in-Some.point.now ≡ slice_get c.self.inside.current.given.items (length c.self.inside.current.given.items - 1) = c.in-Some.ensures.value ∙ ap (λ q. slice_get q (length q - 1)) c.deref.ensures.value in
    let stored : last_of c.self.inside.current.given.items ≡ Some c.in-Some.point.now = last_at c.self.inside.current.given.items c.in-Some.point.now (sym at) in
    ap Some c.as_slice.ensures ∙ sym stored ∙ ap (λ s. last_of s.scope.given) c.self.view_is

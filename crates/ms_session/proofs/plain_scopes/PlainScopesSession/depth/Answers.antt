use Rattle.std.proofs.Common.{◌≡◌, ◌∙◌, ◌+◌, ap, sym, length}
use Rattle.ms_session.specs.Stored.{state_of}
use Rattle.ms_session.proofs.Stacks.{parents_length}
use Rattle.ms_session.proofs.plain_scopes.PlainScopesSession.depth.Goals as goal

pub returns : goal.returns
returns c =
    let stored : c.len.result ≡ length c.self.inside.parents.items = c.len.ensures ∙ c.self.inside.parents.ok.0 in
    ap (λ n. n + 1) (stored ∙ sym (parents_length c.self.inside.constraints.items c.self.inside.parents.items) ∙ ap (λ s. length (state_of s).parents) c.self.view_is)

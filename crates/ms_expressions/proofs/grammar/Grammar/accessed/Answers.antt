use Rattle.std.proofs.Common.{map, ap, sym, ◌∙◌}
use Rattle.ms_syntax.specs.Tree.{ex_view, subscript_view, subscripts_view}
use Rattle.ms_cursor.specs.Reading.{ok}
use Rattle.ms_expressions.specs.Rules.{under, accessing}
use Rattle.ms_expressions.proofs.Kept.{accessing_some}
use Rattle.ms_expressions.proofs.Views.{as_access}
use Rattle.ms_expressions.proofs.Where.{accessed_read}
use Rattle.ms_expressions.proofs.grammar.Grammar.accessed.Goals as goal

pub returns : goal.returns
returns g c =
    let d = c.args.self.now.depth in
    let found = c.in_ok-subscripts.subscripts in
    accessed_read d (under d) c.args.tokens.now c.atom.new.tokens c.many.new.tokens (ex_view c.in_ok-atom.atom) (map subscript_view found.items) c.in_ok-atom.ensures c.in_ok-subscripts.ensures
    ∙ ap (λ v. ok v c.many.new.tokens)
    (ap (λ p. accessing p (ex_view c.in_ok-atom.atom) (subscripts_view found.items)) (sym c.place-place.ensures) ∙ sym (accessing_some c.place-place.result (ex_view c.in_ok-atom.atom) found.items found.len c.if-is_empty.ensures found.ok.0)
    ∙ as_access c.place-place.result c.in_ok-atom-2.atom found c.in_ok-atom.atom (c.in_ok-atom-2.ensures {u = tt {0}}).ok)

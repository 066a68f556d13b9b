use Rattle.std.proofs.Common.{map, subst, sym, List, Bool, Vec, Global}
use Rattle.ms_syntax.specs.declared.tree.Declaration.{Declaration}
use Rattle.ms_syntax.specs.Tree.{Decl, declaration_view}
use Rattle.ms_cursor.specs.Reads.{Reads}
use Rattle.ms_expressions.proofs.Depth.{locals_inside}
use Rattle.ms_expressions.proofs.grammar.Grammar.locals_inside.Goals as goal

pub returns : goal.returns
returns g c =
    let view : Vec Declaration Global × Bool → List Decl × Bool = λ r. (map declaration_view r.0.items, r.1) in
    subst (λ o. Reads view o c.locals.result c.locals.new.tokens) (sym (locals_inside c.args.self.now.depth c.inside.result.depth c.args.tokens.now c.inside.ensures.depth)) c.locals.ensures

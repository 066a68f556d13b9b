use Rattle.std.proofs.Common.{rules, ◌≡◌, ◌<◌, ℕ, length, get_or, sym, ap, subst, ◌∙◌, refl}
use Rattle.std.proofs.lemmas.Result.{IfOk-weaker}
use Rattle.ms_graph.specs.declared.graph.Mark.TheVariants.{New}
use Rattle.ms_graph.specs.Search.{Met, Opens}
use Rattle.ms_graph.proofs.Places.{read_is}
use Rattle.ms_graph.proofs.Searches.{met_new, met_open, met_done}
use Rattle.ms_graph.proofs.graph.Search.meet.Goals as goal

pub returns-in-New-clause-met : goal.returns-in-New-clause-met
returns-in-New-clause-met c = λ g h top e.
    let mark = read_is c.args.self.now.marks.items c.args.target c.index.result.now New c.requires c.index.ensures ∙ c.in-New.is in
    IfOk-weaker c.open.result _ _ (λ x o. met_new g c.args.self.now c.open.new.self c.args.place c.args.target c.requires mark o h top e) c.open.ensures

pub returns-in-Open-clause-met : goal.returns-in-Open-clause-met
returns-in-Open-clause-met c = λ g h top e.
    let mark = read_is c.args.self.now.marks.items c.args.target c.index.result.now New c.requires c.index.ensures ∙ c.in-Open.is in
    met_open g c.args.self.now c.join.new.self c.args.place c.args.target _ mark c.join.ensures h top e

pub returns-in-Done-clause-met : goal.returns-in-Done-clause-met
returns-in-Done-clause-met c = λ g h top e.
    let mark = read_is c.args.self.now.marks.items c.args.target c.index.result.now New c.requires c.index.ensures ∙ c.in-Done.is in
    met_done g c.args.self.now _ c.args.place c.args.target mark refl refl refl refl refl refl h top

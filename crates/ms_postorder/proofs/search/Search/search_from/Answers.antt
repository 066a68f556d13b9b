use Rattle.std.proofs.Common.{◌<◌, length, map, false, sym, subst, ◌∙◌}
use Rattle.std.proofs.lemmas.Result.{IfOk-weaker}
use Rattle.std.proofs.lemmas.List.{length-map}
use Rattle.ms_postorder.proofs.Moves.{read_is, searched_new, searched_seen}
use Rattle.ms_postorder.proofs.search.Search.search_from.Goals as goal

pub returns-then-index : goal.returns-then-index
returns-then-index c =
    let inside : c.args.node < length c.args.self.now.seen.items =
    subst (λ n. c.args.node < n) (sym (c.requires.search.size ∙ length-map c.args.graph.now (λ v. v.items))) c.requires.inside in
    searched_seen (map (λ v. v.items) c.args.graph.now) c.args.self.now c.args.node c.requires.search c.requires.idle
    (read_is c.args.self.now.seen.items c.args.node c.index.result.now false inside c.index.ensures ∙ c.if-index.true)

pub returns : goal.returns
returns c =
    let inside : c.args.node < length c.args.self.now.seen.items =
    subst (λ n. c.args.node < n) (sym (c.requires.search.size ∙ length-map c.args.graph.now (λ v. v.items))) c.requires.inside in
    IfOk-weaker c.walk.result _ _ (λ x w. searched_new (map (λ v. v.items) c.args.graph.now) c.args.self.now c.enter.new.self c.walk.new.self c.args.node
    c.requires.search c.requires.idle
    (read_is c.args.self.now.seen.items c.args.node c.index.result.now false inside c.index.ensures ∙ c.if-index.false)
    c.in_ok-enter.ensures w) c.walk.ensures

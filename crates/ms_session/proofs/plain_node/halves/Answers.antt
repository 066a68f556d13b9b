use Rattle.std.proofs.Common.{◌≡◌, set, rules, ap, ◌∙◌, get_or}
use Rattle.ms_session.proofs.RangeBoxes.{read_unfixed, halves_from}
use Rattle.ms_session.proofs.plain_node.halves.Goals as goal

pub values_tried-requires-clause-unfixed : goal.values_tried-requires-clause-unfixed
values_tried-requires-clause-unfixed c = read_unfixed c.args.sets c.args.variable c.index-as_slice-variable.result c.requires.within (c.index-as_slice-variable.is ∙ ap (λ q. get_or q c.args.variable c.index-as_slice-variable.result) c.as_slice.ensures) c.requires.proper c.requires.unfixed

pub values_left-requires-clause-unfixed : goal.values_left-requires-clause-unfixed
values_left-requires-clause-unfixed c = read_unfixed c.args.sets c.args.variable c.index-as_slice-variable-2.result c.requires.within (c.index-as_slice-variable-2.is ∙ ap (λ q. get_or q c.args.variable c.index-as_slice-variable-2.result) c.as_slice-2.ensures) c.requires.proper c.requires.unfixed

pub returns : goal.returns
returns c =
    let first : c.from_vec.result ≡ set c.args.sets c.args.variable c.in_ok-tried.tried = search rules in
    let second : c.from_vec-2.result ≡ set c.args.sets c.args.variable c.in_ok-left.left = search rules in
    halves_from c.args.sets c.from_vec.result c.from_vec-2.result c.args.variable c.args.choice c.index-as_slice-variable.result c.index-as_slice-variable-2.result c.in_ok-tried.tried c.in_ok-left.left c.requires.within (c.index-as_slice-variable.is ∙ ap (λ q. get_or q c.args.variable c.index-as_slice-variable.result) c.as_slice.ensures) (c.index-as_slice-variable-2.is ∙ ap (λ q. get_or q c.args.variable c.index-as_slice-variable-2.result) c.as_slice-2.ensures) c.in_ok-tried.ensures c.in_ok-left.ensures first second
